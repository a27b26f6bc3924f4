-- Lists of bytes, read with zeros behind their end.
use Rattle.std.specs.Prelude.{ℕ, ◌+◌, max, List, [], length, slice_index, Option, None, Some}
use Rattle.object_log.specs.Bytes.{so_many, laid}

-- the bytes after others were laid over them from an offset on
abbrev pub written : List ℕ → ℕ → List ℕ → List ℕ
written old offset bytes =
    so_many (max (length old) (offset + length bytes)) (λ place. laid place offset bytes (slice_index old place))

-- no head has no bytes
abbrev pub or_empty : Option (List ℕ) → List ℕ
or_empty None = []
or_empty (Some bytes) = bytes

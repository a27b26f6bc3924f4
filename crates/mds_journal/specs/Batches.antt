-- Reading a batch from bytes.
use Rattle.std.specs.Prelude.{ℕ, List, Option, Some, None, ◌==◌, ◌||◌, length, take, drop, nat_lt, if◌then◌else◌}
use Rattle.journal_format.specs.Reading.{◌>>=◌, word_at}

-- so many bytes of entries, and what stands behind them; a batch isn't empty
abbrev pub body_of : ℕ → List ℕ → Option (List ℕ × List ℕ)
body_of count bytes = if count == 0 || nat_lt (length bytes) count then None else Some (take count bytes, drop count bytes)

-- the bytes of a batch's entries behind their length, and what stands behind them
unfoldable pub body_at : List ℕ → Option (List ℕ × List ℕ)
body_at bytes = word_at bytes >>= λ x. body_of x.0 x.1

-- The bytes of a file.
use Rattle.std.specs.Prelude.{ℕ, ◌+◌, ◌-◌, List, ◌++◌, length, take, drop, replicate}

-- so many bytes: the first of these, and zeros behind them
abbrev pub sized : ℕ → List ℕ → List ℕ
sized size bytes = take size bytes ++ replicate (size - length bytes) 0

-- the bytes with others written over them from an offset on; a gap is zero
abbrev pub written : ℕ → List ℕ → List ℕ → List ℕ
written offset new bytes = sized offset bytes ++ new ++ drop (offset + length new) bytes

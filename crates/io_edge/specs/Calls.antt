-- The calls of a form in memory: how they are counted, and which are to fail.
use Rattle.std.specs.Prelude.{ℕ, ◌+◌, ◌-◌, ◌^◌, min, Bool, ◌==◌, List}
use Rattle.std.specs.List.{list_any}

-- one more, up to the last u64
abbrev pub next_count : ℕ → ℕ
next_count n = min (n + 1) (2 ^ 64 - 1)

-- the call after these is listed to fail
abbrev pub is_next_listed : List ℕ → ℕ → Bool
is_next_listed failing calls = list_any (λ call. call == next_count calls) failing

-- What a call of the outside does to a count of faults, and to the bytes that were written.
use Rattle.std.specs.Prelude.{◌≡◌, ℕ, ◌-◌, ◌^◌, ◌<◌, ◌≤◌, ◌⊎◌, List, ◌++◌, length, take, ⊤, Option, None, Some}

-- the count has risen, or stands at the last value that an adapter's counter has
abbrev pub Rises : ℕ → ℕ → Type 0
Rises old new = (old < new) ⊎ (2 ^ 64 - 1 ≤ new)

-- known bytes stay known, and grow by some first bytes of these, perhaps none
abbrev pub AppendsSome : Option (List ℕ) → Option (List ℕ) → List ℕ → Type 0
AppendsSome None new bytes = ⊤
AppendsSome (Some xs) None bytes = ⊥
AppendsSome (Some xs) (Some ys) bytes = (n : ℕ) × (n ≤ length bytes) × (ys ≡ xs ++ take n bytes)

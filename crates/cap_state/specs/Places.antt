-- Where a client's holding of a file stands among all holdings.
use Rattle.std.specs.Prelude.{◌≡◌, ℕ, suc, ◌<◌, ◌≤◌, true, false, List, length, take, drop}
use Rattle.std.specs.List.{AllByRecursion, HoldsAt}
use Rattle.snap_ids.specs.declared.id.Ino.{Ino}
use Rattle.cap_state.specs.Table.{Holding, is_at, stands_before, stands_behind, clash}

-- it stands at this place
pub record IsPlace (client : ℕ) (ino : Ino) (held : List Holding) (place : ℕ) : Type 0 where
  pub within : place < length held
  pub before : AllByRecursion (λ h. stands_before client ino h ≡ true) (take place held)
  pub here : HoldsAt (λ h. is_at client ino h ≡ true) held place
  pub behind : AllByRecursion (λ h. stands_behind client ino h ≡ true) (drop (suc place) held)

-- it isn't there, and would stand at this place
pub record IsGap (client : ℕ) (ino : Ino) (held : List Holding) (place : ℕ) : Type 0 where
  pub within : place ≤ length held
  pub before : AllByRecursion (λ h. stands_before client ino h ≡ true) (take place held)
  pub behind : AllByRecursion (λ h. stands_behind client ino h ≡ true) (drop place held)

-- a holding that isn't the client's of this file doesn't clash with it
abbrev pub IsApart : Holding → Holding → Type 0
IsApart h g = is_at h.0 h.1.ino g ≡ false → clash h g ≡ false

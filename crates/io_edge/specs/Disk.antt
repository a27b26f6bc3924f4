-- What the calls of a disk do to its file, and what a crash may do between two syncs.
use Rattle.std.specs.Prelude.{◌≡◌, ℕ, ◌+◌, ◌-◌, ◌<◌, ◌≤◌, ◌⊎◌, min, List, [], ◌∷◌, ◌++◌, length, take, drop, replicate, Result, OnOk, IsErrOf}
use Rattle.io_edge.specs.declared.disk.DiskError.{DiskError}
use Rattle.io_edge.specs.declared.disk.DiskError.TheVariants.{Failed, NoMemory}

-- the file with these bytes at this place; zeros fill a gap behind its old end
abbrev pub written : ℕ → List ℕ → List ℕ → List ℕ
written place [] file = file
written place (byte ∷ bytes) file =
    take place file ++ replicate (place - length file) 0 ++ byte ∷ bytes ++ drop (place + length (byte ∷ bytes)) file

-- After a write of so many bytes that a crash cuts short: any bytes in its range and behind the old end, the same
-- elsewhere.
pub record Torn (place count : ℕ) (old new : List ℕ) : Type 0 where
  pub before : take (min place (length old)) new ≡ take place old
  pub after : drop (place + count) new ≡ drop (place + count) old
  pub no_shorter : length old ≤ length new

-- after a cut to a length that a crash cuts short: some length between
pub record Shortened (most : ℕ) (old new : List ℕ) : Type 0 where
  pub front : take (length new) old ≡ new
  pub no_shorter : min most (length old) ≤ length new

-- whatever a crash leaves now is what it may have left before, or that after the step
abbrev pub Follows : (List ℕ → List ℕ → Type 0) → (List ℕ → Type 0) → (List ℕ → Type 0) → Type 0
Follows step old new = (c : List ℕ) → new c → (d : List ℕ) × old d × step d c

-- a crash leaves this and nothing else
abbrev pub Only : List ℕ → (List ℕ → Type 0) → Type 0
Only file may_leave = (c : List ℕ) → may_leave c → c ≡ file

-- this moment is one of those since the earlier one
abbrev pub IsSince : {D : Type 0} → (D → List ℕ → Type 0) → (D → D → List ℕ → Type 0) → D → D → Type 0
IsSince may_leave left_since earlier now = (c : List ℕ) → may_leave now c → left_since earlier now c

-- Time passes in a call. Since any earlier moment, a crash may have left what it may have left before the call, and
-- what it may leave after it; nothing else.
pub record Passes {D : Type 0} (may_leave : D → List ℕ → Type 0) (left_since : D → D → List ℕ → Type 0) (old new : D) : Type 0 where
  pub nothing_else : (earlier : D) (c : List ℕ) → left_since earlier new c → left_since earlier old c ⊎ may_leave new c
  pub keeps : (earlier : D) (c : List ℕ) → left_since earlier old c → left_since earlier new c
  pub counts : (earlier : D) → IsSince may_leave left_since earlier old → IsSince may_leave left_since earlier new

-- A crash at any moment from old to new leaves a file that has P.
pub record LeavesOnly {D : Type 0} (left_since : D → D → List ℕ → Type 0) (old new : D) (P : List ℕ → Type 0) : Type 0 where
  pub each : (c : List ℕ) → left_since old new c → P c
  -- for a run that began earlier
  pub before : (earlier : D) (c : List ℕ) → left_since earlier new c → left_since earlier old c ⊎ P c

-- the count of faults rises where the disk failed, and nowhere else
pub record Counted {T : Type 0} (before now : ℕ) (result : Result T DiskError) : Type 0 where
  pub ok : OnOk result (now ≡ before)
  pub no_memory : IsErrOf result NoMemory → now ≡ before
  pub failed : IsErrOf result Failed → before < now

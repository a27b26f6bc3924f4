-- One change of a disk, and a sync behind it.
use Rattle.std.proofs.Common.{List, ℕ}
use Rattle.std.specs.Prelude.{◌↔◌}
use Rattle.io_edge.specs.Disk.{Follows, Passes, LeavesOnly}
use Rattle.io_edge.proofs.Moments.{started, goes_on}

module _ {D : Type 0} (may_leave : D → List ℕ → Type 0) (left_since : D → D → List ℕ → Type 0) (step : List ℕ → List ℕ → Type 0) (undone : (d : List ℕ) → step d d) (old mid : D)
    (now : (c : List ℕ) → left_since old old c ↔ may_leave old c) (time : Passes may_leave left_since old mid) (crash : Follows step (may_leave old) (may_leave mid)) where
  -- what the old disk may leave, or that after the change
  abbrev Left : List ℕ → Type 0
  Left c = (d : List ℕ) × may_leave old d × step d c

  -- after the change, done or not
  pub changed : LeavesOnly left_since old mid Left
  changed = goes_on may_leave left_since old old mid Left (started may_leave left_since old Left (λ c left. (c, (now c).0 left, undone c))) time crash

  -- after the sync
  pub put_on_disk : (new : D) → Passes may_leave left_since mid new → ((c : List ℕ) → may_leave new c → may_leave mid c) → LeavesOnly left_since old new Left
  put_on_disk new later same = goes_on may_leave left_since old mid new Left changed later (λ c left. crash c (same c left))

use Rattle.std.proofs.Common.{◌≡◌, drop}
use Rattle.held_files.specs.Due.{first_due}
use Rattle.cap_snap.specs.Places.{first_due_at}
use Rattle.cap_snap.proofs.snaps.CapSnaps.next_flush.Given as goal

abbrev pub invariant-loop-at : goal.invariant-loop-at
invariant-loop-at l = first_due_at l.reading l.self (drop l.at-index l.at-items) ≡ first_due l.reading l.self

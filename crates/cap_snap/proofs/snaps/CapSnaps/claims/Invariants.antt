use Rattle.std.proofs.Common.{◌≡◌, map, take}
use Rattle.held_files.specs.Files.{claim_of}
use Rattle.cap_snap.proofs.snaps.CapSnaps.claims.Given as goal

abbrev pub invariant-loop-at : goal.invariant-loop-at
invariant-loop-at l = l.list.items ≡ map claim_of (take l.at l.self)

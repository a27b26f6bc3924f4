use Rattle.std.proofs.Common.{◌≡◌, ◌++◌, take, drop, map}
use Rattle.snap_realm.specs.Walks.{unnamed}
use Rattle.snap_realm.proofs.snaps.unname_all.Given as goal

abbrev pub invariant-loop-snap : goal.invariant-loop-snap
invariant-loop-snap l = l.snap-items ≡ map (unnamed l.dir l.name) (take l.snap-index l.fn.snaps.items) ++ drop l.snap-index l.fn.snaps.items

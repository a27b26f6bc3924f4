use Rattle.std.proofs.Common.{◌≡◌, ◌++◌, take, drop, map}
use Rattle.object_clones.specs.Objects.{kept, without}
use Rattle.object_clones.proofs.object.purge_all.Given as goal

abbrev pub invariant-loop-saved : goal.invariant-loop-saved
invariant-loop-saved l = map kept l.saved-items ≡ map (without l.s) (take l.saved-index (map kept l.fn.clones.items)) ++ drop l.saved-index (map kept l.fn.clones.items)

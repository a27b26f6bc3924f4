use Rattle.std.proofs.Common.{◌≡◌, length}
use Rattle.snap_ids.specs.Context.{falls}
use Rattle.snap_ids.proofs.context.falls.Given as goal

-- what is left decides
abbrev pub invariant-loop-first : goal.invariant-loop-first
invariant-loop-first l = falls l.left ≡ falls l.ids

abbrev pub decreases-loop-first : goal.decreases-loop-first
decreases-loop-first l = length l.left

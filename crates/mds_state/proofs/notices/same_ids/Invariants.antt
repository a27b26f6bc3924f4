use Rattle.std.proofs.Common.{◌≡◌, length}
use Rattle.step_table.specs.Acts.{same_ids}
use Rattle.mds_state.proofs.notices.same_ids.Given as goal

abbrev pub invariant-loop-first : goal.invariant-loop-first
invariant-loop-first l = same_ids l.left l.other ≡ same_ids l.before l.now

abbrev pub decreases-loop-first : goal.decreases-loop-first
decreases-loop-first l = length l.left

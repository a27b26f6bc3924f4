use Rattle.std.proofs.Common.{◌≡◌, length}
use Rattle.step_table.specs.Flushes.{not_of}
use Rattle.held_requests.proofs.waiting.Waiting.take_of.Given as goal

abbrev pub invariant-loop-next : goal.invariant-loop-next
invariant-loop-next l = not_of l.client l.self ≡ not_of l.client l.initial.self

abbrev pub decreases-loop-next : goal.decreases-loop-next
decreases-loop-next l = length l.self

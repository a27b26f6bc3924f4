use Rattle.std.proofs.Common.{◌≡◌}
use Rattle.held_requests.specs.Waits.{all_wait_at}
use Rattle.held_requests.proofs.waiting.Waiting.all_wait_at.Given as goal

abbrev pub invariant-loop-client : goal.invariant-loop-client
invariant-loop-client l = all_wait_at l.number l.clients l.self ≡ all_wait_at l.number l.client l.self

abbrev pub decreases-loop-client : goal.decreases-loop-client
decreases-loop-client l = l.client

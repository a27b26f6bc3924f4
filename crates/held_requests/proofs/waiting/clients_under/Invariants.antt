use Rattle.std.proofs.Common.{◌≡◌, ◌++◌, drop}
use Rattle.held_requests.specs.Kept.{listed}
use Rattle.held_requests.specs.Waits.{clients_of}
use Rattle.held_requests.proofs.waiting.clients_under.Given as goal

abbrev pub invariant-loop-key : goal.invariant-loop-key
invariant-loop-key l = l.clients.items ++ clients_of (listed l.asked (drop l.key-index l.keys)) ≡ clients_of (listed l.asked l.keys)

use Rattle.std.proofs.Common.{◌≡◌, ◌+◌, ◌-◌, ◌≤◌, ℕ, [], length, replicate}
use Rattle.node_channels.proofs.lanes.empty.Given as goal

-- there are at most so many channels, and all of them are empty
abbrev pub invariant-loop-alloc : goal.invariant-loop-alloc
invariant-loop-alloc l = record {
  few : length l.queues.items ≤ l.clients + 2;
  none : l.queues.items ≡ replicate (length l.queues.items) [];
}

abbrev pub decreases-loop-alloc : goal.decreases-loop-alloc
decreases-loop-alloc l = l.clients + 2 - length l.queues.items

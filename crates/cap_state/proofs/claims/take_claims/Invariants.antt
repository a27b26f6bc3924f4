use Rattle.std.proofs.Common.{◌≡◌, ◌+◌, ◌≤◌, length, vec_len, vec_capacity}
use Rattle.cap_state.specs.Table.{IsTable, claimed}
use Rattle.cap_state.proofs.claims.take_claims.Given as goal

-- what is left leads to what all lead to
abbrev pub invariant-loop-claim : goal.invariant-loop-claim
invariant-loop-claim l = record {
  table : IsTable l.held.items;
  room : vec_len l.held + length l.left ≤ vec_capacity l.held;
  same : claimed l.client l.left l.held.items ≡ claimed l.client l.claims l.fn.held.items;
}

abbrev pub decreases-loop-claim : goal.decreases-loop-claim
decreases-loop-claim l = length l.left

use Rattle.std.proofs.Common.{◌≡◌}
use Rattle.mds_requests.specs.Passes.{Pass, passes}
use Rattle.mds_requests.specs.Ready.{IsReady}
use Rattle.mds_requests.specs.Rounds.{StandsAt}
use Rattle.mds_requests.proofs.Passing.{Toward}
use Rattle.mds_requests.proofs.rounds.pass_often.Given as goal

-- what is left leads to the same state
abbrev pub invariant-loop-left : goal.invariant-loop-left
invariant-loop-left l = record {
  clients : l.state.clients ≡ l.fn.state.clients;
  toward : (r : Pass) → StandsAt l.fn.state l.opened r → IsReady r.state (passes l.many r).state
      → Toward (passes l.many r).state l.left l.state l.again (passes l.many r);
}

abbrev pub decreases-loop-left : goal.decreases-loop-left
decreases-loop-left l = l.left

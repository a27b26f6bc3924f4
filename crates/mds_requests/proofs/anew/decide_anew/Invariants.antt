use Rattle.std.proofs.Common.{◌≡◌, drop}
use Rattle.step_table.specs.Acts.{acts}
use Rattle.step_table.specs.Requests.{decide_anew}
use Rattle.step_table.specs.ServerState.{Server}
use Rattle.mds_state.specs.Acted.{Stands}
use Rattle.mds_requests.specs.Ready.{IsReady}
use Rattle.mds_requests.proofs.Turned.{Left}
use Rattle.mds_requests.proofs.anew.decide_anew.Given as goal

-- what is left leads to the same acts
abbrev pub invariant-loop-client : goal.invariant-loop-client
invariant-loop-client l = record {
  clients : l.state.clients ≡ l.fn.state.clients;
  left : (s : Server) → Stands l.fn.state s → IsReady s (acts s (decide_anew s)) → Left s l.state l.opened (drop l.client-index l.client-items);
}

use Rattle.std.proofs.Common.{◌≡◌, Option, length}
use Rattle.step_table.specs.ServerState.{Asked, Server}
use Rattle.mds_state.specs.Stands.{StandsFor}
use Rattle.mds_asks.specs.Others.{AreOthers}
use Rattle.mds_asks.proofs.Recalled.{Leads}
use Rattle.mds_asks.proofs.caps.recall_all.Given as goal

-- what is left leads to the same state
abbrev pub invariant-loop-client : goal.invariant-loop-client
invariant-loop-client l = record {
  are : AreOthers l.state.clients l.left;
  clients : l.state.clients ≡ l.fn.state.clients;
  table : (s : Server) (taken : Option Asked) → StandsFor l.fn.state taken s → Leads l.state taken l.ino l.left s l.others;
}

abbrev pub decreases-loop-client : goal.decreases-loop-client
decreases-loop-client l = length l.left

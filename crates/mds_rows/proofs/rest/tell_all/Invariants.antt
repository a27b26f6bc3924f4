use Rattle.std.proofs.Common.{◌≡◌, ◌≤◌, ◌-◌, map, Option}
use Rattle.step_table.specs.Acts.{acts, TellRestart}
use Rattle.step_table.specs.ServerState.{Asked, Server, up_to}
use Rattle.mds_state.specs.Stands.{StandsFor}
use Rattle.mds_rows.proofs.rest.tell_all.Given as goal

-- those up to here are told
abbrev pub invariant-loop-done : goal.invariant-loop-done
invariant-loop-done l = record {
  upto : l.done ≤ l.clients;
  many : l.clients ≡ l.fn.state.clients;
  clients : l.state.clients ≡ l.fn.state.clients;
  table : (s : Server) (taken : Option Asked) → StandsFor l.fn.state taken s → StandsFor l.state taken (acts s (map TellRestart (up_to l.done)));
}

abbrev pub decreases-loop-done : goal.decreases-loop-done
decreases-loop-done l = l.clients - l.done

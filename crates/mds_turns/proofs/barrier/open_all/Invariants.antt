use Rattle.std.proofs.Common.{◌≡◌, ◌≤◌, ◌-◌}
use Rattle.std.specs.Prelude.{flat_map}
use Rattle.step_table.specs.Acts.{acts}
use Rattle.step_table.specs.Background.{open_to}
use Rattle.step_table.specs.ServerState.{Server, up_to}
use Rattle.mds_state.specs.Acted.{Stands}
use Rattle.mds_turns.proofs.barrier.open_all.Given as goal

-- those up to here are answered
abbrev pub invariant-loop-done : goal.invariant-loop-done
invariant-loop-done l = record {
  upto : l.done ≤ l.clients;
  many : l.clients ≡ l.fn.state.clients;
  clients : l.state.clients ≡ l.fn.state.clients;
  table : (s : Server) → Stands l.fn.state s → Stands l.state (acts s (flat_map open_to (up_to l.done)));
}

abbrev pub decreases-loop-done : goal.decreases-loop-done
decreases-loop-done l = l.clients - l.done

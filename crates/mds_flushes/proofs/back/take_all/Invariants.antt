use Rattle.std.proofs.Common.{◌≡◌, length, true, Option}
use Rattle.std.specs.List.{list_all}
use Rattle.step_table.specs.Acts.{acts, each}
use Rattle.step_table.specs.Flushes.{take_brought}
use Rattle.step_table.specs.Messages.{flush_fits}
use Rattle.step_table.specs.ServerState.{Asked, Server}
use Rattle.mds_state.specs.Stands.{StandsFor}
use Rattle.mds_flushes.specs.Takes.{KnowsAll, is_known}
use Rattle.mds_flushes.proofs.Taken.{Leads}
use Rattle.mds_flushes.proofs.back.take_all.Given as goal

-- what is left leads to the same state
abbrev pub invariant-loop-flush : goal.invariant-loop-flush
invariant-loop-flush l = record {
  clients : l.state.clients ≡ l.fn.state.clients;
  known : KnowsAll l.state l.left;
  fit : list_all flush_fits l.left ≡ true;
  table : (s : Server) (taken : Option Asked) → StandsFor l.fn.state taken s → list_all (is_known s) l.fn.flushes ≡ true
      → Leads l.state taken l.client l.left (acts s (each (take_brought l.client) s l.fn.flushes));
}

abbrev pub decreases-loop-flush : goal.decreases-loop-flush
decreases-loop-flush l = length l.left

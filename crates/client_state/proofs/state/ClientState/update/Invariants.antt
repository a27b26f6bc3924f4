use Rattle.std.proofs.Common.{◌≡◌, true, length}
use Rattle.std.specs.List.{list_all}
use Rattle.step_table.specs.Messages.{trace_fits}
use Rattle.step_table.specs.ClientTakes.{updated}
use Rattle.client_state.proofs.state.ClientState.update.Given as goal

abbrev pub invariant-loop-file : goal.invariant-loop-file
invariant-loop-file l = record {
  same : updated l.self l.left ≡ updated l.fn.self l.fn.update;
  fit : list_all trace_fits l.left ≡ true;
}

abbrev pub decreases-loop-file : goal.decreases-loop-file
decreases-loop-file l = length l.left

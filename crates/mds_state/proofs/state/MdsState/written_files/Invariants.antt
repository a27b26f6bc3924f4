use Rattle.std.proofs.Common.{◌≡◌, ◌++◌, map, length, true, Option}
use Rattle.std.specs.List.{list_all}
use Rattle.step_table.specs.Messages.{plain_trace, trace_fits}
use Rattle.step_table.specs.ServerState.{Asked, Server, trace_of, written_by}
use Rattle.mds_state.specs.Stands.{StandsFor}
use Rattle.mds_state.specs.Writers.{is_made_held, written_in}
use Rattle.mds_state.proofs.state.MdsState.written_files.Given as goal

-- what was told, and what is left
abbrev pub invariant-loop-held : goal.invariant-loop-held
invariant-loop-held l = record {
  fits : list_all trace_fits l.files.items ≡ true;
  made : (s : Server) (taken : Option Asked) → StandsFor l.fn.self taken s → list_all (is_made_held s.entries) l.left ≡ true;
  same : (s : Server) (taken : Option Asked) → StandsFor l.fn.self taken s
      → map plain_trace l.files.items ++ map (trace_of s) (written_in l.client l.left) ≡ map (trace_of s) (written_by s l.client);
}

abbrev pub decreases-loop-held : goal.decreases-loop-held
decreases-loop-held l = length l.left

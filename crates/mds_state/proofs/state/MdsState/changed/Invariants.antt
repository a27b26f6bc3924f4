use Rattle.std.proofs.Common.{◌≡◌, ◌++◌, map, length, true, Option}
use Rattle.std.specs.List.{list_all}
use Rattle.step_table.specs.Messages.{plain_trace, trace_fits}
use Rattle.step_table.specs.ServerState.{Asked, Server, trace_of}
use Rattle.mds_state.specs.Changed.{changed_in, is_made_kept}
use Rattle.mds_state.specs.Stands.{StandsFor}
use Rattle.mds_state.proofs.state.MdsState.changed.Given as goal

-- what was told, and what is left
abbrev pub invariant-loop-first : goal.invariant-loop-first
invariant-loop-first l = record {
  fits : list_all trace_fits l.files.items ≡ true;
  made : (s : Server) (taken : Option Asked) → StandsFor l.fn.self taken s → list_all (is_made_kept s.entries) l.fn.kept ≡ true → list_all (is_made_kept s.entries) l.left ≡ true;
  same : (s : Server) (taken : Option Asked) → StandsFor l.fn.self taken s → list_all (is_made_kept s.entries) l.fn.kept ≡ true
      → map plain_trace l.files.items ++ map (trace_of s) (changed_in s.entries l.client l.left) ≡ map (trace_of s) (changed_in s.entries l.client l.fn.kept);
}

abbrev pub decreases-loop-first : goal.decreases-loop-first
decreases-loop-first l = length l.left

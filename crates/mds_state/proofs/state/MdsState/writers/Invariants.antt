use Rattle.std.proofs.Common.{◌≡◌, ◌++◌, length, true, Option}
use Rattle.std.specs.List.{list_all}
use Rattle.step_table.specs.ServerState.{Asked, Server}
use Rattle.mds_state.specs.Changed.{kept_in}
use Rattle.mds_state.specs.Stands.{StandsFor}
use Rattle.mds_state.specs.Writers.{is_made_held}
use Rattle.mds_state.proofs.state.MdsState.writers.Given as goal

-- what was kept, and what is left
abbrev pub invariant-loop-held : goal.invariant-loop-held
invariant-loop-held l = record {
  made : (s : Server) (taken : Option Asked) → StandsFor l.fn.self taken s → list_all (is_made_held s.entries) l.left ≡ true;
  same : (s : Server) (taken : Option Asked) → StandsFor l.fn.self taken s
      → l.kept.items ++ kept_in s.entries l.left ≡ kept_in s.entries l.fn.self.tenures.holdings;
}

abbrev pub decreases-loop-held : goal.decreases-loop-held
decreases-loop-held l = length l.left

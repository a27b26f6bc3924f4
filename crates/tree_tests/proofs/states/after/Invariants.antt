use Rattle.std.proofs.Common.{take}
use Rattle.meta_state.specs.Stands.{StandsFor}
use Rattle.tree_tests.proofs.states.after.Given as goal

-- the state stands for the entries so far
abbrev pub invariant-loop-entry : goal.invariant-loop-entry
invariant-loop-entry l = StandsFor l.state (take l.entry-index l.entries)

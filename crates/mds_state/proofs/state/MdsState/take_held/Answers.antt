use Rattle.std.proofs.Common.{subst, sym}
use Rattle.mds_state.specs.Parts.{Parts}
use Rattle.mds_state.specs.Stands.{StandsFor}
use Rattle.mds_state.proofs.Waits.{takes_held}
use Rattle.mds_state.proofs.state.MdsState.take_held.Goals as goal

pub returns-clause-table : goal.returns-clause-table
returns-clause-table c = λ s taken stands.
    takes_held _ taken s (subst (λ (p : Parts). StandsFor p taken s) (sym c.self.view_is) stands) c.args.client _ _ c.take_of.ensures.taken c.take_of.ensures.left

use Rattle.std.proofs.Common.{subst, sym}
use Rattle.mds_state.specs.Parts.{Parts}
use Rattle.mds_state.specs.Stands.{StandsFor}
use Rattle.mds_state.proofs.Waits.{takes_operation}
use Rattle.mds_state.proofs.state.MdsState.take_operation.Goals as goal

pub returns-clause-table : goal.returns-clause-table
returns-clause-table c = λ s taken stands.
    rw (c.take.ensures.value, c.take.ensures.after)
    (takes_operation _ taken s (subst (λ (p : Parts). StandsFor p taken s) (sym c.self.view_is) stands))

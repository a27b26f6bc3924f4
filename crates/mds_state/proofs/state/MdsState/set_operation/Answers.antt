use Rattle.std.proofs.Common.{Some, subst, sym}
use Rattle.mds_state.specs.Parts.{Parts}
use Rattle.mds_state.specs.Stands.{StandsFor}
use Rattle.mds_state.proofs.Waits.{prepared, may_still}
use Rattle.mds_state.proofs.state.MdsState.set_operation.Goals as goal

pub returns-clause-may : goal.returns-clause-may
returns-clause-may c = λ entry is.
    may_still _ c.args.asked entry _ is (subst (λ (p : Parts). StandsFor p is.taken is.state) (sym c.self.view_is) is.stands)

pub returns-clause-table : goal.returns-clause-table
returns-clause-table c = λ s stands.
    prepared _ (Some c.args.asked) c.args.asked s (subst (λ (p : Parts). StandsFor p (Some c.args.asked) s) (sym c.self.view_is) stands)

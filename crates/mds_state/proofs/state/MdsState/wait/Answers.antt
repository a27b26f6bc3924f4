use Rattle.std.proofs.Common.{Some, subst, sym}
use Rattle.mds_state.specs.Parts.{Parts}
use Rattle.mds_state.specs.Stands.{StandsFor}
use Rattle.mds_state.proofs.Waits.{waits}
use Rattle.mds_state.proofs.state.MdsState.wait.Goals as goal

pub returns-clause-table : goal.returns-clause-table
returns-clause-table c = λ s stands.
    rw c.in_ok-push_back.ensures.waits (waits _ c.args.asked s (subst (λ (p : Parts). StandsFor p (Some c.args.asked) s) (sym c.self.view_is) stands))

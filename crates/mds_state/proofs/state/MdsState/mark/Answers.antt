use Rattle.std.proofs.Common.{subst, sym}
use Rattle.mds_state.specs.Parts.{Parts}
use Rattle.mds_state.specs.Stands.{StandsFor}
use Rattle.mds_state.proofs.Acted.{marks}
use Rattle.mds_state.proofs.state.MdsState.mark.Goals as goal

pub returns-clause-table : goal.returns-clause-table
returns-clause-table c = λ s taken stands.
    let now = subst (λ (p : Parts). StandsFor p taken s) (sym c.self.view_is) stands in
    rw c.in_ok-mark.ensures
    (marks _ taken s now c.args.client c.args.ino (c.a_recall_is_marked.ensures _ _ s c.args.client c.args.ino now.tenures.stands))

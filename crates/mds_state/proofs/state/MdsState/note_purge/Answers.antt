use Rattle.std.proofs.Common.{subst, sym}
use Rattle.mds_state.specs.Parts.{Parts}
use Rattle.mds_state.specs.Stands.{StandsFor}
use Rattle.mds_state.proofs.Told.{purge_sent}
use Rattle.mds_state.proofs.state.MdsState.note_purge.Goals as goal

pub returns-clause-table : goal.returns-clause-table
returns-clause-table c = λ s taken stands.
    rw c.in_ok-push.ensures.items
    (purge_sent _ taken s c.args.id (subst (λ (p : Parts). StandsFor p taken s) (sym c.self.view_is) stands))

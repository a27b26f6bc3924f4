use Rattle.std.proofs.Common.{subst, sym}
use Rattle.mds_state.specs.Parts.{Parts}
use Rattle.mds_state.specs.Stands.{StandsFor}
use Rattle.mds_state.proofs.Told.{mailed}
use Rattle.mds_state.proofs.state.MdsState.send.Goals as goal

pub returns-clause-sent : goal.returns-clause-sent
returns-clause-sent c = λ s taken letter stands plain.
    let now = subst (λ (p : Parts). StandsFor p taken s) (sym c.self.view_is) stands in
    rw c.in_ok-push_back.ensures.items
    (mailed _ taken s c.entries-number.result _ letter now (c.entries-number.ensures s.clients s.entries s.durable now.written) plain c.requires)

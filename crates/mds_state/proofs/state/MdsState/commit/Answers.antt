use Rattle.std.proofs.Common.{subst, sym, ◌∙◌}
use Rattle.mds_state.specs.Parts.{Parts}
use Rattle.mds_state.specs.Stands.{StandsFor}
use Rattle.mds_state.proofs.Handed.{effects_are, commits}
use Rattle.mds_state.proofs.state.MdsState.commit.Goals as goal

pub returns-clause-effects : goal.returns-clause-effects
returns-clause-effects c = λ s taken stands.
    let now = subst (λ (p : Parts). StandsFor p taken s) (sym c.self.view_is) stands in
    c.in_ok-effects.ensures.effects ∙ effects_are _ taken s now

pub returns-clause-table : goal.returns-clause-table
returns-clause-table c = λ s taken stands.
    let now = subst (λ (p : Parts). StandsFor p taken s) (sym c.self.view_is) stands in
    commits _ taken s now c.commit.new.self (c.in_ok-effects.ensures.stands s.clients s.entries s.durable now.written)

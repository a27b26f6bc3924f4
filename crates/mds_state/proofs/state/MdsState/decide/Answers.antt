use Rattle.std.proofs.Common.{subst, sym}
use Rattle.meta_state.specs.Stands as meta
use Rattle.meta_state.specs.Stands.{Tables}
use Rattle.mds_state.specs.Parts.{Parts}
use Rattle.mds_state.proofs.state.MdsState.decide.Goals as goal

pub decide-requires : goal.decide-requires
decide-requires c =
    let is = c.requires.state in
    record {
      state = record {
        entries = is.state.entries;
        stands = subst (λ (t : Tables). meta.StandsFor t is.state.entries) (sym c.tree.ensures) (subst (λ (p : Parts). meta.StandsFor p.written.tree is.state.entries) (sym c.self.view_is) is.stands.written.tree);
      };
    }

pub returns-clause-written : goal.returns-clause-written
returns-clause-written c = λ s taken change stands.
    c.in_ok-decision.ensures.written s.entries change (subst (λ (t : Tables). meta.StandsFor t s.entries) (sym c.tree.ensures) (subst (λ (p : Parts). meta.StandsFor p.written.tree s.entries) (sym c.self.view_is) stands.written.tree))

pub returns-clause-legal : goal.returns-clause-legal
returns-clause-legal c = λ s taken stands.
    c.in_ok-decision.ensures.legal s.entries (subst (λ (t : Tables). meta.StandsFor t s.entries) (sym c.tree.ensures) (subst (λ (p : Parts). meta.StandsFor p.written.tree s.entries) (sym c.self.view_is) stands.written.tree))

pub returns-clause-refused : goal.returns-clause-refused
returns-clause-refused c = λ s taken refusal stands.
    c.in_ok-decision.ensures.refused s.entries refusal (subst (λ (t : Tables). meta.StandsFor t s.entries) (sym c.tree.ensures) (subst (λ (p : Parts). meta.StandsFor p.written.tree s.entries) (sym c.self.view_is) stands.written.tree))

pub returns-clause-answered : goal.returns-clause-answered
returns-clause-answered c = λ s taken stands.
    c.in_ok-decision.ensures.answered s.entries (subst (λ (t : Tables). meta.StandsFor t s.entries) (sym c.tree.ensures) (subst (λ (p : Parts). meta.StandsFor p.written.tree s.entries) (sym c.self.view_is) stands.written.tree))

use Rattle.std.proofs.Common.{subst, sym}
use Rattle.meta_state.specs.Stands as meta
use Rattle.meta_state.specs.Stands.{Tables}
use Rattle.mds_state.specs.Parts.{Parts}
use Rattle.mds_state.proofs.state.MdsState.answer_to.Goals as goal

pub answer-requires : goal.answer-requires
answer-requires c =
    let is = c.requires.state in
    record {
      state = record {
        entries = is.state.entries;
        stands = subst (λ (t : Tables). meta.StandsFor t is.state.entries) (sym c.tree.ensures) (subst (λ (p : Parts). meta.StandsFor p.written.tree is.state.entries) (sym c.self.view_is) is.stands.written.tree);
      };
    }

pub returns : goal.returns
returns c = record {
  answered = λ s taken stands past.
      c.in_ok-answer.ensures.answered s.entries (subst (λ (t : Tables). meta.StandsFor t s.entries) (sym c.tree.ensures) (subst (λ (p : Parts). meta.StandsFor p.written.tree s.entries) (sym c.self.view_is) stands.written.tree)) past;
}

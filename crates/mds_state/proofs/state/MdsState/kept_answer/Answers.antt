use Rattle.std.proofs.Common.{ℕ, ◌≤◌, ◌∙◌, ap, sym, subst}
use Rattle.session_link.specs.Sessions.{kept_for}
use Rattle.mds_state.proofs.Seats.{kept_is}
use Rattle.mds_state.proofs.state.MdsState.kept_answer.Goals as goal

pub returns : goal.returns
returns c = λ s taken stands.
    c.completed.ensures
    ∙ ap (λ (tid : ℕ). kept_for tid c.session.result.now.completed) c.tid.ensures
    ∙ kept_is c.args.self.now taken s stands c.client.result (subst (λ (n : ℕ). 1 ≤ n) (sym c.client.ensures) c.requires.from_one)
    (subst (λ (n : ℕ). n ≤ c.args.self.now.clients) (sym c.client.ensures) c.requires.upto) c.session.result.now c.session.ensures c.args.asked.now (sym c.client.ensures)

use Rattle.std.proofs.Common.{ℕ, None, Option, subst, sym, ◌∙◌}
use Rattle.step_table.specs.Background as background
use Rattle.mds_turns.specs.Turned.{Turned}
use Rattle.mds_turns.proofs.barrier.turn_barrier.Goals as goal

pub returns-in-None-clause-acts : goal.returns-in-None-clause-acts
returns-in-None-clause-acts c = λ s stands.
    subst (λ (o : Option ℕ). Turned c.args.state.now s (background.turn_barrier s o) None) (sym (sym (c.first_barrier.ensures s s.hand stands) ∙ c.in-None.is)) stands

pub returns-in_ok-done-in-Some-clause-acts : goal.returns-in_ok-done-in-Some-clause-acts
returns-in_ok-done-in-Some-clause-acts c = λ s stands.
    subst (λ (o : Option ℕ). Turned c.pass_where_all_wait.new.state s (background.turn_barrier s o) c.in_ok-done-in-Some.done) (sym (sym (c.first_barrier.ensures s s.hand stands) ∙ c.in-Some.is))
    (c.in_ok-done-in-Some.ensures.acts s stands)

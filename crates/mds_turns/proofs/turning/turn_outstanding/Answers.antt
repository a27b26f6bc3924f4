use Rattle.std.proofs.Common.{◌≡◌, true, false, Bool, cond, subst, sym, ◌∙◌}
use Rattle.std.specs.Prelude.{nat_le}
use Rattle.step_table.specs.Background as background
use Rattle.step_table.specs.Background.{least, unsent_purges}
use Rattle.mds_turns.specs.Turned.{Turned}
use Rattle.mds_turns.proofs.turning.turn_outstanding.Goals as goal

pub returns-then-is_durable-clause-acts : goal.returns-then-is_durable-clause-acts
returns-then-is_durable-clause-acts c = λ s stands fit asks out.
    let test : nat_le c.args.number s.durable ≡ true = sym (c.is_durable.ensures s s.hand stands) ∙ c.if-is_durable.true in
    subst (λ (b : Bool). Turned c.turn_operation.new.state s (cond b (background.turn_operation s c.args.id s.operation) (background.turn_purge s (least (unsent_purges s)))) c.in_ok-done.done) (sym test)
    (c.in_ok-done.ensures.acts s c.args.number stands fit asks out)

pub returns-clause-acts : goal.returns-clause-acts
returns-clause-acts c = λ s stands fit asks out.
    let test : nat_le c.args.number s.durable ≡ false = sym (c.is_durable.ensures s s.hand stands) ∙ c.if-is_durable.false in
    subst (λ (b : Bool). Turned c.turn_purge.new.state s (cond b (background.turn_operation s c.args.id s.operation) (background.turn_purge s (least (unsent_purges s)))) c.in_ok-left.left) (sym test)
    (c.in_ok-left.ensures.acts s stands)

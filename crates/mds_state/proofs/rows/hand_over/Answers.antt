use Rattle.std.proofs.Common.{◌≤◌, ◌++◌, ◌∷◌, [], List, ℕ, ap, sym, ◌∙◌, arith, append_assoc}
use Rattle.plain_types.specs.declared.history.Sent.{Sent}
use Rattle.step_table.specs.Acts.{goes, waits}
use Rattle.mds_state.proofs.Handed.{goes_on, waits_on}
use Rattle.mds_state.proofs.rows.hand_over.Goals as goal

pub loop-letter-preserved : goal.loop-letter-preserved
loop-letter-preserved c =
    let low : c.in-Some.letter.0 ≤ c.args.durable = omega arith in (
      (λ i. c.in_ok-push.ensures.items i ++ goes c.args.durable c.pop_front.new.self.items)
          ∙ append_assoc c.loop-letter.sent.items (c.in-Some.letter.1 ∷ []) (goes c.args.durable c.pop_front.new.self.items)
          ∙ ap (λ (l : List Sent). c.loop-letter.sent.items ++ l) (sym (goes_on c.args.durable c.in-Some.letter c.pop_front.new.self.items low))
          ∙ ap (λ (l : List (ℕ × Sent)). c.loop-letter.sent.items ++ goes c.args.durable l) (sym c.in-Some.ensures.items)
          ∙ c.loop-letter.invariant.0,
      sym (waits_on c.args.durable c.in-Some.letter c.pop_front.new.self.items low)
          ∙ ap (waits c.args.durable) (sym c.in-Some.ensures.items)
          ∙ c.loop-letter.invariant.1,
    )

use Rattle.std.proofs.Common.{ℕ, ◌≤◌, None, Some, refl, ap, sym, subst, ◌∙◌}
use Rattle.plain_types.specs.declared.answer.Answer.{Answer}
use Rattle.step_table.specs.Acts.{AnswerIt, act}
use Rattle.step_table.specs.Capabilities.{owing}
use Rattle.step_table.specs.Requests.{settled_answer}
use Rattle.mds_state.specs.Stands.{StandsFor}
use Rattle.mds_asks.proofs.Acting.{one_act}
use Rattle.mds_asks.proofs.sight.tell_settled.Goals as goal

pub owing-requires : goal.owing-requires
owing-requires c = let is = c.requires in record { state = record { taken = Some c.args.asked.now; state = is.state; stands = is.stands } }

pub answer-requires : goal.answer-requires
answer-requires c =
    let is = c.requires in
    record {
      from_one = is.fit.from_one;
      upto = subst (λ (n : ℕ). c.args.asked.now.client ≤ n) (sym is.stands.clients) is.fit.upto;
    }

pub returns-clause-acts : goal.returns-clause-acts
returns-clause-acts c = λ s stands fresh.
    let same = c.settled_answer-settled.ensures ∙ ap (settled_answer c.args.answer) (c.in_ok-owes.ensures s (Some c.args.asked.now) stands fresh) in
    one_act c.answer.new.self None s (AnswerIt (settled_answer c.args.answer (owing s c.args.ino c.args.id)))
    (subst (λ (x : Answer). StandsFor c.answer.new.self None (act s (AnswerIt x))) same (c.in_ok-answer.ensures.table s stands)) refl

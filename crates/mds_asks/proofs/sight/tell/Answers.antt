use Rattle.std.proofs.Common.{ℕ, ◌≤◌, None, refl, sym, subst}
use Rattle.step_table.specs.Acts.{AnswerIt}
use Rattle.mds_asks.proofs.Acting.{one_act}
use Rattle.mds_asks.proofs.sight.tell.Goals as goal

pub answer-requires : goal.answer-requires
answer-requires c =
    let is = c.requires in
    record {
      from_one = is.fit.from_one;
      upto = subst (λ (n : ℕ). c.args.asked.now.client ≤ n) (sym is.stands.clients) is.fit.upto;
    }

pub returns-clause-acts : goal.returns-clause-acts
returns-clause-acts c = λ s stands. one_act c.answer.new.self None s (AnswerIt c.args.answer) (c.in_ok-answer.ensures.table s stands) refl

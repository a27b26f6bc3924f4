use Rattle.std.proofs.Common.{◌≡◌, ◌++◌, sym, subst, ◌∙◌}
use Rattle.reply_text.specs.Answer.{answer_text}
use Rattle.reply_text.specs.Plain.{IsPlain}
use Rattle.reply_text.proofs.PlainTexts.{plain_answer}
use Rattle.reply_text.proofs.objects.answer_string.Goals as goal

-- the text is the answer's
pub string_of-requires : goal.string_of-requires
string_of-requires c =
    let written : c.push_answer.new.out.items ≡ answer_text c.args.answer.now = c.in_ok-push_answer.ensures.pushed ∙ (λ i. c.new-text.ensures.items i ++ answer_text c.args.answer.now) in
    subst IsPlain (sym written) (plain_answer c.args.answer.now c.in_ok-push_answer.ensures.plain)

pub returns-clause-plain : goal.returns-clause-plain
returns-clause-plain c = plain_answer c.args.answer.now c.in_ok-push_answer.ensures.plain

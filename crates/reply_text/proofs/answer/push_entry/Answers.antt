use Rattle.reply_text.proofs.PlainTexts.{plain_entry}
use Rattle.reply_text.proofs.answer.push_entry.Goals as goal

pub returns-in_ok-push-in-Dir-clause-plain : goal.returns-in_ok-push-in-Dir-clause-plain
returns-in_ok-push-in-Dir-clause-plain c = plain_entry c.args.entry.now c.as_bytes.ensures.spelled

pub returns-in-File-clause-plain : goal.returns-in-File-clause-plain
returns-in-File-clause-plain c = plain_entry c.args.entry.now c.as_bytes.ensures.spelled

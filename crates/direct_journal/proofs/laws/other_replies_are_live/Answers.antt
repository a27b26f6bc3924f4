use Rattle.direct_journal.proofs.Replies.{from_live}
use Rattle.direct_journal.proofs.laws.other_replies_are_live.Goals as goal

pub returns : goal.returns
returns c = λ lines history. from_live history lines

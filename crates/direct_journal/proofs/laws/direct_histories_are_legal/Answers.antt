use Rattle.direct_journal.proofs.Direct.{direct_is_legal}
use Rattle.direct_journal.proofs.laws.direct_histories_are_legal.Goals as goal

pub returns : goal.returns
returns c = direct_is_legal

use Rattle.direct_journal.proofs.Told.{written_legal}
use Rattle.direct_journal.proofs.laws.served_changes_may_follow.Goals as goal

pub returns : goal.returns
returns c entries client number asked made what is said below = written_legal entries client number asked made what is said below

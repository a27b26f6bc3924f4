use Rattle.direct_journal.proofs.Told.{journal_legal}
use Rattle.direct_journal.proofs.laws.entries_are_a_journal.Goals as goal

pub returns : goal.returns
returns c lines history legal few = journal_legal history lines legal few

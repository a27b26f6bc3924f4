use Rattle.plain_journal.specs.Entries.{state_after}
use Rattle.plain_journal.specs.Table.{is_collected}
use Rattle.journal_uses.proofs.Found.{known_use}
use Rattle.journal_uses.proofs.laws.each_file_is_known.Goals as goal

pub returns : goal.returns
returns c entries ino is = known_use (state_after entries) (is_collected entries) ino is

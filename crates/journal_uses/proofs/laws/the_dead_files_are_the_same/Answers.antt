use Rattle.plain_journal.specs.Entries.{state_after}
use Rattle.plain_journal.specs.Table.{is_collected}
use Rattle.journal_uses.proofs.Dead.{dead_same}
use Rattle.journal_uses.proofs.laws.the_dead_files_are_the_same.Goals as goal

pub returns : goal.returns
returns c entries = dead_same (state_after entries) (is_collected entries) (state_after entries).inodes

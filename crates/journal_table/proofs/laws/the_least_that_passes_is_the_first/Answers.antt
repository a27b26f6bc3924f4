use Rattle.plain_journal.specs.Table.{to_purge}
use Rattle.journal_table.proofs.Least.{first_least}
use Rattle.journal_table.proofs.laws.the_least_that_passes_is_the_first.Goals as goal

pub returns : goal.returns
returns c table entries p stands = first_least p table.unpurged (to_purge entries) stands.rising stands.unpurged

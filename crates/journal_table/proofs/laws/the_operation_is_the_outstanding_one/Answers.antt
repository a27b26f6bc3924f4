use Rattle.journal_table.proofs.Steps.{same_operation}
use Rattle.journal_table.proofs.laws.the_operation_is_the_outstanding_one.Goals as goal

pub returns : goal.returns
returns c entries = same_operation entries

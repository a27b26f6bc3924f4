use Rattle.journal_table.proofs.Steps.{can_call}
use Rattle.journal_table.proofs.laws.calls_are_fine.Goals as goal

pub returns : goal.returns
returns c table entries e legal ruled stands = can_call table entries e legal stands ruled

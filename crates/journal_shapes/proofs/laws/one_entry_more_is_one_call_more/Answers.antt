use Rattle.journal_shapes.proofs.Steps.{stands_more}
use Rattle.journal_shapes.proofs.laws.one_entry_more_is_one_call_more.Goals as goal

-- src/laws.rt
pub returns : goal.returns
returns c entries e old new legal stands called = stands_more entries e legal old new stands called

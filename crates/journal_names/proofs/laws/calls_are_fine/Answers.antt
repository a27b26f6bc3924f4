use Rattle.journal_names.proofs.Fine.{can_call}
use Rattle.journal_names.proofs.laws.calls_are_fine.Goals as goal

-- src/laws.rt
pub returns : goal.returns
returns c tree entries e legal stands = can_call tree entries e legal stands

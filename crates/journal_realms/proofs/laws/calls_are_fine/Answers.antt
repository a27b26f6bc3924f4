use Rattle.journal_realms.proofs.Calls.{calls_fine}
use Rattle.journal_realms.proofs.laws.calls_are_fine.Goals as goal

-- src/laws.rt
pub returns : goal.returns
returns c entries e legal = calls_fine entries e legal

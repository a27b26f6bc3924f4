use Rattle.journal_names.proofs.Follows.{follows}
use Rattle.journal_names.proofs.laws.calls_lead_on.Goals as goal

-- src/laws.rt
pub returns : goal.returns
returns c tree new entries e legal stands call = follows tree new entries e legal stands call

use Rattle.journal_table.proofs.Steps.{leads_on}
use Rattle.journal_table.proofs.laws.calls_lead_on.Goals as goal

pub returns : goal.returns
returns c table entries e legal ruled stands = leads_on table entries e legal stands ruled

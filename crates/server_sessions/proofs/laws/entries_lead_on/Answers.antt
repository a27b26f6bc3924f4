use Rattle.server_sessions.proofs.Steps.{entry_leads}
use Rattle.server_sessions.proofs.laws.entries_lead_on.Goals as goal

pub returns : goal.returns
returns c links s new e stands enters is = entry_leads s new e enters links stands is

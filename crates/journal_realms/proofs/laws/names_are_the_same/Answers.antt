use Rattle.journal_realms.proofs.Names.{same_names}
use Rattle.journal_realms.proofs.laws.names_are_the_same.Goals as goal

-- src/laws.rt
pub returns : goal.returns
returns c entries legal x apart = same_names entries legal x apart

use Rattle.journal_realms.proofs.Last.{same_applied}
use Rattle.journal_realms.proofs.laws.the_last_ids_are_the_same.Goals as goal

-- src/laws.rt
pub returns : goal.returns
returns c entries legal = same_applied entries legal

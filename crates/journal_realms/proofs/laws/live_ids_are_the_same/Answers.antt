use Rattle.journal_realms.proofs.Names.{same_live}
use Rattle.journal_realms.proofs.laws.live_ids_are_the_same.Goals as goal

-- src/laws.rt
pub returns : goal.returns
returns c entries legal = same_live entries legal

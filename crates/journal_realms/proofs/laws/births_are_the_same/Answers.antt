use Rattle.journal_realms.proofs.Held.{same_births}
use Rattle.journal_realms.proofs.laws.births_are_the_same.Goals as goal

-- src/laws.rt
pub returns : goal.returns
returns c entries legal x held other = same_births entries legal x held other

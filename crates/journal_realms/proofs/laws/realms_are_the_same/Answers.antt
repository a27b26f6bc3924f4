use Rattle.journal_realms.proofs.Marks.{same_realms}
use Rattle.journal_realms.proofs.laws.realms_are_the_same.Goals as goal

-- src/laws.rt
pub returns : goal.returns
returns c entries legal x held = same_realms entries legal x held

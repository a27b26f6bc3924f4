use Rattle.journal_laws.proofs.Rising.{made_upto_applied}
use Rattle.journal_laws.proofs.laws.ids_are_upto_the_last_one.Goals as goal

-- src/laws.rt
pub returns : goal.returns
returns c entries legal s made = made_upto_applied entries legal s made

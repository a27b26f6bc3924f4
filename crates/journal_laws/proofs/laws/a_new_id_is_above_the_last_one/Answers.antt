use Rattle.journal_laws.proofs.Rising.{new_above}
use Rattle.journal_laws.proofs.laws.a_new_id_is_above_the_last_one.Goals as goal

-- src/laws.rt
pub returns : goal.returns
returns c entries e id dir name legal is = new_above entries e id dir name legal is

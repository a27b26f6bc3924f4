use Rattle.journal_realms.proofs.Trees.{leads_above}
use Rattle.journal_realms.proofs.laws.the_way_up_is_the_chain_of_parents.Goals as goal

-- src/laws.rt
pub returns : goal.returns
returns c entries legal dir is = leads_above entries legal dir is

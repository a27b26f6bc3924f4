use Rattle.journal_realms.proofs.Placed.{placed_after}
use Rattle.journal_realms.proofs.laws.what_has_a_name_has_its_place.Goals as goal

-- src/laws.rt
pub returns : goal.returns
returns c entries legal = placed_after entries legal

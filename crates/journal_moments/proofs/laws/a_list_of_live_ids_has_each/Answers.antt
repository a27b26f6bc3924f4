use Rattle.journal_moments.proofs.Listed.{listed_each}
use Rattle.journal_moments.proofs.laws.a_list_of_live_ids_has_each.Goals as goal

-- src/laws.rt
pub returns : goal.returns
returns c snaps ids is s = listed_each snaps ids is s

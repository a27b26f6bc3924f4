use Rattle.journal_moments.proofs.Moments.{new_tree}
use Rattle.journal_moments.proofs.laws.a_new_snapshot_has_the_tree_of_now.Goals as goal

-- src/laws.rt
pub returns : goal.returns
returns c entries e s legal makes = new_tree entries e s legal makes

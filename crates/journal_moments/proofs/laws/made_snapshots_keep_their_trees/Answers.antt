use Rattle.journal_moments.proofs.Trees.{tree_stays}
use Rattle.journal_moments.proofs.laws.made_snapshots_keep_their_trees.Goals as goal

-- src/laws.rt
pub returns : goal.returns
returns c entries e s made = tree_stays entries e s made

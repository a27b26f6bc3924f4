use Rattle.journal_names.proofs.Seen.{walk_is, end_is}
use Rattle.journal_names.proofs.laws.walks_are_those_of_the_plain_trees.Goals as goal

-- src/laws.rt
pub returns-clause-ends : goal.returns-clause-ends
returns-clause-ends c tree entries legal stands s asked start names dir = walk_is tree entries legal stands s asked start names dir

pub returns-clause-at : goal.returns-clause-at
returns-clause-at c tree entries legal stands s asked start ino names dir ends = end_is tree entries legal stands s asked start ino names dir ends

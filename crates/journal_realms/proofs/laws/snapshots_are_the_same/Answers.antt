use Rattle.journal_realms.proofs.Snapped.{same_own, same_count, same_total, same_rooted}
use Rattle.journal_realms.proofs.laws.snapshots_are_the_same.Goals as goal

-- src/laws.rt
pub returns-clause-named : goal.returns-clause-named
returns-clause-named c entries legal dir name = same_own entries legal dir name

pub returns-clause-of_one : goal.returns-clause-of_one
returns-clause-of_one c entries legal dir = same_count entries legal dir

pub returns-clause-of_all : goal.returns-clause-of_all
returns-clause-of_all c entries legal = same_total entries legal

pub returns-clause-rooted : goal.returns-clause-rooted
returns-clause-rooted c entries legal dir = same_rooted entries legal dir

use Rattle.snap_realm.proofs.Conditions.{under_is, leaf_is, live_is}
use Rattle.snap_realm.proofs.laws.a_story_tells_the_conditions.Goals as goal

pub returns-clause-there : goal.returns-clause-there
returns-clause-there c = λ tree family stands ino. stands.there ino

pub returns-clause-under : goal.returns-clause-under
returns-clause-under c = under_is

pub returns-clause-leaf : goal.returns-clause-leaf
returns-clause-leaf c = leaf_is

pub returns-clause-live : goal.returns-clause-live
returns-clause-live c = live_is

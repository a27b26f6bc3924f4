use Rattle.std.proofs.Common.{◌∙◌}
use Rattle.snap_realm.proofs.Values.{live_law}
use Rattle.snap_realm.proofs.tree.RealmTree.live.Goals as goal

pub returns-clause-story : goal.returns-clause-story
returns-clause-story c = λ family stands. c.from_vec.ensures ∙ c.in_ok-ids.ensures.records ∙ live_law c.args.self.now family stands

use Rattle.std.proofs.Common.{◌∙◌}
use Rattle.snap_realm.proofs.Values.{any_live_law}
use Rattle.snap_realm.proofs.tree.RealmTree.has_live.Goals as goal

pub returns : goal.returns
returns c = λ family stands. c.has_live_by_records.ensures ∙ any_live_law c.args.self.now family stands c.args.dir

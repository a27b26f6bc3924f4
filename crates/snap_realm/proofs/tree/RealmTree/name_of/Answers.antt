use Rattle.std.proofs.Common.{◌∙◌}
use Rattle.snap_realm.proofs.Named.{name_law}
use Rattle.snap_realm.proofs.tree.RealmTree.name_of.Goals as goal

pub returns : goal.returns
returns c = λ family stands. c.name_by_records.ensures ∙ name_law c.args.self.now family stands c.args.id

use Rattle.std.proofs.Common.{◌∙◌}
use Rattle.snap_realm.proofs.Named.{id_law}
use Rattle.snap_realm.proofs.tree.RealmTree.own_snap.Goals as goal

pub returns : goal.returns
returns c = λ family stands. c.own_by_records.ensures ∙ id_law c.args.self.now family stands c.args.dir c.args.name.now

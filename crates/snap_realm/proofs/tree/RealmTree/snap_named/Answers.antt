use Rattle.std.proofs.Common.{◌∙◌}
use Rattle.snap_realm.proofs.Shown.{id_shown_law}
use Rattle.snap_realm.proofs.tree.RealmTree.snap_named.Goals as goal

pub returns : goal.returns
returns c = λ family stands. c.id_at.ensures ∙ id_shown_law c.args.self.now family stands c.args.dir c.args.name.now c.requires.there c.requires.outside

use Rattle.std.proofs.Common.{◌∙◌}
use Rattle.snap_realm.proofs.Values.{realm_law}
use Rattle.snap_realm.proofs.tree.RealmTree.realm_of.Goals as goal

pub returns : goal.returns
returns c = λ family stands. c.realm_at.ensures ∙ realm_law c.args.self.now family stands c.args.ino c.requires

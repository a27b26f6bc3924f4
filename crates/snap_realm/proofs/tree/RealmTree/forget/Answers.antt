use Rattle.std.proofs.Common.{◌≡◌, true, sym, subst}
use Rattle.snap_realm.specs.Tree.{node_at, StandsFor, IsLeaf}
use Rattle.snap_realm.proofs.Changes.{forget_value}
use Rattle.snap_realm.proofs.tree.RealmTree.forget.Goals as goal

pub returns : goal.returns
returns c = λ family stands.
    forget_value _ family (subst (λ t. StandsFor t family) (sym c.self.view_is) stands) c.args.ino
    (subst (λ t. IsLeaf t c.args.ino) (sym c.self.view_is) c.requires.leaf)
    (node_at c.take.new.nodes.entries) c.take.ensures

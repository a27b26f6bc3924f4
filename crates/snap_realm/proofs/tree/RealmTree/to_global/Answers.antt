use Rattle.std.proofs.Common.{◌≡◌, true, sym, subst}
use Rattle.snap_realm.specs.Tree.{node_at, StandsFor, is_there, IsLeaf}
use Rattle.snap_realm.proofs.Changes.{global_value}
use Rattle.snap_realm.proofs.tree.RealmTree.to_global.Goals as goal

pub returns-clause-story : goal.returns-clause-story
returns-clause-story c = λ family stands.
    global_value _ family (subst (λ t. StandsFor t family) (sym c.self.view_is) stands) c.args.ino
    (subst (λ t. is_there t c.args.ino ≡ true) (sym c.self.view_is) c.requires.there)
    (subst (λ t. IsLeaf t c.args.ino) (sym c.self.view_is) c.requires.leaf)
    c.birth.result c.birth.ensures (node_at c.put.new.nodes.entries) c.in_ok-put.ensures.ok

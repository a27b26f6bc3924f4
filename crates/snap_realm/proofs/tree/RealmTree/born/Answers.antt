use Rattle.std.proofs.Common.{◌≡◌, true, false, sym, subst}
use Rattle.snap_realm.specs.Tree.{node_at, StandsFor, is_there, is_in_global}
use Rattle.snap_realm.proofs.Changes.{born_value}
use Rattle.snap_realm.proofs.tree.RealmTree.born.Goals as goal

pub returns-clause-story : goal.returns-clause-story
returns-clause-story c = λ family stands fresh.
    born_value _ family (subst (λ t. StandsFor t family) (sym c.self.view_is) stands) c.args.ino c.args.parent
    (subst (λ t. is_there t c.args.parent ≡ true) (sym c.self.view_is) c.requires.there)
    (subst (λ t. is_in_global t c.args.parent ≡ false) (sym c.self.view_is) c.requires.outside)
    (subst (λ t. is_there t c.args.ino ≡ false) (sym c.self.view_is) c.requires.new)
    fresh (node_at c.put.new.nodes.entries) c.in_ok-put.ensures.ok

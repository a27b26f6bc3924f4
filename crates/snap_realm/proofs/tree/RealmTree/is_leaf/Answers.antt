use Rattle.std.proofs.Common.{◌≡◌, true, ap, sym, ◌∙◌}
use Rattle.snap_realm.specs.Tree.{is_leaf}
use Rattle.snap_realm.proofs.Changes.{leaf_of}
use Rattle.snap_realm.proofs.tree.RealmTree.is_leaf.Goals as goal

pub returns-clause-leaf : goal.returns-clause-leaf
returns-clause-leaf c = λ yes_it_is.
    leaf_of c.args.self.now c.args.ino (sym (c.is_leaf.ensures ∙ ap (λ t. is_leaf t c.args.ino) c.self.view_is) ∙ yes_it_is)

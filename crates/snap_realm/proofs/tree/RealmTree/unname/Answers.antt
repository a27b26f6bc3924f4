use Rattle.std.proofs.Common.{sym, subst}
use Rattle.snap_realm.specs.Tree.{Tree, StandsFor}
use Rattle.snap_realm.proofs.Changes.{drop_value}
use Rattle.snap_realm.proofs.tree.RealmTree.unname.Goals as goal

pub returns-in-Some-clause-story : goal.returns-in-Some-clause-story
returns-in-Some-clause-story c = λ family stands.
    let here : Tree = record { nodes = c.self.inside.nodes.entries; snaps = c.self.inside.snaps.items; applied = c.self.inside.applied } in
    drop_value here family (subst (λ t. StandsFor t family) (sym c.self.view_is) stands) c.args.dir c.args.name.now c.unname_all.new.snaps.items c.unname_all.ensures

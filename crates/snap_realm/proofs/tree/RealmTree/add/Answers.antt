use Rattle.std.proofs.Common.{◌≡◌, ◌<◌, true, false, List, [], ◌∷◌, refl, sym, ◌∙◌, subst}
use Rattle.std.specs.List.{insert}
use Rattle.realm_story.specs.declared.records.Snap.{Snap}
use Rattle.snap_realm.specs.Tree.{Tree, node_at, StandsFor, is_there, is_in_global}
use Rattle.snap_realm.proofs.Changes.{add_value}
use Rattle.snap_realm.proofs.tree.RealmTree.add.Goals as goal

first : (xs : List Snap) (x : Snap) → insert xs 0 x ≡ x ∷ xs
first [] x = refl
first (y ∷ ys) x = refl

pub returns-clause-story : goal.returns-clause-story
returns-clause-story c = λ family stands.
    let here : Tree = record { nodes = c.self.inside.nodes.entries; snaps = c.self.inside.snaps.items; applied = c.self.inside.applied } in
    add_value here family (subst (λ t. StandsFor t family) (sym c.self.view_is) stands) c.args.dir c.args.id c.args.name
    (subst (λ t. is_there t c.args.dir ≡ true) (sym c.self.view_is) c.requires.there)
    (subst (λ t. is_in_global t c.args.dir ≡ false) (sym c.self.view_is) c.requires.outside)
    (subst (λ (t : Tree). t.applied.0 < c.args.id.0) (sym c.self.view_is) c.requires.later)
    (node_at c.snap.new.nodes.entries) c.snap.ensures c.insert.new.self.items
    (c.in_ok-insert.ensures.items ∙ first c.self.inside.snaps.items (record { id = c.args.id; root = c.args.dir; name = c.args.name; live = true }))

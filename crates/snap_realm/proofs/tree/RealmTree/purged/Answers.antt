use Rattle.std.proofs.Common.{◌≡◌, false, not, eqb, sym, subst, rules}
use Rattle.std.proofs.lemmas.Fn.{filter_same}
use Rattle.realm_story.specs.declared.records.Snap.{Snap}
use Rattle.snap_realm.specs.Tree.{StandsFor, is_live}
use Rattle.snap_realm.proofs.Changes.{purged_value}
use Rattle.snap_realm.proofs.tree.RealmTree.purged.Goals as goal

pub returns : goal.returns
returns c = λ family stands.
    purged_value (record { nodes = c.self.inside.nodes.entries; snaps = c.self.inside.snaps.items; applied = c.self.inside.applied }) family (subst (λ t. StandsFor t family) (sym c.self.view_is) stands) c.args.id
    (subst (λ t. is_live t c.args.id ≡ false) (sym c.self.view_is) c.requires)
    c.retain.new.self.items (filter_same _ (λ (snap : Snap). not (eqb snap.id.0 c.args.id.0)) _ (λ x b q k. search rules) _ _ c.retain.ensures.filtered)

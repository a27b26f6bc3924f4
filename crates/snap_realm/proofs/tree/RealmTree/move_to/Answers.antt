use Rattle.std.proofs.Common.{◌≡◌, true, false, ap, sym, ◌∙◌, subst}
use Rattle.realm_story.specs.Records.{parent_by}
use Rattle.snap_realm.specs.Tree.{Tree, node_at, StandsFor, is_in_global, leaves, opened_at}
use Rattle.snap_realm.proofs.Changes.{IsAsked, global_inside, leaves_value, stay_value, leave_value}
use Rattle.snap_realm.proofs.tree.RealmTree.move_to.Goals as goal

pub returns-then-is_under-clause-story : goal.returns-then-is_under-clause-story
returns-then-is_under-clause-story c = λ family stands.
    (global_inside c.args.self.now family stands c.args.ino c.requires.there (ap (λ t. is_in_global t c.args.ino) (sym c.self.view_is) ∙ sym c.if-is_under.ensures) c.args.parent).0

pub returns-then-is_under-clause-leaves : goal.returns-then-is_under-clause-leaves
returns-then-is_under-clause-leaves c = λ family stands.
    (global_inside c.args.self.now family stands c.args.ino c.requires.there (ap (λ t. is_in_global t c.args.ino) (sym c.self.view_is) ∙ sym c.if-is_under.ensures) c.args.parent).1

pub returns-then-not-leaves-clause-story : goal.returns-then-not-leaves-clause-story
returns-then-not-leaves-clause-story c = λ family stands.
    let asked : IsAsked c.args.self.now c.args.ino c.args.parent = record { there = c.requires.there; parent_there = c.requires.parent_there; no_root = c.requires.no_root; outside = c.requires.outside; apart = c.requires.apart } in
    let here : Tree = record { nodes = c.self.inside.nodes.entries; snaps = c.self.inside.snaps.items; applied = c.self.inside.applied } in
    stay_value here family (subst (λ t. StandsFor t family) (sym c.self.view_is) stands) c.args.ino c.args.parent
    (subst (λ t. IsAsked t c.args.ino c.args.parent) (sym c.self.view_is) asked)
    (sym c.if-is_under.ensures)
    (subst (λ (t : Tree). leaves t (parent_by (node_at t.nodes c.args.ino.0)) c.args.parent ≡ false) (sym c.self.view_is) (sym c.if-not-leaves.ensures))
    (node_at c.hang.new.nodes.entries) c.hang.ensures

pub returns-then-not-leaves-clause-leaves : goal.returns-then-not-leaves-clause-leaves
returns-then-not-leaves-clause-leaves c = λ family stands.
    let asked : IsAsked c.args.self.now c.args.ino c.args.parent = record { there = c.requires.there; parent_there = c.requires.parent_there; no_root = c.requires.no_root; outside = c.requires.outside; apart = c.requires.apart } in
    c.if-not-leaves.ensures ∙ leaves_value c.args.self.now family stands c.args.ino c.args.parent asked (ap (λ t. is_in_global t c.args.ino) (sym c.self.view_is) ∙ sym c.if-is_under.ensures)

pub returns-clause-story : goal.returns-clause-story
returns-clause-story c = λ family stands.
    let asked : IsAsked c.args.self.now c.args.ino c.args.parent = record { there = c.requires.there; parent_there = c.requires.parent_there; no_root = c.requires.no_root; outside = c.requires.outside; apart = c.requires.apart } in
    let here : Tree = record { nodes = c.self.inside.nodes.entries; snaps = c.self.inside.snaps.items; applied = c.self.inside.applied } in
    leave_value here family (subst (λ t. StandsFor t family) (sym c.self.view_is) stands) c.args.ino c.args.parent
    (subst (λ t. IsAsked t c.args.ino c.args.parent) (sym c.self.view_is) asked)
    (sym c.if-is_under.ensures)
    (subst (λ (t : Tree). leaves t (parent_by (node_at t.nodes c.args.ino.0)) c.args.parent ≡ true) (sym c.self.view_is) (sym c.if-not-leaves.ensures))
    c.in_ok-realm.realm (c.in_ok-realm.ensures.records ∙ ap (λ t. opened_at t c.args.ino) (sym c.self.view_is))
    (node_at c.open.new.nodes.entries) (node_at c.hang-2.new.nodes.entries) c.open.ensures c.hang-2.ensures

pub returns-clause-leaves : goal.returns-clause-leaves
returns-clause-leaves c = λ family stands.
    let asked : IsAsked c.args.self.now c.args.ino c.args.parent = record { there = c.requires.there; parent_there = c.requires.parent_there; no_root = c.requires.no_root; outside = c.requires.outside; apart = c.requires.apart } in
    c.if-not-leaves.ensures ∙ leaves_value c.args.self.now family stands c.args.ino c.args.parent asked (ap (λ t. is_in_global t c.args.ino) (sym c.self.view_is) ∙ sym c.if-is_under.ensures)

-- An inode goes to the global realm, or is there no more.
use Rattle.std.proofs.Common.{◌≡◌, ℕ, ◌+◌, ◌≤◌, Bool, true, false, List, [], ◌∷◌, Option, None, Some, ◌⊎◌, inl, inr, refl, ap, sym, ◌∙◌, subst, filter}
use Rattle.snap_ids.specs.declared.id.Ino.{Ino}
use Rattle.snap_ids.specs.declared.id.SnapId.{SnapId}
use Rattle.snap_ids.specs.declared.id.TheConstants.{GLOBAL}
use Rattle.snap_ids.specs.Traces.{if_from}
use Rattle.realm_story.specs.declared.records.Node.{Node}
use Rattle.realm_story.specs.declared.records.Snap.{Snap}
use Rattle.realm_story.specs.Family.{Family, same_ino, member, is_there, above_by, way_up, is_on, is_root, is_marked, is_in_global, birth_of, covering, greatest}
use Rattle.realm_story.specs.Family.{ids_of as made_ids}
use Rattle.realm_story.specs.Records.{parent_by, birth_by, realm_by, is_node, is_realm, seq_on}
use Rattle.realm_story.specs.Stands.{Climbs, IsEarly, Each, IsRight, IsRooted, Stands, plain_kept}
use Rattle.realm_story.proofs.Facts.{same_of, itself}
use Rattle.realm_story.proofs.Ways.{all_there}
use Rattle.realm_story.proofs.Contexts.{covers_by}
use Rattle.realm_story.proofs.Same.{put, climbs_put, lists_put, seq_put, each_weaker}

-- what changes of one inode alone
pub record ChangesOnly (x : Ino) (item : Option Node) (old new : Family) : Type 0 where
  pub snaps : new.snaps ≡ old.snaps
  pub applied : new.applied ≡ old.applied
  pub there : (ino : Ino) → same_ino x ino ≡ false → is_there new.members ino ≡ is_there old.members ino
  pub above : (ino : Ino) → same_ino x ino ≡ false → above_by (member new.members ino) ≡ above_by (member old.members ino)
  pub birth : (ino : Ino) → same_ino x ino ≡ false → birth_of new ino ≡ birth_of old ino
  pub marks : (ino : Ino) → same_ino x ino ≡ false → is_marked new.marked ino ≡ is_marked old.marked ino
  pub there_now : is_node item ≡ is_there new.members x
  pub birth_now : birth_by item ≡ birth_of new x
  pub unmarked_now : is_marked new.marked x ≡ false
  pub realm_now : realm_by item ≡ None
  pub parent_now : (next : Ino) → parent_by item ≡ Some next → next ≡ GLOBAL
  pub above_now : ((parent_by item ≡ None) × (above_by (member new.members x) ≡ [])) ⊎ ((parent_by item ≡ Some GLOBAL) × (above_by (member new.members x) ≡ GLOBAL ∷ []))
  pub late_now : 2 ≤ (birth_of new x).0
  pub born_now : (birth_of new x).0 ≤ old.applied.0 + 1
  pub away : is_there new.members x ≡ true → is_in_global new.members x ≡ true

-- an inode that is no root is above none
pub record IsLeaf (at : ℕ → Option Node) (x : Ino) : Type 0 where
  pub no_child : (ino : Ino) → parent_by (at ino.0) ≡ Some x → ⊥
  pub no_root : is_root x ≡ false

pub gone_law : (at : ℕ → Option Node) (snaps : List Snap) (applied : SnapId) (old new : Family) → Stands at snaps applied old → (x : Ino) (item : Option Node) → IsLeaf at x → ChangesOnly x item old new → Stands (put x item at) snaps applied new
gone_law at snaps applied old new stands x item leaf only = record {
  applied_is = stands.applied_is ∙ sym only.applied;
  snaps_are = stands.snaps_are ∙ ap plain_kept (sym only.snaps);
  fall = rw only.snaps stands.fall;
  last = rw only.snaps stands.last;
  there = λ ino. there_at ino (same_ino x ino) refl;
  births = λ ino. births_at ino (same_ino x ino) refl;
  late = λ ino. late_at ino (same_ino x ino) refl;
  born = λ ino. born_at ino (same_ino x ino) refl;
  marks = λ ino. marks_at ino (same_ino x ino) refl;
  climbs = λ ino. climbs_at ino (same_ino x ino) refl;
  closed = λ ino next. closed_at ino next (same_ino x ino) refl;
  tops = λ ino. tops_at ino (same_ino x ino) refl;
  early = λ ino. early_at ino (same_ino x ino) refl;
  named = rw only.snaps stands.named;
  rooted = rw only.snaps (each_weaker (IsRooted old) (IsRooted new) old.snaps (λ made rooted. rooted_at made.root (same_ino x made.root) refl rooted) stands.rooted);
  right = λ ino. right_at ino (same_ino x ino) refl;
  latest = λ ino. latest_at ino (same_ino x ino) refl;
}
  where
    new_at : ℕ → Option Node
    new_at = put x item at

    off_above : (ino : Ino) → is_on x (above_by (member old.members ino)) ≡ false
    off_above ino = go (is_on x (above_by (member old.members ino))) refl
      where
        apart : (y next : Ino) → parent_by (at y.0) ≡ Some next → same_ino x next ≡ false
        apart y next h = other (same_ino x next) refl
          where
            other : (b : Bool) → same_ino x next ≡ b → b ≡ false
            other true e = absurd (leaf.no_child y (h ∙ ap Some (sym (same_of x next e))))
            other false e = refl

        go : (b : Bool) → is_on x (above_by (member old.members ino)) ≡ b → b ≡ false
        go true e =
            let never : same_ino x x ≡ false = all_there (λ y. same_ino x y ≡ false) at ino (above_by (member old.members ino)) (stands.climbs ino) apart x e in
            let always : same_ino x x ≡ true = itself x in
            cc
        go false e = refl

    off : (ino : Ino) → same_ino x ino ≡ false → is_on x (way_up old.members ino) ≡ false
    off ino e = rw e (off_above ino)

    there_at : (ino : Ino) (b : Bool) → same_ino x ino ≡ b → is_node (new_at ino.0) ≡ is_there new.members ino
    there_at ino true e = rw e (only.there_now ∙ ap (is_there new.members) (same_of x ino e))
    there_at ino false e = rw e (stands.there ino ∙ sym (only.there ino e))

    births_at : (ino : Ino) (b : Bool) → same_ino x ino ≡ b → birth_by (new_at ino.0) ≡ birth_of new ino
    births_at ino true e = rw e (only.birth_now ∙ ap (birth_of new) (same_of x ino e))
    births_at ino false e = rw e (stands.births ino ∙ sym (only.birth ino e))

    late_at : (ino : Ino) (b : Bool) → same_ino x ino ≡ b → 2 ≤ (birth_of new ino).0
    late_at ino true e = subst (λ y. 2 ≤ (birth_of new y).0) (same_of x ino e) only.late_now
    late_at ino false e = subst (λ (n : SnapId). 2 ≤ n.0) (sym (only.birth ino e)) (stands.late ino)

    born_at : (ino : Ino) (b : Bool) → same_ino x ino ≡ b → (birth_of new ino).0 ≤ applied.0 + 1
    born_at ino true e = subst (λ y. (birth_of new y).0 ≤ applied.0 + 1) (same_of x ino e) (rw stands.applied_is only.born_now)
    born_at ino false e = subst (λ (n : SnapId). n.0 ≤ applied.0 + 1) (sym (only.birth ino e)) (stands.born ino)

    marks_at : (ino : Ino) (b : Bool) → same_ino x ino ≡ b → is_realm (realm_by (new_at ino.0)) ≡ is_marked new.marked ino
    marks_at ino true e = rw e (ap is_realm only.realm_now ∙ sym only.unmarked_now ∙ ap (is_marked new.marked) (same_of x ino e))
    marks_at ino false e = rw e (stands.marks ino ∙ sym (only.marks ino e))

    apart_global : same_ino x GLOBAL ≡ false
    apart_global = go (same_ino x GLOBAL) refl
      where
        go : (b : Bool) → same_ino x GLOBAL ≡ b → b ≡ false
        go true e = let root : is_root x ≡ true = ap is_root (same_of x GLOBAL e) in let never : is_root x ≡ false = leaf.no_root in cc
        go false e = refl

    climbs_at : (ino : Ino) (b : Bool) → same_ino x ino ≡ b → Climbs new_at ino (above_by (member new.members ino))
    climbs_at ino true e = subst (λ y. Climbs new_at y (above_by (member new.members y))) (same_of x ino e) (here only.above_now)
      where
        here : ((parent_by item ≡ None) × (above_by (member new.members x) ≡ [])) ⊎ ((parent_by item ≡ Some GLOBAL) × (above_by (member new.members x) ≡ GLOBAL ∷ [])) → Climbs new_at x (above_by (member new.members x))
        here (inl h) = rw (h.1, itself x) h.0
        here (inr h) = rw (h.1, itself x) (h.0, rw apart_global (stands.tops GLOBAL refl))
    climbs_at ino false e = subst (Climbs new_at ino) (sym (only.above ino e)) (climbs_put at x item ino (above_by (member old.members ino)) (off ino e) (stands.climbs ino))

    closed_at : (ino next : Ino) (b : Bool) → same_ino x ino ≡ b → parent_by (new_at ino.0) ≡ Some next → is_there new.members next ≡ true
    closed_at ino next true e = λ h. ap (is_there new.members) (only.parent_now next (rw e at h))
    closed_at ino next false e = λ h.
        let was : parent_by (at ino.0) ≡ Some next = rw e at h in
        other (same_ino x next) refl was
      where
        other : (b : Bool) → same_ino x next ≡ b → parent_by (at ino.0) ≡ Some next → is_there new.members next ≡ true
        other true c was = absurd (leaf.no_child ino (was ∙ ap Some (sym (same_of x next c))))
        other false c was = only.there next c ∙ stands.closed ino next was

    tops_at : (ino : Ino) (b : Bool) → same_ino x ino ≡ b → is_root ino ≡ true → parent_by (new_at ino.0) ≡ None
    tops_at ino true e = λ root.
        let is : is_root x ≡ true = ap is_root (same_of x ino e) ∙ root in
        let never : is_root x ≡ false = leaf.no_root in
        cc
    tops_at ino false e = λ root. rw e (stands.tops ino root)

    early_at : (ino : Ino) (b : Bool) → same_ino x ino ≡ b → IsEarly applied.0 (realm_by (new_at ino.0))
    early_at ino true e = rw (e, only.realm_now) tt
    early_at ino false e = rw e (stands.early ino)

    global_same : (ino : Ino) → same_ino x ino ≡ false → is_in_global new.members ino ≡ is_in_global old.members ino
    global_same ino e = ap (λ way. is_on GLOBAL (ino ∷ way)) (only.above ino e)

    contradiction : (ino : Ino) → same_ino x ino ≡ true → is_there new.members ino ≡ true → is_in_global new.members ino ≡ false → ⊥
    contradiction ino e there outside =
        let inside : is_in_global new.members ino ≡ true = ap (is_in_global new.members) (sym (same_of x ino e)) ∙ only.away (ap (is_there new.members) (same_of x ino e) ∙ there) in
        cc

    rooted_at : (root : Ino) (b : Bool) → same_ino x root ≡ b → (is_there old.members root ≡ true → is_in_global old.members root ≡ false → is_marked old.marked root ≡ true) → is_there new.members root ≡ true → is_in_global new.members root ≡ false → is_marked new.marked root ≡ true
    rooted_at root true e was there outside = absurd (contradiction root e there outside)
    rooted_at root false e was there outside = only.marks root e ∙ was (sym (only.there root e) ∙ there) (sym (global_same root e) ∙ outside)

    right_at : (ino : Ino) (b : Bool) → same_ino x ino ≡ b → is_there new.members ino ≡ true → is_in_global new.members ino ≡ false → Each (IsRight new_at (way_up new.members ino) ino (birth_of new ino)) new.snaps
    right_at ino true e there outside = absurd (contradiction ino e there outside)
    right_at ino false e there outside =
        rw (only.snaps, only.above ino e, only.birth ino e) (each_weaker (IsRight at (way_up old.members ino) ino (birth_of old ino)) (IsRight new_at (way_up old.members ino) ino (birth_of old ino)) old.snaps
        (λ made right kept late. lists_put at x item (way_up old.members ino) made.root made.id (off ino e) ∙ right kept late)
        (stands.right ino (sym (only.there ino e) ∙ there) (sym (global_same ino e) ∙ outside)))

    latest_at : (ino : Ino) (b : Bool) → same_ino x ino ≡ b → is_there new.members ino ≡ true → is_in_global new.members ino ≡ false → if_from (birth_of new ino) (seq_on new_at (way_up new.members ino)) 1 ≡ greatest (made_ids (covering new ino))
    latest_at ino true e there outside = absurd (contradiction ino e there outside)
    latest_at ino false e there outside =
        ap (λ way. if_from (birth_of new ino) (seq_on new_at (ino ∷ way)) 1) (only.above ino e)
        ∙ ap (λ birth. if_from birth (seq_on new_at (way_up old.members ino)) 1) (only.birth ino e)
        ∙ ap (λ n. if_from (birth_of old ino) n 1) (seq_put at x item (way_up old.members ino) (off ino e))
        ∙ stands.latest ino (sym (only.there ino e) ∙ there) (sym (global_same ino e) ∙ outside)
        ∙ ap (λ birth. greatest (made_ids (filter (covers_by birth (is_in_global old.members ino) ino) old.snaps))) (sym (only.birth ino e))
        ∙ ap (λ g. greatest (made_ids (filter (covers_by (birth_of new ino) g ino) old.snaps))) (sym (global_same ino e))
        ∙ ap (λ s. greatest (made_ids (filter (covers_by (birth_of new ino) (is_in_global new.members ino) ino) s))) (sym only.snaps)

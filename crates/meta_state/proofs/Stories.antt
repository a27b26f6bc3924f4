-- What is known of the records of realms where they stand for the story of a journal.
use Rattle.std.proofs.Common.{◌≡◌, ℕ, ◌<◌, List, ◌∷◌, Bool, true, false, None, refl, sym, ◌∙◌, subst, ltb-true}
use Rattle.std.specs.Prelude.{nat_lt, nat_le}
use Rattle.snap_ids.specs.declared.id.Ino.{Ino}
use Rattle.snap_ids.specs.declared.id.SnapId.{SnapId}
use Rattle.snap_ids.specs.declared.id.TheConstants.{GLOBAL, STRAY}
use Rattle.realm_story.specs.Family as story
use Rattle.realm_story.specs.Family.{Family, is_root, same_ino, is_on, above_by, member}
use Rattle.realm_story.proofs.Facts.{itself}
use Rattle.journal_realms.specs.Calls as calls
use Rattle.snap_realm.specs.Realms.{IsChildless}
use Rattle.snap_realm.specs.Refusals.{refusal_by}
use Rattle.snap_realm.specs.Tree as realms
use Rattle.snap_realm.proofs.Conditions.{under_is, leaf_is, live_is}
use Rattle.meta_state.specs.Applied.{CanMove, CanSnap}

-- none of the refusals applies
no_refusal : (taken : Bool) (own live : ℕ) → taken ≡ false → nat_lt 99 own ≡ false → nat_lt 127 live ≡ false → refusal_by taken own live ≡ None
no_refusal taken own live free few_own few_live =
    let a : nat_le 100 own ≡ false = few_own in
    let b : nat_le 128 live ≡ false = few_live in
    rw (free, a, b) refl

module _ (tree : realms.Tree) (family : Family) (stands : realms.StandsFor tree family) where
  pub there : (x : Ino) → story.is_there family.members x ≡ true → realms.is_there tree x ≡ true
  there x is = stands.there x ∙ is

  pub not_there : (x : Ino) → story.is_there family.members x ≡ false → realms.is_there tree x ≡ false
  not_there x is = stands.there x ∙ is

  pub under : (x top : Ino) (b : Bool) → story.is_there family.members x ≡ true → story.is_under family.members x top ≡ b → realms.is_under tree x top ≡ b
  under x top b is same = under_is tree family stands x top (there x is) ∙ same

  childless : (x : Ino) → ((other : Ino) → is_on x (above_by (member family.members other)) ≡ false) → IsChildless family x
  childless x top other way is =
      let off : is_on x (x ∷ way) ≡ false = subst (λ (w : List Ino). is_on x w ≡ false) is (top other) in
      let on : is_on x (x ∷ way) ≡ true = rw (itself x) refl in
      differ (sym on ∙ off)
    where
      differ : true ≡ false → ⊥
      differ h = cc

  pub leaf : (x : Ino) → calls.IsLeaf family x → realms.IsLeaf tree x
  leaf x fine = leaf_is tree family stands x fine.no_root (childless x fine.top)

  pub can_move : (x parent : Ino) → calls.IsMove family x parent → CanMove x parent tree
  can_move x parent fine = record {
    there = there x fine.there;
    parent_there = there parent fine.parent_there;
    no_root = fine.no_root;
    outside = under parent GLOBAL false fine.parent_there fine.parent_outside;
    apart = under parent x false fine.parent_there fine.apart;
  }

  pub can_snap : (id : SnapId) (dir : Ino) (name : List ℕ) → calls.IsSnap family id dir name → CanSnap id dir name tree
  can_snap id dir name fine = record {
    there = there dir fine.there;
    no_stray = λ is. same fine.no_stray is;
    outside = under dir GLOBAL false fine.there fine.outside;
    new_name = fine.new_name;
    later = subst (λ (last : SnapId). last.0 < id.0) (sym stands.applied_is) fine.later;
    small = ltb-true id.0 4611686018427387904 fine.given;
    family = family;
    stands = stands;
    fine = no_refusal _ _ _ fine.free fine.few_own fine.few_live;
  }
    where
      same : same_ino dir STRAY ≡ false → dir ≡ STRAY → ⊥
      same other is = let off : same_ino STRAY STRAY ≡ false = subst (λ (d : Ino). same_ino d STRAY ≡ false) is other in cc

  pub dead : (id : SnapId) → calls.is_live_id id family.snaps ≡ false → realms.is_live tree id ≡ false
  dead id is = live_is tree family stands id ∙ is

-- A leaf goes to the global realm, or is there no more.
use Rattle.std.proofs.Common.{◌≡◌, ℕ, ◌+◌, ◌≤◌, Bool, true, false, not, ◌||◌, cond, List, [], ◌∷◌, Option, None, Some, inl, inr, refl, ap, sym, ◌∙◌, subst, arith, map, filter}
use Rattle.snap_ids.specs.declared.id.Ino.{Ino}
use Rattle.snap_ids.specs.declared.id.SnapId.{SnapId}
use Rattle.snap_ids.specs.declared.id.TheConstants.{GLOBAL}
use Rattle.realm_story.specs.declared.records.Node.{Node}
use Rattle.realm_story.specs.declared.records.Snap.{Snap}
use Rattle.realm_story.specs.Family.{Member, Family, same_ino, member, is_member, is_there, above_by, is_on, is_root, birth_of, without, made_global, to_global, forget}
use Rattle.realm_story.specs.Family.{ids_of as made_ids}
use Rattle.realm_story.specs.Family.{birth_by as first_by}
use Rattle.realm_story.specs.Stands.{Stands}
use Rattle.realm_story.proofs.Facts.{same_of, same_sym}
use Rattle.realm_story.proofs.Same.{put, greatest_one}
use Rattle.realm_story.proofs.Gone.{IsLeaf, gone_law}

-- a member that another one hides has its number
pub other_than : (x y : Ino) (m : Member) → same_ino x y ≡ false → same_ino m.ino y ≡ true → same_ino m.ino x ≡ false
other_than x y m apart is = go (same_ino m.ino x) refl
  where
    go : (b : Bool) → same_ino m.ino x ≡ b → b ≡ false
    go true e =
        let equal : same_ino x y ≡ true = ap (λ z. same_ino z y) (sym (same_of m.ino x e)) ∙ is in
        cc
    go false e = refl

-- marks without one
without_other : (x y : Ino) (marked : List Ino) → same_ino x y ≡ false → is_on y (without x marked) ≡ is_on y marked
without_other x y [] apart = refl
without_other x y (z ∷ marked) apart = go (same_ino z x) refl (without_other x y marked apart)
  where
    unlike : same_ino z x ≡ true → same_ino y z ≡ false
    unlike e = ap (same_ino y) (same_of z x e) ∙ same_sym y x ∙ apart

    go : (b : Bool) → same_ino z x ≡ b → is_on y (without x marked) ≡ is_on y marked → is_on y (cond (not b) (z ∷ without x marked) (without x marked)) ≡ (same_ino y z || is_on y marked)
    go true e rest = rw (unlike e) rest
    go false e rest = rw rest refl

without_self : (x : Ino) (marked : List Ino) → is_on x (without x marked) ≡ false
without_self x [] = refl
without_self x (z ∷ marked) = go (same_ino z x) refl (without_self x marked)
  where
    go : (b : Bool) → same_ino z x ≡ b → is_on x (without x marked) ≡ false → is_on x (cond (not b) (z ∷ without x marked) (without x marked)) ≡ false
    go true e rest = rest
    go false e rest = rw (same_sym x z, e) rest

-- a member who went to the global realm
abbrev by_global : Ino → Option Member → Option Member
by_global x None = None
by_global x (Some m) = Some (made_global x m)

global_member : (x y : Ino) (members : List Member) → member (map (made_global x) members) y ≡ by_global x (member members y)
global_member x y [] = refl
global_member x y (m ∷ members) = go (same_ino m.ino y) (global_member x y members)
  where
    go : (b : Bool) → member (map (made_global x) members) y ≡ by_global x (member members y) → cond b (Some (made_global x m)) (member (map (made_global x) members) y) ≡ by_global x (cond b (Some m) (member members y))
    go true rest = refl
    go false rest = rest

-- what is found under a number has that number
pub found_is : (y : Ino) (members : List Member) (m : Member) → member members y ≡ Some m → same_ino m.ino y ≡ true
found_is y [] m is = cc
found_is y (first ∷ members) m is = go (same_ino first.ino y) refl is (λ h. found_is y members m h)
  where
    go : (b : Bool) → same_ino first.ino y ≡ b → cond b (Some first) (member members y) ≡ Some m → (member members y ≡ Some m → same_ino m.ino y ≡ true) → same_ino m.ino y ≡ true
    go true e is later = let same : m ≡ first = cc in ap (λ (t : Member). same_ino t.ino y) same ∙ e
    go false e is later = later is

above_other : (x y : Ino) (found : Option Member) → same_ino x y ≡ false → ((m : Member) → found ≡ Some m → same_ino m.ino y ≡ true) → above_by (by_global x found) ≡ above_by found
above_other x y None apart is = refl
above_other x y (Some m) apart is = rw (other_than x y m apart (is m refl)) refl

above_here : (x : Ino) (found : Option Member) → is_member found ≡ true → ((m : Member) → found ≡ Some m → same_ino m.ino x ≡ true) → above_by (by_global x found) ≡ GLOBAL ∷ []
above_here x None there is = cc
above_here x (Some m) there is = rw (is m refl) refl

first_same : (x : Ino) (found : Option Member) → first_by (by_global x found) ≡ first_by found
first_same x None = refl
first_same x (Some m) = refl

there_same : (x : Ino) (found : Option Member) → is_member (by_global x found) ≡ is_member found
there_same x None = refl
there_same x (Some m) = refl

on_global : (x : Ino) → is_on GLOBAL (x ∷ GLOBAL ∷ []) ≡ true
on_global x = go (same_ino GLOBAL x)
  where
    go : (b : Bool) → (b || true) ≡ true
    go true = refl
    go false = refl

-- a file goes to the global realm
pub global_law : (at : ℕ → Option Node) (snaps : List Snap) (applied : SnapId) (family : Family) → Stands at snaps applied family → (x : Ino) (node : Node) → IsLeaf at x → is_there family.members x ≡ true → node.parent ≡ Some GLOBAL → node.birth ≡ birth_of family x → node.realm ≡ None → Stands (put x (Some node) at) snaps applied (to_global x family)
global_law at snaps applied family stands x node leaf there parent birth realm =
    gone_law at snaps applied family (to_global x family) stands x (Some node) leaf (record {
      snaps = refl;
      applied = refl;
      there = λ ino apart. ap (λ b. is_root ino || b) (ap is_member (global_member x ino family.members) ∙ there_same x (member family.members ino));
      above = λ ino apart. ap above_by (global_member x ino family.members) ∙ above_other x ino (member family.members ino) apart (found_is ino family.members);
      birth = λ ino apart. first_is ino;
      marks = λ ino apart. ap (λ b. is_root ino || b) (without_other x ino family.marked apart);
      there_now = sym (ap (λ b. is_root x || b) (ap is_member (global_member x x family.members) ∙ there_same x (member family.members x)) ∙ there);
      birth_now = birth ∙ sym (first_is x);
      unmarked_now = ap (λ b. is_root x || b) (without_self x family.marked) ∙ rw leaf.no_root refl;
      realm_now = realm;
      parent_now = λ next h. let same : Some GLOBAL ≡ Some next = sym parent ∙ h in cc;
      above_now = inr (parent, above_is);
      late_now = subst (λ (n : SnapId). 2 ≤ n.0) (sym (first_is x)) (stands.late x);
      born_now = subst (λ (n : SnapId). n.0 ≤ family.applied.0 + 1) (sym (first_is x)) (rw (← stands.applied_is) (stands.born x));
      away = λ h. ap (λ way. is_on GLOBAL (x ∷ way)) above_is ∙ on_global x;
    })
  where
    first_is : (ino : Ino) → birth_of (to_global x family) ino ≡ birth_of family ino
    first_is ino = ap first_by (global_member x ino family.members) ∙ first_same x (member family.members ino)

    member_there : is_member (member family.members x) ≡ true
    member_there = rw leaf.no_root at there

    above_is : above_by (member (to_global x family).members x) ≡ GLOBAL ∷ []
    above_is = ap above_by (global_member x x family.members) ∙ above_here x (member family.members x) member_there (found_is x family.members)

-- those that are left
left_other : (x y : Ino) (members : List Member) → same_ino x y ≡ false → member (filter (λ (m : Member). not (same_ino m.ino x)) members) y ≡ member members y
left_other x y [] apart = refl
left_other x y (m ∷ members) apart = go (same_ino m.ino x) refl (left_other x y members apart)
  where
    kept : List Member
    kept = filter (λ (m : Member). not (same_ino m.ino x)) members

    go : (b : Bool) → same_ino m.ino x ≡ b → member (filter (λ (m : Member). not (same_ino m.ino x)) members) y ≡ member members y → member (cond (not b) (m ∷ filter (λ (m : Member). not (same_ino m.ino x)) members) (filter (λ (m : Member). not (same_ino m.ino x)) members)) y ≡ cond (same_ino m.ino y) (Some m) (member members y)
    go true e rest =
        let unlike : same_ino m.ino y ≡ false = ap (λ z. same_ino z y) (same_of m.ino x e) ∙ apart in
        rw unlike rest
    go false e rest = rw rest refl

left_self : (x : Ino) (members : List Member) → member (filter (λ (m : Member). not (same_ino m.ino x)) members) x ≡ None
left_self x [] = refl
left_self x (m ∷ members) = go (same_ino m.ino x) refl (left_self x members)
  where
    go : (b : Bool) → same_ino m.ino x ≡ b → member (filter (λ (m : Member). not (same_ino m.ino x)) members) x ≡ None → member (cond (not b) (m ∷ filter (λ (m : Member). not (same_ino m.ino x)) members) (filter (λ (m : Member). not (same_ino m.ino x)) members)) x ≡ None
    go true e rest = rest
    go false e rest = rw e rest

-- an inode is there no more
pub forget_law : (at : ℕ → Option Node) (snaps : List Snap) (applied : SnapId) (family : Family) → Stands at snaps applied family → (x : Ino) → IsLeaf at x → Stands (put x None at) snaps applied (forget x family)
forget_law at snaps applied family stands x leaf =
    gone_law at snaps applied family (forget x family) stands x None leaf (record {
      snaps = refl;
      applied = refl;
      there = λ ino apart. ap (λ t. is_root ino || is_member t) (left_other x ino family.members apart);
      above = λ ino apart. ap above_by (left_other x ino family.members apart);
      birth = λ ino apart. ap first_by (left_other x ino family.members apart);
      marks = λ ino apart. ap (λ b. is_root ino || b) (without_other x ino family.marked apart);
      there_now = sym (gone_now);
      birth_now = sym (ap first_by none_left);
      unmarked_now = ap (λ b. is_root x || b) (without_self x family.marked) ∙ rw leaf.no_root refl;
      realm_now = refl;
      parent_now = λ next h. cc;
      above_now = inl (refl, ap above_by none_left);
      late_now = subst (λ (n : SnapId). 2 ≤ n.0) (sym (ap first_by none_left)) (omega arith);
      born_now = subst (λ (n : SnapId). n.0 ≤ family.applied.0 + 1) (sym (ap first_by none_left)) (rw (← stands.applied_is) (omega (arith, stands.last, greatest_one (made_ids family.snaps))));
      away = λ h. let never : false ≡ true = sym gone_now ∙ h in cc;
    })
  where
    none_left : member (forget x family).members x ≡ None
    none_left = left_self x family.members

    gone_now : is_there (forget x family).members x ≡ false
    gone_now = ap (λ t. is_root x || is_member t) none_left ∙ rw leaf.no_root refl

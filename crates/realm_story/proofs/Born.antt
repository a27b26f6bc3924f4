-- An inode is born.
use Rattle.std.proofs.Common.{◌≡◌, ℕ, ◌+◌, ◌<◌, ◌≤◌, Bool, true, false, not, ◌||◌, ◌&&◌, cond, leb, List, [], ◌∷◌, Option, None, Some, refl, ap, sym, ◌∙◌, subst, arith, filter}
use Rattle.std.proofs.lemmas.Bool.Decides.{nat_tests}
use Rattle.snap_ids.specs.declared.id.Ino.{Ino}
use Rattle.snap_ids.specs.declared.id.SnapId.{SnapId}
use Rattle.snap_ids.specs.declared.id.TheConstants.{GLOBAL}
use Rattle.snap_ids.specs.Traces.{if_from}
use Rattle.realm_story.specs.declared.records.Node.{Node}
use Rattle.realm_story.specs.declared.records.Snap.{Snap}
use Rattle.realm_story.specs.Family.{Made, Member, Family, same_ino, member, is_member, is_there, above_by, way_up, is_on, is_root, is_marked, is_in_global, birth_of, covering, greatest, next_id, born, is_fresh}
use Rattle.realm_story.specs.Family.{ids_of as made_ids}
use Rattle.realm_story.specs.Family.{birth_by as first_by}
use Rattle.realm_story.specs.Records.{parent_by, birth_by, realm_by, is_node, is_realm, seq_on, seq_by}
use Rattle.realm_story.specs.Stands.{Climbs, IsEarly, Each, IsRight, IsRooted, FallBelow, Stands}
use Rattle.realm_story.proofs.Facts.{same_of, both_of}
use Rattle.realm_story.proofs.Same.{put, climbs_put, lists_put, seq_put, seq_low, absent_above, greatest_one, each_weaker, each_both, each_below}

-- the record of an inode that is born
pub record IsBorn (family : Family) (x parent : Ino) (node : Node) : Type 0 where
  pub parent_is : node.parent ≡ Some parent
  pub birth_is : node.birth ≡ next_id family.applied
  pub realm_is : node.realm ≡ None
  pub there : is_there family.members parent ≡ true
  pub outside : is_in_global family.members parent ≡ false
  pub new : is_there family.members x ≡ false
  pub fresh : is_fresh x family.snaps ≡ true

or_true : (b : Bool) → (b || true) ≡ true
or_true true = refl
or_true false = refl

-- whoever was there still is
more_there : (m : Member) (members : List Member) (ino : Ino) → is_there members ino ≡ true → is_there (m ∷ members) ino ≡ true
more_there m members ino there = go (same_ino m.ino ino) there
  where
    go : (b : Bool) → (is_root ino || is_member (member members ino)) ≡ true → (is_root ino || is_member (cond b (Some m) (member members ino))) ≡ true
    go true h = or_true (is_root ino)
    go false h = h

no_node : (node : Option Node) → is_node node ≡ false → realm_by node ≡ None
no_node None h = refl
no_node (Some n) h = cc

-- no snapshot covers what is born after all
none_covers : (birth : ℕ) (g : Bool) (x : Ino) (snaps : List Made) → FallBelow birth snaps → filter (λ (made : Made). leb birth made.id.0 && (g || is_on x made.covered)) snaps ≡ []
none_covers birth g x [] fall = refl
none_covers birth g x (made ∷ snaps) fall =
    let early : leb birth made.id.0 ≡ false = before made.id.0 birth fall.0 in
    rw early (none_covers birth g x snaps (lower made.id.0 birth snaps fall.0 fall.2))
  where
    before : (m n : ℕ) → m < n → leb n m ≡ false
    before m n h = grind (arith, nat_tests)

    lower : (m n : ℕ) (snaps : List Made) → m < n → FallBelow m snaps → FallBelow n snaps
    lower m n [] less fall = tt
    lower m n (made ∷ snaps) less fall = (omega (arith, fall.0), fall.1, fall.2)

fresh_roots : (x : Ino) (snaps : List Made) → is_fresh x snaps ≡ true → Each (λ made. same_ino x made.root ≡ false) snaps
fresh_roots x [] fresh = tt
fresh_roots x (made ∷ snaps) fresh =
    let both = both_of (not (same_ino x made.root)) (is_fresh x snaps) fresh in
    (unnot (same_ino x made.root) both.0, fresh_roots x snaps both.1)
  where
    unnot : (b : Bool) → not b ≡ true → b ≡ false
    unnot true h = sym h
    unnot false h = refl

beyond : (n a : ℕ) → n ≤ a → cond (leb (a + 1) n) n 1 ≡ 1
beyond n a low = grind (arith, nat_tests)

-- the records stand for the story in which the inode was born
pub born_law : (at : ℕ → Option Node) (snaps : List Snap) (applied : SnapId) (family : Family) → Stands at snaps applied family → (x parent : Ino) (node : Node) → IsBorn family x parent node → Stands (put x (Some node) at) snaps applied (born x parent family)
born_law at snaps applied family stands x parent node is = record {
  applied_is = stands.applied_is;
  snaps_are = stands.snaps_are;
  fall = stands.fall;
  last = stands.last;
  there = λ ino. there_at ino (same_ino x ino) refl;
  births = λ ino. births_at ino (same_ino x ino) refl;
  late = λ ino. late_at ino (same_ino x ino) refl;
  born = λ ino. born_at ino (same_ino x ino) refl;
  marks = λ ino. marks_at ino (same_ino x ino) refl;
  climbs = λ ino. climbs_at ino (same_ino x ino) refl;
  closed = λ ino next. closed_at ino next (same_ino x ino) refl;
  tops = λ ino. tops_at ino (same_ino x ino) refl;
  early = λ ino. early_at ino (same_ino x ino) refl;
  named = stands.named;
  rooted = each_both (IsRooted family) (λ made. same_ino x made.root ≡ false) (IsRooted new_family) family.snaps (λ made rooted apart. rooted_at made rooted apart) stands.rooted (fresh_roots x family.snaps is.fresh);
  right = λ ino. right_at ino (same_ino x ino) refl;
  latest = λ ino. latest_at ino (same_ino x ino) refl;
}
  where
    new_family : Family
    new_family = born x parent family

    m : Member
    m = record { ino = x; above = way_up family.members parent; birth = next_id family.applied }

    new_at : ℕ → Option Node
    new_at = put x (Some node) at

    there_at : (ino : Ino) (b : Bool) → same_ino x ino ≡ b → is_node (new_at ino.0) ≡ is_there (m ∷ family.members) ino
    there_at ino true e = rw e (sym (or_true (is_root ino)))
    there_at ino false e = rw e (stands.there ino)

    births_at : (ino : Ino) (b : Bool) → same_ino x ino ≡ b → birth_by (new_at ino.0) ≡ birth_of new_family ino
    births_at ino true e = rw e is.birth_is
    births_at ino false e = rw e (stands.births ino)

    one : 1 ≤ applied.0
    one = let low : 1 ≤ greatest (made_ids family.snaps) = greatest_one (made_ids family.snaps) in omega (arith, stands.last)

    late_at : (ino : Ino) (b : Bool) → same_ino x ino ≡ b → 2 ≤ (birth_of new_family ino).0
    late_at ino true e = rw (e, ← stands.applied_is) (omega (arith, one))
    late_at ino false e = rw e (stands.late ino)

    born_at : (ino : Ino) (b : Bool) → same_ino x ino ≡ b → (birth_of new_family ino).0 ≤ applied.0 + 1
    born_at ino true e = rw (e, ← stands.applied_is) (omega arith)
    born_at ino false e = rw e (stands.born ino)

    none_at : at x.0 ≡ None
    none_at = empty (at x.0) (stands.there x ∙ is.new)
      where
        empty : (node : Option Node) → is_node node ≡ false → node ≡ None
        empty None h = refl
        empty (Some n) h = cc

    unmarked : is_marked family.marked x ≡ false
    unmarked = sym (stands.marks x) ∙ ap (λ node. is_realm (realm_by node)) none_at

    marks_at : (ino : Ino) (b : Bool) → same_ino x ino ≡ b → is_realm (realm_by (new_at ino.0)) ≡ is_marked family.marked ino
    marks_at ino true e = rw (e, is.realm_is) (sym (ap (is_marked family.marked) (sym (same_of x ino e)) ∙ unmarked))
    marks_at ino false e = rw e (stands.marks ino)

    off : (ino : Ino) → same_ino x ino ≡ false → is_on x (way_up family.members ino) ≡ false
    off ino e = rw e (absent_above at snaps applied family stands x is.new ino)

    apart_parent : (b : Bool) → same_ino x parent ≡ b → b ≡ false
    apart_parent true e = let there : is_there family.members x ≡ true = ap (is_there family.members) (same_of x parent e) ∙ is.there in let new : is_there family.members x ≡ false = is.new in cc
    apart_parent false e = refl

    off_parent : is_on x (way_up family.members parent) ≡ false
    off_parent = off parent (apart_parent (same_ino x parent) refl)

    climbs_at : (ino : Ino) (b : Bool) → same_ino x ino ≡ b → Climbs new_at ino (above_by (member (m ∷ family.members) ino))
    climbs_at ino true e = rw e (rw e is.parent_is, climbs_put at x (Some node) parent (above_by (member family.members parent)) off_parent (stands.climbs parent))
    climbs_at ino false e = rw e (climbs_put at x (Some node) ino (above_by (member family.members ino)) (off ino e) (stands.climbs ino))

    closed_at : (ino next : Ino) (b : Bool) → same_ino x ino ≡ b → parent_by (new_at ino.0) ≡ Some next → is_there (m ∷ family.members) next ≡ true
    closed_at ino next true e = λ h.
        let same : Some parent ≡ Some next = sym is.parent_is ∙ (rw e at h) in
        let equal : next ≡ parent = cc in
        more_there m family.members next (ap (is_there family.members) equal ∙ is.there)
    closed_at ino next false e = λ h. more_there m family.members next (stands.closed ino next (rw e at h))

    tops_at : (ino : Ino) (b : Bool) → same_ino x ino ≡ b → is_root ino ≡ true → parent_by (new_at ino.0) ≡ None
    tops_at ino true e = λ root.
        let there : is_there family.members x ≡ true = ap (is_there family.members) (same_of x ino e) ∙ rw root refl in
        let new : is_there family.members x ≡ false = is.new in
        cc
    tops_at ino false e = λ root. rw e (stands.tops ino root)

    early_at : (ino : Ino) (b : Bool) → same_ino x ino ≡ b → IsEarly applied.0 (realm_by (new_at ino.0))
    early_at ino true e = rw (e, is.realm_is) tt
    early_at ino false e = rw e (stands.early ino)

    rooted_at : (made : Made) → IsRooted family made → same_ino x made.root ≡ false → IsRooted new_family made
    rooted_at made rooted apart = rw apart rooted

    fall_new : FallBelow (next_id family.applied).0 family.snaps
    fall_new = rw (← stands.applied_is) stands.fall

    right_at : (ino : Ino) (b : Bool) → same_ino x ino ≡ b → is_there (m ∷ family.members) ino ≡ true → is_in_global (m ∷ family.members) ino ≡ false → Each (IsRight new_at (way_up (m ∷ family.members) ino) ino (birth_of new_family ino)) family.snaps
    right_at ino true e there outside =
        rw e (each_weaker (λ made. made.id.0 < (next_id family.applied).0) (IsRight new_at (ino ∷ way_up family.members parent) ino (next_id family.applied)) family.snaps (λ made low kept late. absurd (omega (arith, low, late))) (each_below (next_id family.applied).0 family.snaps fall_new))
    right_at ino false e there outside =
        rw e (each_weaker (IsRight at (way_up family.members ino) ino (birth_of family ino)) (IsRight new_at (way_up family.members ino) ino (birth_of family ino)) family.snaps
        (λ made right kept late. lists_put at x (Some node) (way_up family.members ino) made.root made.id (off ino e) ∙ right kept late)
        (stands.right ino (rw e at there) (rw e at outside)))

    latest_at : (ino : Ino) (b : Bool) → same_ino x ino ≡ b → is_there (m ∷ family.members) ino ≡ true → is_in_global (m ∷ family.members) ino ≡ false → if_from (birth_of new_family ino) (seq_on new_at (way_up (m ∷ family.members) ino)) 1 ≡ greatest (made_ids (covering new_family ino))
    latest_at ino true e there outside =
        let low : seq_on new_at (way_up family.members parent) ≤ family.applied.0 = rw (seq_put at x (Some node) (way_up family.members parent) off_parent, ← stands.applied_is) (seq_low at applied.0 stands.early (way_up family.members parent)) in
        let same : member (m ∷ family.members) ino ≡ Some m = rw e refl in
        let none : realm_by (new_at ino.0) ≡ None = rw e is.realm_is in
        subst (λ (t : Option Member). if_from (first_by t) (seq_on new_at (ino ∷ above_by t)) 1 ≡ greatest (made_ids (filter (λ (made : Made). leb (first_by t).0 made.id.0 && (is_on GLOBAL (ino ∷ above_by t) || is_on ino made.covered)) family.snaps))) (sym same)
        (ap (λ r. if_from (next_id family.applied) (seq_by r (seq_on new_at (way_up family.members parent))) 1) none
        ∙ beyond (seq_on new_at (way_up family.members parent)) family.applied.0 low
        ∙ ap (λ s. greatest (made_ids s)) (sym (none_covers (next_id family.applied).0 (is_on GLOBAL (ino ∷ way_up family.members parent)) ino family.snaps fall_new)))
    latest_at ino false e there outside =
        let same : member (m ∷ family.members) ino ≡ member family.members ino = rw e refl in
        subst (λ (t : Option Member). if_from (first_by t) (seq_on new_at (ino ∷ above_by t)) 1 ≡ greatest (made_ids (filter (λ (made : Made). leb (first_by t).0 made.id.0 && (is_on GLOBAL (ino ∷ above_by t) || is_on ino made.covered)) family.snaps))) (sym same)
        (ap (λ n. if_from (birth_of family ino) n 1) (seq_put at x (Some node) (way_up family.members ino) (off ino e)) ∙ stands.latest ino (rw e at there) (rw e at outside))

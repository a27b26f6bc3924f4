-- A snapshot is made.
use Rattle.std.proofs.Common.{◌≡◌, ℕ, ◌+◌, ◌<◌, ◌≤◌, Bool, true, false, ◌||◌, ◌&&◌, cond, eqb, leb, nat_le, max, List, [], ◌∷◌, Option, None, Some, refl, ap, sym, ◌∙◌, subst, arith, map, filter}
use Rattle.std.proofs.lemmas.Bool.Decides.{nat_tests}
use Rattle.std.specs.List.{list_all}
use Rattle.snap_ids.specs.declared.id.Ino.{Ino}
use Rattle.snap_ids.specs.declared.id.SnapId.{SnapId}
use Rattle.snap_ids.specs.Context.{is_listed}
use Rattle.snap_ids.specs.Traces.{if_from}
use Rattle.realm_story.specs.declared.records.Node.{Node}
use Rattle.realm_story.specs.declared.records.Realm.{Realm}
use Rattle.realm_story.specs.declared.records.Snap.{Snap}
use Rattle.realm_story.specs.Family.{Made, Member, Family, same_ino, member, is_member, is_there, above_by, way_up, is_on, is_under, is_root, is_marked, is_in_global, birth_of, covering, greatest, inodes, add_snap}
use Rattle.realm_story.specs.Family.{ids_of as made_ids}
use Rattle.realm_story.specs.Records.{parent_by, birth_by, realm_by, is_node, is_realm, lists, lists_by, seq_on, seq_by}
use Rattle.realm_story.specs.Stands.{Climbs, IsEarly, IsRight, IsRooted, FallBelow, Stands, plain}
use Rattle.realm_story.proofs.Facts.{same_of, itself, same_sym}
use Rattle.realm_story.proofs.Contexts.{covers_by}
use Rattle.realm_story.proofs.Same.{put, seq_put, seq_low, each_weaker, each_both, each_below, greatest_one}

-- the realm of a directory once it has a new snapshot
abbrev pub snapped : SnapId → Option Realm → Realm
snapped id None = record { seq = id; since = record { 0 = 0 }; past = [] }
snapped id (Some realm) = record { seq = id; since = realm.since; past = realm.past }

later : (m n : ℕ) (ids : List SnapId) → m ≤ n → list_all (λ (id : SnapId). nat_le id.0 m) ids ≡ true → list_all (λ (id : SnapId). nat_le id.0 n) ids ≡ true
later m n [] more all = refl
later m n (id ∷ ids) more all = go (nat_le id.0 m) refl all (later m n ids more)
  where
    go : (b : Bool) → nat_le id.0 m ≡ b → (b && list_all (λ (id : SnapId). nat_le id.0 m) ids) ≡ true → (list_all (λ (id : SnapId). nat_le id.0 m) ids ≡ true → list_all (λ (id : SnapId). nat_le id.0 n) ids ≡ true) → (nat_le id.0 n && list_all (λ (id : SnapId). nat_le id.0 n) ids) ≡ true
    go true e all next = let test : nat_le id.0 n ≡ true = le_more id.0 m n e more in rw test (next all)
      where
        le_more : (k m n : ℕ) → nat_le k m ≡ true → m ≤ n → nat_le k n ≡ true
        le_more k m n e more = grind arith
    go false e all next = cc

pub early_later : (m n : ℕ) (r : Option Realm) → m ≤ n → IsEarly m r → IsEarly n r
early_later m n None more early = tt
early_later m n (Some realm) more early = (omega (arith, early.0), omega (arith, early.1), later m n realm.past more early.2)

early_snapped : (m : ℕ) (id : SnapId) (r : Option Realm) → m < id.0 → IsEarly m r → IsEarly id.0 (Some (snapped id r))
early_snapped m id None more early = (omega arith, omega arith, refl)
early_snapped m id (Some realm) more early = (omega arith, omega (arith, early.1), later m id.0 realm.past (omega arith) early.2)

-- a later id stands in no past
pub not_past : (m : ℕ) (id : SnapId) (ids : List SnapId) → m < id.0 → list_all (λ (id : SnapId). nat_le id.0 m) ids ≡ true → is_listed id ids ≡ false
not_past m id [] more all = refl
not_past m id (next ∷ ids) more all = go (nat_le next.0 m) refl all (not_past m id ids more)
  where
    unlike : (k m n : ℕ) → nat_le k m ≡ true → m < n → eqb k n ≡ false
    unlike k m n e more = grind (arith, nat_tests)

    go : (b : Bool) → nat_le next.0 m ≡ b → (b && list_all (λ (id : SnapId). nat_le id.0 m) ids) ≡ true → (list_all (λ (id : SnapId). nat_le id.0 m) ids ≡ true → is_listed id ids ≡ false) → (eqb next.0 id.0 || is_listed id ids) ≡ false
    go true e all later = rw (unlike next.0 m id.0 e more) (later all)
    go false e all later = cc

leb_of : (m n : ℕ) → m ≤ n → leb m n ≡ true
leb_of m n h = grind (arith, nat_tests)

drop_false : (a b : Bool) → (a || (false || (true && b))) ≡ (a || b)
drop_false true b = refl
drop_false false b = refl

-- the new id is listed exactly under the directory
lists_new_by : (m : ℕ) (id : SnapId) (r : Option Realm) (ino dir : Ino) (above : Bool) → m < id.0 → IsEarly m r → (same_ino dir ino ≡ true → is_realm r ≡ true) → lists_by r ino dir id above ≡ (same_ino dir ino || above)
lists_new_by m id None ino dir above more early here = go (same_ino dir ino) here
  where
    go : (b : Bool) → (b ≡ true → false ≡ true) → above ≡ (b || above)
    go true h = let never : false ≡ true = h refl in cc
    go false h = refl
lists_new_by m id (Some realm) ino dir above more early here =
    rw (not_past m id realm.past more early.2, leb_of realm.since.0 id.0 (omega (arith, early.1))) (drop_false (same_ino dir ino) above)

lists_new_here : (m : ℕ) (id : SnapId) (r : Option Realm) (ino dir : Ino) (above : Bool) → m < id.0 → IsEarly m r → lists_by (Some (snapped id r)) ino dir id above ≡ (same_ino dir ino || above)
lists_new_here m id None ino dir above more early = rw (leb_of 0 id.0 (omega arith)) (drop_false (same_ino dir ino) above)
lists_new_here m id (Some realm) ino dir above more early =
    rw (not_past m id realm.past more early.2, leb_of realm.since.0 id.0 (omega (arith, early.1))) (drop_false (same_ino dir ino) above)

-- a directory without a realm has no snapshot
lists_old_here : (id s : SnapId) (r : Option Realm) (ino root : Ino) (above : Bool) → (is_realm r ≡ false → same_ino root ino ≡ false) → lists_by (Some (snapped id r)) ino root s above ≡ lists_by r ino root s above
lists_old_here id s None ino root above none = rw (none refl, leb_of 0 s.0 (omega arith)) refl
lists_old_here id s (Some realm) ino root above none = refl

seq_new_here : (m : ℕ) (id : SnapId) (r : Option Realm) (above : ℕ) → m < id.0 → above ≤ id.0 → IsEarly m r → seq_by (Some (snapped id r)) above ≡ id.0
seq_new_here m id None above more low early = go (leb 0 above)
  where
    go : (b : Bool) → max id.0 (cond b above 0) ≡ id.0
    go true = omega arith
    go false = omega arith
seq_new_here m id (Some realm) above more low early = go (leb realm.since.0 above)
  where
    go : (b : Bool) → max id.0 (cond b above 0) ≡ id.0
    go true = omega arith
    go false = omega arith

seq_new_by : (m : ℕ) (id : SnapId) (r : Option Realm) → m < id.0 → IsEarly m r → seq_by r id.0 ≡ id.0
seq_new_by m id None more early = refl
seq_new_by m id (Some realm) more early = rw (leb_of realm.since.0 id.0 (omega (arith, early.1))) (omega (arith, early.0))

-- the record of a directory that has a new snapshot
pub record IsSnapped (at : ℕ → Option Node) (applied : SnapId) (family : Family) (dir : Ino) (id : SnapId) (node : Node) : Type 0 where
  pub parent_is : node.parent ≡ parent_by (at dir.0)
  pub birth_is : node.birth ≡ birth_by (at dir.0)
  pub realm_is : node.realm ≡ Some (snapped id (realm_by (at dir.0)))
  pub there : is_there family.members dir ≡ true
  pub outside : is_in_global family.members dir ≡ false
  pub later : applied.0 < id.0

pub climbs_same : (at new : ℕ → Option Node) → ((ino : Ino) → parent_by (new ino.0) ≡ parent_by (at ino.0)) → (ino : Ino) (way : List Ino) → Climbs at ino way → Climbs new ino way
climbs_same at new same ino [] climbs = same ino ∙ climbs
climbs_same at new same ino (next ∷ way) climbs = (same ino ∙ climbs.0, climbs_same at new same next way climbs.1)

root_first : (n : ℕ) (b : Bool) → ((leb 1 n && leb n 3) || b) ≡ true → (eqb n 1 || (eqb n 2 || (eqb n 3 || b))) ≡ true
root_first n b h = grind (arith, nat_tests)

on_members : (members : List Member) (y : Ino) → is_on y (map (λ (m : Member). m.ino) members) ≡ is_member (member members y)
on_members [] y = refl
on_members (m ∷ members) y = rw (same_sym y m.ino) (go (same_ino m.ino y) (on_members members y))
  where
    go : (b : Bool) → is_on y (map (λ (m : Member). m.ino) members) ≡ is_member (member members y) → (b || is_on y (map (λ (m : Member). m.ino) members)) ≡ is_member (cond b (Some m) (member members y))
    go true rest = refl
    go false rest = rest

on_inodes : (members : List Member) (y : Ino) → is_there members y ≡ true → is_on y (inodes members) ≡ true
on_inodes members y there = rw (on_members members y) (root_first y.0 (is_member (member members y)) there)

on_filter : (P : Ino → Bool) (y : Ino) (xs : List Ino) → is_on y (filter P xs) ≡ (is_on y xs && P y)
on_filter P y [] = refl
on_filter P y (x ∷ xs) = go (P x) (same_ino y x) refl refl (on_filter P y xs)
  where
    go : (b e : Bool) → P x ≡ b → same_ino y x ≡ e → is_on y (filter P xs) ≡ (is_on y xs && P y) → is_on y (cond b (x ∷ filter P xs) (filter P xs)) ≡ ((e || is_on y xs) && P y)
    go true true is same rest = rw same (sym (ap P (same_of y x same) ∙ is))
    go true false is same rest = rw same rest
    go false true is same rest =
        let fails : P y ≡ false = ap P (same_of y x same) ∙ is in
        rest ∙ rw fails (both_false (is_on y xs))
      where
        both_false : (b : Bool) → (b && false) ≡ false
        both_false true = refl
        both_false false = refl
    go false false is same rest = rest

greatest_fewer : (birth : SnapId) (g : Bool) (ino : Ino) (snaps : List Made) → greatest (made_ids (filter (covers_by birth g ino) snaps)) ≤ greatest (made_ids snaps)
greatest_fewer birth g ino [] = omega arith
greatest_fewer birth g ino (made ∷ snaps) = go (covers_by birth g ino made) (greatest_fewer birth g ino snaps)
  where
    go : (b : Bool) → greatest (made_ids (filter (covers_by birth g ino) snaps)) ≤ greatest (made_ids snaps) → greatest (made_ids (cond b (made ∷ filter (covers_by birth g ino) snaps) (filter (covers_by birth g ino) snaps))) ≤ max made.id.0 (greatest (made_ids snaps))
    go true less = omega (arith, less)
    go false less = omega (arith, less)

fall_lower : (m n : ℕ) (snaps : List Made) → m ≤ n → FallBelow m snaps → FallBelow n snaps
fall_lower m n [] less fall = tt
fall_lower m n (made ∷ snaps) less fall = (omega (arith, fall.0), fall.1, fall.2)

-- the records stand for the story in which the snapshot was made
pub snapped_law : (at : ℕ → Option Node) (snaps : List Snap) (applied : SnapId) (family : Family) → Stands at snaps applied family → (dir : Ino) (id : SnapId) (name : List ℕ) (node : Node) → IsSnapped at applied family dir id node → Stands (put dir (Some node) at) (record { id = id; root = dir; name = name; live = true } ∷ snaps) id (add_snap dir id name family)
snapped_law at snaps applied family stands dir id name node is = record {
  applied_is = refl;
  snaps_are = ap (λ (s : List Snap). plain made ∷ s) stands.snaps_are;
  fall = (omega arith, omega (arith, one, is.later), fall_lower (applied.0 + 1) id.0 family.snaps (omega (arith, is.later)) stands.fall);
  last = omega (arith, stands.last, is.later);
  there = λ ino. there_at ino (same_ino dir ino) refl;
  births = λ ino. births_at ino (same_ino dir ino) refl;
  late = stands.late;
  born = λ ino. omega (arith, stands.born ino, is.later);
  marks = λ ino. marks_at ino (same_ino dir ino) refl;
  climbs = λ ino. climbs_same at new_at parents ino (above_by (member family.members ino)) (stands.climbs ino);
  closed = λ ino next h. stands.closed ino next (sym (parents ino) ∙ h);
  tops = λ ino root. parents ino ∙ stands.tops ino root;
  early = λ ino. early_at ino (same_ino dir ino) refl;
  named = (λ h. cc, stands.named);
  rooted = (λ there outside. marked_dir, each_weaker (IsRooted family) (IsRooted (add_snap dir id name family)) family.snaps (λ m rooted there outside. marked_more m.root (rooted there outside)) stands.rooted);
  right = λ ino there outside. (
    λ kept late. lists_new (way_up family.members ino) ∙ sym (covered_is ino there),
    each_both (IsRooted family) (λ m. (m.id.0 < applied.0 + 1) × IsRight at (way_up family.members ino) ino (birth_of family ino) m) (IsRight new_at (way_up family.members ino) ino (birth_of family ino)) family.snaps
        (λ m rooted both kept late. lists_old m.root m.id (unrooted m.root rooted) (way_up family.members ino) ∙ both.1 kept late) stands.rooted
        (each_both (λ m. m.id.0 < applied.0 + 1) (IsRight at (way_up family.members ino) ino (birth_of family ino)) (λ m. (m.id.0 < applied.0 + 1) × IsRight at (way_up family.members ino) ino (birth_of family ino) m) family.snaps (λ m low right. (low, right)) (each_below (applied.0 + 1) family.snaps stands.fall) (stands.right ino there outside)),
  );
  latest = λ ino there outside. latest_at ino there outside (is_on dir (way_up family.members ino)) refl;
}
  where
    new_at : ℕ → Option Node
    new_at = put dir (Some node) at

    made : Made
    made = record { id = id; root = dir; name = name; covered = filter (λ ino. is_under family.members ino dir) (inodes family.members); live = true; purged = false }

    one : 1 ≤ applied.0
    one = let low : 1 ≤ greatest (made_ids family.snaps) = greatest_one (made_ids family.snaps) in omega (arith, stands.last)

    there_at : (ino : Ino) (b : Bool) → same_ino dir ino ≡ b → is_node (new_at ino.0) ≡ is_there family.members ino
    there_at ino true e = rw e (sym is.there ∙ ap (is_there family.members) (same_of dir ino e))
    there_at ino false e = rw e (stands.there ino)

    births_at : (ino : Ino) (b : Bool) → same_ino dir ino ≡ b → birth_by (new_at ino.0) ≡ birth_of family ino
    births_at ino true e = rw e (is.birth_is ∙ stands.births dir ∙ ap (birth_of family) (same_of dir ino e))
    births_at ino false e = rw e (stands.births ino)

    parents_at : (ino : Ino) (b : Bool) → same_ino dir ino ≡ b → parent_by (new_at ino.0) ≡ parent_by (at ino.0)
    parents_at ino true e = rw e (is.parent_is ∙ ap (λ (y : Ino). parent_by (at y.0)) (same_of dir ino e))
    parents_at ino false e = rw e refl

    parents : (ino : Ino) → parent_by (new_at ino.0) ≡ parent_by (at ino.0)
    parents ino = parents_at ino (same_ino dir ino) refl

    marked_dir : is_marked (dir ∷ family.marked) dir ≡ true
    marked_dir = rw (itself dir) (go (is_root dir))
      where
        go : (b : Bool) → (b || true) ≡ true
        go true = refl
        go false = refl

    marked_more : (ino : Ino) → is_marked family.marked ino ≡ true → is_marked (dir ∷ family.marked) ino ≡ true
    marked_more ino h = go (is_root ino) (same_ino ino dir) (is_on ino family.marked) h
      where
        go : (a b c : Bool) → (a || c) ≡ true → (a || (b || c)) ≡ true
        go true b c h = refl
        go false true c h = refl
        go false false c h = h

    marks_at : (ino : Ino) (b : Bool) → same_ino dir ino ≡ b → is_realm (realm_by (new_at ino.0)) ≡ is_marked (dir ∷ family.marked) ino
    marks_at ino true e = rw (e, is.realm_is) (sym (ap (is_marked (dir ∷ family.marked)) (sym (same_of dir ino e)) ∙ marked_dir))
    marks_at ino false e = rw (same_sym ino dir, e) (stands.marks ino)

    early_at : (ino : Ino) (b : Bool) → same_ino dir ino ≡ b → IsEarly id.0 (realm_by (new_at ino.0))
    early_at ino true e = rw (e, is.realm_is) (early_snapped applied.0 id (realm_by (at dir.0)) is.later (stands.early dir))
    early_at ino false e = rw e (early_later applied.0 id.0 (realm_by (at ino.0)) (omega (arith, is.later)) (stands.early ino))

    lists_new_at : (ino : Ino) (above : Bool) (b : Bool) → same_ino dir ino ≡ b → lists_by (realm_by (new_at ino.0)) ino dir id above ≡ (same_ino dir ino || above)
    lists_new_at ino above true e =
        let here : realm_by (new_at ino.0) ≡ Some (snapped id (realm_by (at dir.0))) = rw e is.realm_is in
        ap (λ r. lists_by r ino dir id above) here ∙ lists_new_here applied.0 id (realm_by (at dir.0)) ino dir above is.later (stands.early dir)
    lists_new_at ino above false e =
        let here : realm_by (new_at ino.0) ≡ realm_by (at ino.0) = rw e refl in
        ap (λ r. lists_by r ino dir id above) here ∙ lists_new_by applied.0 id (realm_by (at ino.0)) ino dir above is.later (stands.early ino) (λ h. let never : false ≡ true = sym e ∙ h in cc)

    lists_new : (way : List Ino) → lists new_at way dir id ≡ is_on dir way
    lists_new [] = refl
    lists_new (ino ∷ way) = lists_new_at ino (lists new_at way dir id) (same_ino dir ino) refl ∙ ap (λ b. same_ino dir ino || b) (lists_new way)

    unrooted : (root : Ino) → (is_there family.members root ≡ true → is_in_global family.members root ≡ false → is_marked family.marked root ≡ true) → is_realm (realm_by (at dir.0)) ≡ false → same_ino root dir ≡ false
    unrooted root rooted none = go (same_ino root dir) refl
      where
        go : (b : Bool) → same_ino root dir ≡ b → b ≡ false
        go true e =
            let marked : is_marked family.marked dir ≡ true = subst (λ y. is_there family.members y ≡ true → is_in_global family.members y ≡ false → is_marked family.marked y ≡ true) (same_of root dir e) rooted is.there is.outside in
            let never : is_marked family.marked dir ≡ false = sym (stands.marks dir) ∙ none in
            cc
        go false e = refl

    lists_old_at : (root : Ino) (s : SnapId) → (is_realm (realm_by (at dir.0)) ≡ false → same_ino root dir ≡ false) → (ino : Ino) (above : Bool) (b : Bool) → same_ino dir ino ≡ b → lists_by (realm_by (new_at ino.0)) ino root s above ≡ lists_by (realm_by (at ino.0)) ino root s above
    lists_old_at root s none ino above true e =
        let here : realm_by (new_at ino.0) ≡ Some (snapped id (realm_by (at ino.0))) = rw e (is.realm_is ∙ ap (λ (y : Ino). Some (snapped id (realm_by (at y.0)))) (same_of dir ino e)) in
        ap (λ r. lists_by r ino root s above) here
        ∙ lists_old_here id s (realm_by (at ino.0)) ino root above (subst (λ (y : Ino). is_realm (realm_by (at y.0)) ≡ false → same_ino root y ≡ false) (same_of dir ino e) none)
    lists_old_at root s none ino above false e = rw e refl

    lists_old : (root : Ino) (s : SnapId) → (is_realm (realm_by (at dir.0)) ≡ false → same_ino root dir ≡ false) → (way : List Ino) → lists new_at way root s ≡ lists at way root s
    lists_old root s none [] = refl
    lists_old root s none (ino ∷ way) =
        lists_old_at root s none ino (lists new_at way root s) (same_ino dir ino) refl
        ∙ ap (lists_by (realm_by (at ino.0)) ino root s) (lists_old root s none way)

    covered_is : (ino : Ino) → is_there family.members ino ≡ true → is_on ino made.covered ≡ is_on dir (way_up family.members ino)
    covered_is ino there = on_filter (λ y. is_under family.members y dir) ino (inodes family.members) ∙ ap (λ b. b && is_on dir (way_up family.members ino)) (on_inodes family.members ino there)

    seq_at : (ino : Ino) (way : List Ino) (b : Bool) → same_ino dir ino ≡ b → (b ≡ false → seq_on new_at way ≡ id.0) → seq_by (realm_by (new_at ino.0)) (seq_on new_at way) ≡ id.0
    seq_at ino way true e rest =
        let here : realm_by (new_at ino.0) ≡ Some (snapped id (realm_by (at dir.0))) = rw e is.realm_is in
        ap (λ r. seq_by r (seq_on new_at way)) here
        ∙ seq_new_here applied.0 id (realm_by (at dir.0)) (seq_on new_at way) is.later (seq_low new_at id.0 (λ y. early_at y (same_ino dir y) refl) way) (stands.early dir)
    seq_at ino way false e rest =
        let here : realm_by (new_at ino.0) ≡ realm_by (at ino.0) = rw e refl in
        ap (λ r. seq_by r (seq_on new_at way)) here ∙ ap (seq_by (realm_by (at ino.0))) (rest refl) ∙ seq_new_by applied.0 id (realm_by (at ino.0)) is.later (stands.early ino)

    or_later : (a b c : Bool) → a ≡ c → (a || b) ≡ true → c ≡ false → b ≡ true
    or_later true b c e h f = let never : true ≡ false = e ∙ f in cc
    or_later false b c e h f = h

    seq_new : (way : List Ino) → is_on dir way ≡ true → seq_on new_at way ≡ id.0
    seq_new [] on = cc
    seq_new (ino ∷ way) on = seq_at ino way (same_ino dir ino) refl (λ apart. seq_new way (or_later (same_ino dir ino) (is_on dir way) (same_ino dir ino) refl on apart))

    before : Ino → List Made
    before ino = filter (covers_by (birth_of family ino) (is_in_global family.members ino) ino) family.snaps

    late : (ino : Ino) → leb (birth_of family ino).0 id.0 ≡ true
    late ino = leb_of (birth_of family ino).0 id.0 (omega (arith, stands.born ino, is.later))

    above_all : (ino : Ino) → id.0 ≡ max id.0 (greatest (made_ids (before ino)))
    above_all ino = omega (arith, greatest_fewer (birth_of family ino) (is_in_global family.members ino) ino family.snaps, stands.last, is.later)

    covers_made : (ino : Ino) → is_there family.members ino ≡ true → is_in_global family.members ino ≡ false → covers_by (birth_of family ino) (is_in_global family.members ino) ino made ≡ is_on dir (way_up family.members ino)
    covers_made ino there outside =
        ap (λ b. b && (is_in_global family.members ino || is_on ino made.covered)) (late ino)
        ∙ ap (λ g. g || is_on ino made.covered) outside
        ∙ covered_is ino there

    latest_at : (ino : Ino) → is_there family.members ino ≡ true → is_in_global family.members ino ≡ false → (b : Bool) → is_on dir (way_up family.members ino) ≡ b → if_from (birth_of family ino) (seq_on new_at (way_up family.members ino)) 1 ≡ greatest (made_ids (covering (add_snap dir id name family) ino))
    latest_at ino there outside true on =
        ap (λ n. if_from (birth_of family ino) n 1) (seq_new (way_up family.members ino) on)
        ∙ ap (λ b. cond b id.0 1) (late ino)
        ∙ above_all ino
        ∙ ap (λ b. greatest (made_ids (cond b (made ∷ before ino) (before ino)))) (sym (covers_made ino there outside ∙ on))
    latest_at ino there outside false on =
        ap (λ n. if_from (birth_of family ino) n 1) (seq_put at dir (Some node) (way_up family.members ino) on)
        ∙ stands.latest ino there outside
        ∙ ap (λ b. greatest (made_ids (cond b (made ∷ before ino) (before ino)))) (sym (covers_made ino there outside ∙ on))

-- An inode is moved.
use Rattle.std.proofs.Common.{◌≡◌, ℕ, ◌+◌, ◌≤◌, Bool, true, false, ◌||◌, cond, List, [], ◌∷◌, Option, None, Some, refl, ap, sym, ◌∙◌, subst, map, filter}
use Rattle.snap_ids.specs.declared.id.Ino.{Ino}
use Rattle.snap_ids.specs.declared.id.SnapId.{SnapId}
use Rattle.snap_ids.specs.declared.id.TheConstants.{GLOBAL}
use Rattle.snap_ids.specs.Traces.{if_from}
use Rattle.realm_story.specs.declared.records.Node.{Node}
use Rattle.realm_story.specs.declared.records.Realm.{Realm}
use Rattle.realm_story.specs.declared.records.Snap.{Snap}
use Rattle.realm_story.specs.Family.{Member, Family, same_ino, member, is_member, is_there, above_by, way_up, is_on, is_root, is_marked, is_in_global, birth_of, covering, greatest, way_moved, moved}
use Rattle.realm_story.specs.Family.{ids_of as made_ids}
use Rattle.realm_story.specs.Family.{birth_by as first_by}
use Rattle.realm_story.specs.Records.{parent_by, birth_by, realm_by, is_node, is_realm, lists, lists_by, seq_on, seq_by}
use Rattle.realm_story.specs.Stands.{Climbs, IsEarly, Each, IsRight, IsRooted, Stands}
use Rattle.realm_story.proofs.Facts.{same_of, itself, same_sym}
use Rattle.realm_story.proofs.Ways.{one_way}
use Rattle.realm_story.proofs.Contexts.{covers_by}
use Rattle.realm_story.proofs.Leaves.{found_is, other_than}
use Rattle.realm_story.proofs.Same.{put, climbs_put, lists_put, seq_put, each_weaker, each_both}

abbrev pub by_moved : Ino → List Ino → Option Member → Option Member
by_moved x up None = None
by_moved x up (Some m) = Some (moved x up m)

moved_member : (x : Ino) (up : List Ino) (y : Ino) (members : List Member) → member (map (moved x up) members) y ≡ by_moved x up (member members y)
moved_member x up y [] = refl
moved_member x up y (m ∷ members) = go (same_ino m.ino y) (moved_member x up y members)
  where
    go : (b : Bool) → member (map (moved x up) members) y ≡ by_moved x up (member members y) → cond b (Some (moved x up m)) (member (map (moved x up) members) y) ≡ by_moved x up (cond b (Some m) (member members y))
    go true rest = refl
    go false rest = rest

above_other : (x : Ino) (up : List Ino) (y : Ino) (found : Option Member) → same_ino x y ≡ false → ((m : Member) → found ≡ Some m → same_ino m.ino y ≡ true) → above_by (by_moved x up found) ≡ way_moved x up (above_by found)
above_other x up y None apart is = refl
above_other x up y (Some m) apart is = rw (other_than x y m apart (is m refl)) refl

above_here : (x : Ino) (up : List Ino) (found : Option Member) → is_member found ≡ true → ((m : Member) → found ≡ Some m → same_ino m.ino x ≡ true) → above_by (by_moved x up found) ≡ up
above_here x up None there is = cc
above_here x up (Some m) there is = rw (is m refl) refl

first_same : (x : Ino) (up : List Ino) (found : Option Member) → first_by (by_moved x up found) ≡ first_by found
first_same x up None = refl
first_same x up (Some m) = refl

there_same : (x : Ino) (up : List Ino) (found : Option Member) → is_member (by_moved x up found) ≡ is_member found
there_same x up None = refl
there_same x up (Some m) = refl

-- the story after the move, with these marks
abbrev pub after : Ino → Ino → List Ino → Family → Family
after x parent marked family = record { members = map (moved x (way_up family.members parent)) family.members; snaps = family.snaps; marked = marked; applied = family.applied }

-- the record of an inode that is moved
pub record IsMoved (at : ℕ → Option Node) (applied : SnapId) (family : Family) (x parent : Ino) (marked : List Ino) (node : Node) : Type 0 where
  pub parent_is : node.parent ≡ Some parent
  pub birth_is : node.birth ≡ birth_by (at x.0)
  pub there : is_there family.members x ≡ true
  pub no_root : is_root x ≡ false
  pub outside : is_in_global family.members x ≡ false
  pub parent_there : is_there family.members parent ≡ true
  pub parent_outside : is_in_global family.members parent ≡ false
  pub apart : is_on x (way_up family.members parent) ≡ false
  pub lists_same : Each (λ made. made.purged ≡ false → lists_by node.realm x made.root made.id (lists at (way_up family.members parent) made.root made.id) ≡ lists at (way_up family.members x) made.root made.id) family.snaps
  pub seq_same : seq_by node.realm (seq_on at (way_up family.members parent)) ≡ seq_on at (way_up family.members x)
  pub early : IsEarly applied.0 node.realm
  pub marked_now : is_realm node.realm ≡ is_marked marked x
  pub marked_same : (ino : Ino) → same_ino x ino ≡ false → is_marked marked ino ≡ is_marked family.marked ino
  pub marked_still : is_marked family.marked x ≡ true → is_marked marked x ≡ true

-- the records stand for the story in which the inode was moved
pub moved_law : (at : ℕ → Option Node) (snaps : List Snap) (applied : SnapId) (family : Family) → Stands at snaps applied family → (x parent : Ino) (marked : List Ino) (node : Node) → IsMoved at applied family x parent marked node → Stands (put x (Some node) at) snaps applied (after x parent marked family)
moved_law at snaps applied family stands x parent marked node is = record {
  applied_is = stands.applied_is;
  snaps_are = stands.snaps_are;
  fall = stands.fall;
  last = stands.last;
  there = λ ino. there_at ino (same_ino x ino) refl;
  births = λ ino. births_at ino (same_ino x ino) refl;
  late = λ ino. subst (λ (n : SnapId). 2 ≤ n.0) (sym (first_is ino)) (stands.late ino);
  born = λ ino. subst (λ (n : SnapId). n.0 ≤ applied.0 + 1) (sym (first_is ino)) (stands.born ino);
  marks = λ ino. marks_at ino (same_ino x ino) refl;
  climbs = λ ino. climbs_at ino (same_ino x ino) refl;
  closed = λ ino next. closed_at ino next (same_ino x ino) refl;
  tops = λ ino. tops_at ino (same_ino x ino) refl;
  early = λ ino. early_at ino (same_ino x ino) refl;
  named = stands.named;
  rooted = each_weaker (IsRooted family) (IsRooted new) family.snaps (λ made rooted there outside. marked_more made.root (same_ino x made.root) refl (rooted (sym (there_is made.root) ∙ there) (sym (global_is made.root) ∙ outside))) stands.rooted;
  right = λ ino there outside. right_at ino (sym (there_is ino) ∙ there) (sym (global_is ino) ∙ outside);
  latest = λ ino there outside. latest_at ino (sym (there_is ino) ∙ there) (sym (global_is ino) ∙ outside);
}
  where
    up : List Ino
    up = way_up family.members parent

    new : Family
    new = after x parent marked family

    new_at : ℕ → Option Node
    new_at = put x (Some node) at

    old_above : Ino → List Ino
    old_above ino = above_by (member family.members ino)

    new_above : Ino → List Ino
    new_above ino = above_by (member new.members ino)

    there_is : (ino : Ino) → is_there new.members ino ≡ is_there family.members ino
    there_is ino = ap (λ b. is_root ino || b) (ap is_member (moved_member x up ino family.members) ∙ there_same x up (member family.members ino))

    first_is : (ino : Ino) → birth_of new ino ≡ birth_of family ino
    first_is ino = ap first_by (moved_member x up ino family.members) ∙ first_same x up (member family.members ino)

    other_above : (ino : Ino) → same_ino x ino ≡ false → new_above ino ≡ way_moved x up (old_above ino)
    other_above ino e = ap above_by (moved_member x up ino family.members) ∙ above_other x up ino (member family.members ino) e (found_is ino family.members)

    member_there : is_member (member family.members x) ≡ true
    member_there = rw is.no_root at is.there

    own_above : new_above x ≡ up
    own_above = ap above_by (moved_member x up x family.members) ∙ above_here x up (member family.members x) member_there (found_is x family.members)

    there_at : (ino : Ino) (b : Bool) → same_ino x ino ≡ b → is_node (new_at ino.0) ≡ is_there new.members ino
    there_at ino true e = rw e (sym is.there ∙ ap (is_there family.members) (same_of x ino e) ∙ sym (there_is ino))
    there_at ino false e = rw e (stands.there ino ∙ sym (there_is ino))

    births_at : (ino : Ino) (b : Bool) → same_ino x ino ≡ b → birth_by (new_at ino.0) ≡ birth_of new ino
    births_at ino true e = rw e (is.birth_is ∙ stands.births x ∙ ap (birth_of family) (same_of x ino e) ∙ sym (first_is ino))
    births_at ino false e = rw e (stands.births ino ∙ sym (first_is ino))

    marks_at : (ino : Ino) (b : Bool) → same_ino x ino ≡ b → is_realm (realm_by (new_at ino.0)) ≡ is_marked marked ino
    marks_at ino true e = rw e (is.marked_now ∙ ap (is_marked marked) (same_of x ino e))
    marks_at ino false e = rw e (stands.marks ino ∙ sym (is.marked_same ino e))

    marked_more : (ino : Ino) (b : Bool) → same_ino x ino ≡ b → is_marked family.marked ino ≡ true → is_marked marked ino ≡ true
    marked_more ino true e h = ap (is_marked marked) (sym (same_of x ino e)) ∙ is.marked_still (ap (is_marked family.marked) (same_of x ino e) ∙ h)
    marked_more ino false e h = is.marked_same ino e ∙ h

    climbs_up : Climbs new_at x up
    climbs_up = (rw (itself x) is.parent_is, climbs_put at x (Some node) parent (old_above parent) is.apart (stands.climbs parent))

    climbs_moved : (ino : Ino) (way : List Ino) → same_ino x ino ≡ false → Climbs at ino way → Climbs new_at ino (way_moved x up way)
    climbs_moved ino [] e climbs = rw e climbs
    climbs_moved ino (next ∷ way) e climbs = go (same_ino next x) refl (λ apart. climbs_moved next way (same_sym x next ∙ apart) climbs.1)
      where
        go : (b : Bool) → same_ino next x ≡ b → (same_ino next x ≡ false → Climbs new_at next (way_moved x up way)) → Climbs new_at ino (cond b (x ∷ up) (next ∷ way_moved x up way))
        go true c rest = (rw e (climbs.0 ∙ ap Some (same_of next x c)), climbs_up)
        go false c rest = (rw e climbs.0, rest c)

    climbs_at : (ino : Ino) (b : Bool) → same_ino x ino ≡ b → Climbs new_at ino (new_above ino)
    climbs_at ino true e = subst (λ y. Climbs new_at y (new_above y)) (same_of x ino e) (subst (Climbs new_at x) (sym own_above) climbs_up)
    climbs_at ino false e = subst (Climbs new_at ino) (sym (other_above ino e)) (climbs_moved ino (old_above ino) e (stands.climbs ino))

    closed_at : (ino next : Ino) (b : Bool) → same_ino x ino ≡ b → parent_by (new_at ino.0) ≡ Some next → is_there new.members next ≡ true
    closed_at ino next true e = λ h.
        let same : Some parent ≡ Some next = sym is.parent_is ∙ (rw e at h) in
        let equal : next ≡ parent = cc in
        there_is next ∙ ap (is_there family.members) equal ∙ is.parent_there
    closed_at ino next false e = λ h. there_is next ∙ stands.closed ino next (rw e at h)

    tops_at : (ino : Ino) (b : Bool) → same_ino x ino ≡ b → is_root ino ≡ true → parent_by (new_at ino.0) ≡ None
    tops_at ino true e = λ root.
        let is_top : is_root x ≡ true = ap is_root (same_of x ino e) ∙ root in
        let never : is_root x ≡ false = is.no_root in
        cc
    tops_at ino false e = λ root. rw e (stands.tops ino root)

    early_at : (ino : Ino) (b : Bool) → same_ino x ino ≡ b → IsEarly applied.0 (realm_by (new_at ino.0))
    early_at ino true e = rw e is.early
    early_at ino false e = rw e (stands.early ino)

    -- of the way before and after the move, what is the same
    same_way : (A : Type 0) (f : (ℕ → Option Node) → List Ino → A) (step : Option Realm → Ino → A → A)
        → ((a : ℕ → Option Node) (ino : Ino) (way : List Ino) → f a (ino ∷ way) ≡ step (realm_by (a ino.0)) ino (f a way))
        → f new_at [] ≡ f at []
        → f new_at (x ∷ up) ≡ f at (way_up family.members x)
        → (ino : Ino) (way : List Ino) → Climbs at ino way → f new_at (way_moved x up way) ≡ f at way
    same_way A f step steps none here ino [] climbs = none
    same_way A f step steps none here ino (next ∷ way) climbs = go (same_ino next x) refl (same_way A f step steps none here next way climbs.1)
      where
        go : (b : Bool) → same_ino next x ≡ b → f new_at (way_moved x up way) ≡ f at way → f new_at (cond b (x ∷ up) (next ∷ way_moved x up way)) ≡ f at (next ∷ way)
        go true c rest =
            let equal : x ≡ next = sym (same_of next x c) in
            let whole : old_above next ≡ way = one_way at next (old_above next) way (stands.climbs next) climbs.1 in
            here ∙ ap (λ y. f at (way_up family.members y)) equal ∙ ap (λ w. f at (next ∷ w)) whole
        go false c rest =
            let other : same_ino x next ≡ false = same_sym x next ∙ c in
            let still : realm_by (new_at next.0) ≡ realm_by (at next.0) = rw other refl in
            steps new_at next (way_moved x up way) ∙ ap (λ r. step r next (f new_at (way_moved x up way))) still ∙ ap (step (realm_by (at next.0)) next) rest ∙ sym (steps at next way)

    whole_way : (A : Type 0) (f : (ℕ → Option Node) → List Ino → A) (step : Option Realm → Ino → A → A)
        → ((a : ℕ → Option Node) (ino : Ino) (way : List Ino) → f a (ino ∷ way) ≡ step (realm_by (a ino.0)) ino (f a way))
        → f new_at [] ≡ f at []
        → f new_at (x ∷ up) ≡ f at (way_up family.members x)
        → (ino : Ino) (b : Bool) → same_ino x ino ≡ b → f new_at (way_up new.members ino) ≡ f at (way_up family.members ino)
    whole_way A f step steps none here ino true e =
        subst (λ y. f new_at (way_up new.members y) ≡ f at (way_up family.members y)) (same_of x ino e) (ap (λ w. f new_at (x ∷ w)) own_above ∙ here)
    whole_way A f step steps none here ino false e =
        let still : realm_by (new_at ino.0) ≡ realm_by (at ino.0) = rw e refl in
        steps new_at ino (new_above ino)
        ∙ ap (λ r. step r ino (f new_at (new_above ino))) still
        ∙ ap (λ w. step (realm_by (at ino.0)) ino (f new_at w)) (other_above ino e)
        ∙ ap (step (realm_by (at ino.0)) ino) (same_way A f step steps none here ino (old_above ino) (stands.climbs ino))
        ∙ sym (steps at ino (old_above ino))

    x_apart_global : same_ino GLOBAL x ≡ false
    x_apart_global = go (same_ino GLOBAL x) refl
      where
        go : (b : Bool) → same_ino GLOBAL x ≡ b → b ≡ false
        go true c = let root : is_root x ≡ true = ap is_root (sym (same_of GLOBAL x c)) in let never : is_root x ≡ false = is.no_root in cc
        go false c = refl

    global_is : (ino : Ino) → is_in_global new.members ino ≡ is_in_global family.members ino
    global_is ino = whole_way Bool (λ a way. is_on GLOBAL way) (λ r y b. same_ino GLOBAL y || b) (λ a y way. refl) refl (ap (λ b. b || is_on GLOBAL up) x_apart_global ∙ is.parent_outside ∙ sym is.outside) ino (same_ino x ino) refl

    lists_is : (root : Ino) (s : SnapId) → lists_by node.realm x root s (lists at up root s) ≡ lists at (way_up family.members x) root s → (ino : Ino) → lists new_at (way_up new.members ino) root s ≡ lists at (way_up family.members ino) root s
    lists_is root s here ino = whole_way Bool (λ a way. lists a way root s) (λ r y b. lists_by r y root s b) (λ a y way. refl) refl first ino (same_ino x ino) refl
      where
        first : lists new_at (x ∷ up) root s ≡ lists at (way_up family.members x) root s
        first =
            let mine : realm_by (new_at x.0) ≡ node.realm = rw (itself x) refl in
            ap (λ r. lists_by r x root s (lists new_at up root s)) mine ∙ ap (lists_by node.realm x root s) (lists_put at x (Some node) up root s is.apart) ∙ here

    seq_is : (ino : Ino) → seq_on new_at (way_up new.members ino) ≡ seq_on at (way_up family.members ino)
    seq_is ino = whole_way ℕ seq_on (λ r y n. seq_by r n) (λ a y way. refl) refl first ino (same_ino x ino) refl
      where
        first : seq_on new_at (x ∷ up) ≡ seq_on at (way_up family.members x)
        first =
            let mine : realm_by (new_at x.0) ≡ node.realm = rw (itself x) refl in
            ap (λ r. seq_by r (seq_on new_at up)) mine ∙ ap (seq_by node.realm) (seq_put at x (Some node) up is.apart) ∙ is.seq_same

    right_at : (ino : Ino) → is_there family.members ino ≡ true → is_in_global family.members ino ≡ false → Each (IsRight new_at (way_up new.members ino) ino (birth_of new ino)) family.snaps
    right_at ino there outside =
        subst (λ birth. Each (IsRight new_at (way_up new.members ino) ino birth) family.snaps) (sym (first_is ino))
        (each_both (λ made. made.purged ≡ false → lists_by node.realm x made.root made.id (lists at up made.root made.id) ≡ lists at (way_up family.members x) made.root made.id) (IsRight at (way_up family.members ino) ino (birth_of family ino)) (IsRight new_at (way_up new.members ino) ino (birth_of family ino)) family.snaps
        (λ made same right kept late. lists_is made.root made.id (same kept) ino ∙ right kept late) is.lists_same (stands.right ino there outside))

    latest_at : (ino : Ino) → is_there family.members ino ≡ true → is_in_global family.members ino ≡ false → if_from (birth_of new ino) (seq_on new_at (way_up new.members ino)) 1 ≡ greatest (made_ids (covering new ino))
    latest_at ino there outside =
        ap (λ birth. if_from birth (seq_on new_at (way_up new.members ino)) 1) (first_is ino)
        ∙ ap (λ n. if_from (birth_of family ino) n 1) (seq_is ino)
        ∙ stands.latest ino there outside
        ∙ ap (λ birth. greatest (made_ids (filter (covers_by birth (is_in_global family.members ino) ino) family.snaps))) (sym (first_is ino))
        ∙ ap (λ g. greatest (made_ids (filter (covers_by (birth_of new ino) g ino) family.snaps))) (sym (global_is ino))

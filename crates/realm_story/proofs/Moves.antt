-- A move inside a realm, one that leaves a realm, and one in the global realm.
use Rattle.std.proofs.Common.{◌≡◌, ℕ, ◌+◌, ◌<◌, ◌≤◌, Bool, true, false, not, ◌||◌, ◌&&◌, cond, leb, nat_le, max, List, [], ◌∷◌, Option, None, Some, inl, inr, refl, ap, sym, ◌∙◌, subst, arith, filter}
use Rattle.std.proofs.lemmas.Bool.Decides.{nat_tests}
use Rattle.std.specs.List.{list_all}
use Rattle.snap_ids.specs.declared.id.Ino.{Ino}
use Rattle.snap_ids.specs.declared.id.SnapId.{SnapId}
use Rattle.snap_ids.specs.declared.id.TheConstants.{GLOBAL}
use Rattle.snap_ids.specs.Context.{is_listed}
use Rattle.realm_story.specs.declared.records.Node.{Node}
use Rattle.realm_story.specs.declared.records.Realm.{Realm}
use Rattle.realm_story.specs.declared.records.Snap.{Snap}
use Rattle.realm_story.specs.Family.{Made, Family, same_ino, member, is_there, above_by, way_up, is_on, is_root, is_marked, is_in_global, nearest, realm_of, leaves, leaves_realm, move_to, next_id}
use Rattle.realm_story.specs.Records.{birth_by, realm_by, is_realm, ids_of, lists, lists_by, seq_on, seq_by}
use Rattle.realm_story.specs.Stands.{Climbs, IsEarly, Each, IsRooted, Stands, plain, plain_kept}
use Rattle.realm_story.proofs.Facts.{same_of, itself, same_sym}
use Rattle.realm_story.proofs.Ways.{one_way}
use Rattle.realm_story.proofs.Put.{Falling}
use Rattle.realm_story.proofs.Given.{In, listed_kept}
use Rattle.realm_story.proofs.Contexts.{kept_fall}
use Rattle.realm_story.proofs.Moved.{after, moved_law}
use Rattle.realm_story.proofs.Same.{put, or_second, seq_low, each_both, each_below}

-- the records of a move, but for its realm
pub record IsMove (at : ℕ → Option Node) (family : Family) (x parent : Ino) (node : Node) : Type 0 where
  pub parent_is : node.parent ≡ Some parent
  pub birth_is : node.birth ≡ birth_by (at x.0)
  pub there : is_there family.members x ≡ true
  pub no_root : is_root x ≡ false
  pub outside : is_in_global family.members x ≡ false
  pub parent_there : is_there family.members parent ≡ true
  pub parent_outside : is_in_global family.members parent ≡ false
  pub apart : is_on x (way_up family.members parent) ≡ false

-- what a way gives is what the way of its realm gives
to_realm : (A : Type 0) (at : ℕ → Option Node) (f : List Ino → A) (step : Option Realm → Ino → A → A) (family : Family)
    → ((ino : Ino) (way : List Ino) → f (ino ∷ way) ≡ step (realm_by (at ino.0)) ino (f way))
    → ((ino : Ino) (a : A) → step None ino a ≡ a)
    → ((ino : Ino) → is_realm (realm_by (at ino.0)) ≡ is_marked family.marked ino)
    → ((ino : Ino) → Climbs at ino (above_by (member family.members ino)))
    → (ino : Ino) (way : List Ino) → Climbs at ino way → f (ino ∷ way) ≡ f (way_up family.members (nearest (is_marked family.marked) ino way))
to_realm A at f step family steps skips marks all_climb ino [] climbs =
    ap (λ w. f (ino ∷ w)) (one_way at ino [] (above_by (member family.members ino)) climbs (all_climb ino))
to_realm A at f step family steps skips marks all_climb ino (next ∷ way) climbs =
    go (is_marked family.marked ino) refl (to_realm A at f step family steps skips marks all_climb next way climbs.1)
  where
    none : (r : Option Realm) → is_realm r ≡ false → r ≡ None
    none None h = refl
    none (Some realm) h = cc

    go : (b : Bool) → is_marked family.marked ino ≡ b → f (next ∷ way) ≡ f (way_up family.members (nearest (is_marked family.marked) next way)) → f (ino ∷ next ∷ way) ≡ f (way_up family.members (cond b ino (nearest (is_marked family.marked) next way)))
    go true is rest = ap (λ w. f (ino ∷ w)) (one_way at ino (next ∷ way) (above_by (member family.members ino)) climbs (all_climb ino))
    go false is rest =
        let no_realm : realm_by (at ino.0) ≡ None = none (realm_by (at ino.0)) (marks ino ∙ is) in
        steps ino (next ∷ way) ∙ ap (λ r. step r ino (f (next ∷ way))) no_realm ∙ skips ino (f (next ∷ way)) ∙ rest

-- the same from below another inode of the same realm
stays : (A : Type 0) (at : ℕ → Option Node) (snaps : List Snap) (applied : SnapId) (family : Family) → Stands at snaps applied family
    → (f : List Ino → A) (step : Option Realm → Ino → A → A)
    → ((ino : Ino) (way : List Ino) → f (ino ∷ way) ≡ step (realm_by (at ino.0)) ino (f way))
    → ((ino : Ino) (a : A) → step None ino a ≡ a)
    → (parent : Ino) → is_in_global family.members parent ≡ false
    → (x : Ino) (above : List Ino) → Climbs at x above → is_on GLOBAL above ≡ false → leaves family above parent ≡ false → f (way_up family.members parent) ≡ f above
stays A at snaps applied family stands f step steps skips parent parent_outside x [] climbs outside stay = cc
stays A at snaps applied family stands f step steps skips parent parent_outside x (old ∷ way) climbs outside stay =
    to_realm A at f step family steps skips stands.marks stands.climbs parent (above_by (member family.members parent)) (stands.climbs parent)
    ∙ ap (λ y. f (way_up family.members y)) (sym (realm_is parent parent_outside) ∙ sym same_realm ∙ realm_is old old_outside)
    ∙ sym (to_realm A at f step family steps skips stands.marks stands.climbs old (above_by (member family.members old)) (stands.climbs old))
    ∙ ap (λ w. f (old ∷ w)) whole
  where
    whole : above_by (member family.members old) ≡ way
    whole = one_way at old (above_by (member family.members old)) way (stands.climbs old) climbs.1

    old_outside : is_in_global family.members old ≡ false
    old_outside = ap (λ w. is_on GLOBAL (old ∷ w)) whole ∙ outside

    realm_is : (y : Ino) → is_in_global family.members y ≡ false → realm_of family y ≡ nearest (is_marked family.marked) y (above_by (member family.members y))
    realm_is y out = ap (λ b. cond b GLOBAL (nearest (is_marked family.marked) y (above_by (member family.members y)))) out

    unnot : (b : Bool) → not b ≡ false → b ≡ true
    unnot true h = refl
    unnot false h = sym h

    same_realm : realm_of family old ≡ realm_of family parent
    same_realm = same_of (realm_of family old) (realm_of family parent) (unnot (same_ino (realm_of family old) (realm_of family parent)) stay)

each_all : (P : Made → Type 0) (snaps : List Made) → ((made : Made) → P made) → Each P snaps
each_all P [] all = tt
each_all P (made ∷ snaps) all = (all made, each_all P snaps all)

leaves_is : (family : Family) (x parent : Ino) → is_in_global family.members x ≡ false → leaves_realm x parent family ≡ leaves family (above_by (member family.members x)) parent
leaves_is family x parent outside = ap (λ b. cond b false (leaves family (above_by (member family.members x)) parent)) outside

move_is : (family : Family) (x parent : Ino) (b : Bool) → is_in_global family.members x ≡ false → leaves_realm x parent family ≡ b → after x parent (cond b (x ∷ family.marked) family.marked) family ≡ move_to x parent family
move_is family x parent b outside is =
    ap (λ c. after x parent (cond c (x ∷ family.marked) family.marked) family) (sym is)
    ∙ ap (λ g. cond g family (after x parent (cond (leaves_realm x parent family) (x ∷ family.marked) family.marked) family)) (sym outside)

-- a move inside a realm
pub stay_law : (at : ℕ → Option Node) (snaps : List Snap) (applied : SnapId) (family : Family) → Stands at snaps applied family → (x parent : Ino) (node : Node) → IsMove at family x parent node → node.realm ≡ realm_by (at x.0) → leaves_realm x parent family ≡ false → Stands (put x (Some node) at) snaps applied (move_to x parent family)
stay_law at snaps applied family stands x parent node is realm stay =
    subst (Stands (put x (Some node) at) snaps applied) (move_is family x parent false is.outside stay)
    (moved_law at snaps applied family stands x parent family.marked node (record {
      parent_is = is.parent_is;
      birth_is = is.birth_is;
      there = is.there;
      no_root = is.no_root;
      outside = is.outside;
      parent_there = is.parent_there;
      parent_outside = is.parent_outside;
      apart = is.apart;
      lists_same = each_all _ family.snaps (λ made kept. ap (λ r. lists_by r x made.root made.id (lists at (way_up family.members parent) made.root made.id)) realm ∙ ap (lists_by (realm_by (at x.0)) x made.root made.id) (lists_same made.root made.id));
      seq_same = ap (λ r. seq_by r (seq_on at (way_up family.members parent))) realm ∙ ap (seq_by (realm_by (at x.0))) seq_same;
      early = subst (IsEarly applied.0) (sym realm) (stands.early x);
      marked_now = ap is_realm realm ∙ stands.marks x;
      marked_same = λ ino e. refl;
      marked_still = λ h. h;
    }))
  where
    above : List Ino
    above = above_by (member family.members x)

    above_outside : is_on GLOBAL above ≡ false
    above_outside = or_second (same_ino GLOBAL x) (is_on GLOBAL above) is.outside

    staying : leaves family above parent ≡ false
    staying = sym (leaves_is family x parent is.outside) ∙ stay

    lists_same : (root : Ino) (s : SnapId) → lists at (way_up family.members parent) root s ≡ lists at above root s
    lists_same root s = stays Bool at snaps applied family stands (λ w. lists at w root s) (λ r y b. lists_by r y root s b) (λ y w. refl) (λ y b. refl) parent is.parent_outside x above (stands.climbs x) above_outside staying

    seq_same : seq_on at (way_up family.members parent) ≡ seq_on at above
    seq_same = stays ℕ at snaps applied family stands (seq_on at) (λ r y n. seq_by r n) (λ y w. refl) (λ y n. refl) parent is.parent_outside x above (stands.climbs x) above_outside staying

-- what an inode keeps of its old realms as it leaves them: the ids of others that they list
abbrev pub left_ids : (ℕ → Option Node) → List Snap → List Ino → Ino → List SnapId
left_ids at snaps way x = ids_of (filter (λ (snap : Snap). lists at way snap.root snap.id && not (same_ino snap.root x)) snaps)

each_kept : (P : Snap → Type 0) (snaps : List Made) → ((snap : Snap) → In snap (plain_kept snaps) → P snap) → Each (λ made. made.purged ≡ false → P (plain made)) snaps
each_kept P [] all = tt
each_kept P (made ∷ snaps) all = (first made.purged refl all, each_kept P snaps (rest made.purged all))
  where
    first : (b : Bool) → made.purged ≡ b → ((snap : Snap) → In snap (elim b [ true ↦ plain_kept snaps | false ↦ plain made ∷ plain_kept snaps ]) → P snap) → made.purged ≡ false → P (plain made)
    first true is all kept = let never : true ≡ false = sym is ∙ kept in cc
    first false is all kept = all (plain made) (inl refl)

    rest : (b : Bool) → ((snap : Snap) → In snap (elim b [ true ↦ plain_kept snaps | false ↦ plain made ∷ plain_kept snaps ]) → P snap) → (snap : Snap) → In snap (plain_kept snaps) → P snap
    rest true all snap there = all snap there
    rest false all snap there = all snap (inr there)

ids_low : (bound : ℕ) (q : Snap → Bool) (snaps : List Snap) → Falling (bound + 1) snaps → list_all (λ (id : SnapId). nat_le id.0 bound) (ids_of (filter q snaps)) ≡ true
ids_low bound q [] fall = refl
ids_low bound q (snap ∷ snaps) fall = go (q snap) (upto snap.id.0 bound fall.0) (ids_low bound q snaps (further snap.id.0 (bound + 1) snaps (omega (arith, fall.0)) fall.1))
  where
    upto : (m n : ℕ) → m < n + 1 → nat_le m n ≡ true
    upto m n h = grind arith

    further : (m n : ℕ) (snaps : List Snap) → m ≤ n → Falling m snaps → Falling n snaps
    further m n [] more fall = tt
    further m n (snap ∷ snaps) more fall = (omega (arith, fall.0), fall.1)

    go : (b : Bool) → nat_le snap.id.0 bound ≡ true → list_all (λ (id : SnapId). nat_le id.0 bound) (ids_of (filter q snaps)) ≡ true → list_all (λ (id : SnapId). nat_le id.0 bound) (ids_of (cond b (snap ∷ filter q snaps) (filter q snaps))) ≡ true
    go true low rest = rw (low, rest) refl
    go false low rest = rest

-- a snapshot of another directory is listed by the new past, an own one by itself
opened : (own l past late above : Bool) → past ≡ (l && not own) → late ≡ false → (own ≡ true → l ≡ true) → (own || (past || (late && above))) ≡ l
opened true l past late above is early mine = sym (mine refl)
opened false true true late above is early mine = refl
opened false true false late above is early mine = cc
opened false false true late above is early mine = cc
opened false false false true above is early mine = cc
opened false false false false above is early mine = refl

early_not : (m n : ℕ) → m < n → leb n m ≡ false
early_not m n h = grind (arith, nat_tests)

-- a move that leaves a realm
pub leave_law : (at : ℕ → Option Node) (snaps : List Snap) (applied : SnapId) (family : Family) → Stands at snaps applied family → (x parent : Ino) (node : Node) → IsMove at family x parent node → node.realm ≡ Some (record { seq = record { 0 = seq_on at (way_up family.members x) }; since = next_id applied; past = left_ids at snaps (way_up family.members x) x }) → leaves_realm x parent family ≡ true → Stands (put x (Some node) at) snaps applied (move_to x parent family)
leave_law at snaps applied family stands x parent node is realm leave =
    subst (Stands (put x (Some node) at) snaps applied) (move_is family x parent true is.outside leave)
    (moved_law at snaps applied family stands x parent (x ∷ family.marked) node (record {
      parent_is = is.parent_is;
      birth_is = is.birth_is;
      there = is.there;
      no_root = is.no_root;
      outside = is.outside;
      parent_there = is.parent_there;
      parent_outside = is.parent_outside;
      apart = is.apart;
      lists_same = lists_same;
      seq_same = ap (λ r. seq_by r (seq_on at (way_up family.members parent))) realm ∙ seq_new;
      early = subst (IsEarly applied.0) (sym realm) (seq_low at applied.0 stands.early way, omega arith, ids_low applied.0 keeps snaps falls);
      marked_now = ap is_realm realm ∙ sym (rw (itself x) (or_true (is_root x)));
      marked_same = λ ino e. rw (same_sym ino x, e) refl;
      marked_still = λ h. rw (itself x) (or_true (is_root x));
    }))
  where
    or_true : (b : Bool) → (b || true) ≡ true
    or_true true = refl
    or_true false = refl

    way : List Ino
    way = way_up family.members x

    keeps : Snap → Bool
    keeps snap = lists at way snap.root snap.id && not (same_ino snap.root x)

    falls : Falling (applied.0 + 1) snaps
    falls = subst (Falling (applied.0 + 1)) (sym stands.snaps_are) (kept_fall (applied.0 + 1) family.snaps stands.fall)

    opens : Realm
    opens = record { seq = record { 0 = seq_on at way }; since = next_id applied; past = left_ids at snaps way x }

    seq_new : seq_by (Some opens) (seq_on at (way_up family.members parent)) ≡ seq_on at way
    seq_new =
        let early : leb (applied.0 + 1) (seq_on at (way_up family.members parent)) ≡ false = early_not (seq_on at (way_up family.members parent)) (applied.0 + 1) (omega (arith, seq_low at applied.0 stands.early (way_up family.members parent))) in
        ap (λ b. max (seq_on at way) (cond b (seq_on at (way_up family.members parent)) 0)) early ∙ omega arith

    own_listed : (root : Ino) (s : SnapId) → (is_there family.members root ≡ true → is_in_global family.members root ≡ false → is_marked family.marked root ≡ true) → same_ino root x ≡ true → lists at way root s ≡ true
    own_listed root s rooted same =
        let marked : is_marked family.marked x ≡ true = subst (λ y. is_there family.members y ≡ true → is_in_global family.members y ≡ false → is_marked family.marked y ≡ true) (same_of root x same) rooted is.there is.outside in
        listed (realm_by (at x.0)) (stands.marks x ∙ marked)
      where
        listed : (r : Option Realm) → is_realm r ≡ true → lists_by r x root s (lists at (above_by (member family.members x)) root s) ≡ true
        listed None h = cc
        listed (Some realm) h = rw same refl

    past_is : Each (λ made. made.purged ≡ false → is_listed made.id (left_ids at snaps way x) ≡ keeps (plain made)) family.snaps
    past_is = each_kept (λ snap. is_listed snap.id (left_ids at snaps way x) ≡ keeps snap) family.snaps (λ snap there. listed_kept keeps (applied.0 + 1) snaps falls snap (subst (In snap) (sym stands.snaps_are) there))

    lists_same : Each (λ made. made.purged ≡ false → lists_by node.realm x made.root made.id (lists at (way_up family.members parent) made.root made.id) ≡ lists at way made.root made.id) family.snaps
    lists_same = each_both (λ made. made.purged ≡ false → is_listed made.id (left_ids at snaps way x) ≡ keeps (plain made)) (λ made. (made.id.0 < applied.0 + 1) × IsRooted family made) _ family.snaps
        (λ made past both kept. ap (λ r. lists_by r x made.root made.id (lists at (way_up family.members parent) made.root made.id)) realm
        ∙ opened (same_ino made.root x) (lists at way made.root made.id) (is_listed made.id (left_ids at snaps way x)) (leb (applied.0 + 1) made.id.0) (lists at (way_up family.members parent) made.root made.id) (past kept) (early_not made.id.0 (applied.0 + 1) both.0) (own_listed made.root made.id both.1))
        past_is (each_both (λ made. made.id.0 < applied.0 + 1) (IsRooted family) (λ made. (made.id.0 < applied.0 + 1) × IsRooted family made) family.snaps (λ made low rooted. (low, rooted)) (each_below (applied.0 + 1) family.snaps stands.fall) stands.rooted)

-- what is in the global realm stays as it is
pub global_move : (family : Family) (x parent : Ino) → is_in_global family.members x ≡ true → move_to x parent family ≡ family
global_move family x parent inside = rw inside refl

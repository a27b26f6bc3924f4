-- The snapshots of the plain tree are those of the story, in the other order.
use Rattle.std.proofs.Common.{◌≡◌, ℕ, ◌+◌, ◌<◌, ◌≤◌, List, [], ◌∷◌, ◌++◌, Bool, true, false, cond, not, ◌||◌, ◌&&◌, ◌==◌, Option, None, Some, refl, sym, ap, ◌∙◌, subst, arith, map, eqb}
use Rattle.std.proofs.lemmas.Bool.Decides.{nat_tests}
use Rattle.std.specs.Prelude.{nat_lt, find, is_some, bytes_eq, if◌then◌else◌}
use Rattle.std.specs.List.{list_any}
use Rattle.std.specs.Cmp.Lexicographic.{bytes_decides}
use Rattle.std.proofs.lemmas.List.{map-append}
use Rattle.std.proofs.lemmas.List.Folds.{list_any-append}
use borrow.Author.Tests.{ltb-true}
use Rattle.snap_ids.specs.declared.id.Ino.{Ino}
use Rattle.snap_ids.specs.declared.id.SnapId.{SnapId}
use Rattle.snap_ids.specs.declared.id.TheConstants.{STRAY}
use Rattle.snap_ids.specs.Name.{is_new_snap}
use Rattle.plain_types.specs.declared.change.Change.{Change}
use Rattle.plain_types.specs.declared.change.Change.TheVariants as change
use Rattle.plain_types.specs.declared.entry.Entry.{Entry}
use Rattle.plain_types.specs.declared.entry.What.{What}
use Rattle.plain_types.specs.declared.entry.What.TheVariants as what
use Rattle.plain_tree.specs.State.{State, Snapshot, lookup}
use Rattle.plain_tree.specs.State.{is_named as is_named_in}
use Rattle.plain_tree.specs.Change.{is_directory, is_free_snap, is_refused, own_snap, removed, make, apply}
use Rattle.plain_journal.specs.Entries.{change_in, with_change, after_entry, state_after, applied_by, applied}
use Rattle.plain_journal.specs.Legal.{is_made_by, is_given, fits, is_legal, is_journal}
use Rattle.realm_story.specs.Family.{Made, Family, same_ino, is_in_global, is_named, move_to}
use Rattle.realm_story.specs.Stands.{FallBelow, Each}
use Rattle.realm_story.proofs.Facts.{both_of, same_of, id_of, same_sym, itself}
use Rattle.realm_story.proofs.Same.{each_weaker, each_both, each_below}
use Rattle.journal_laws.proofs.Steps.{state_more, apply_made}
use Rattle.journal_realms.specs.Told.{move_found, forget_found, snap_of, drop_found, told, family_of}
use Rattle.journal_realms.proofs.Family.{family_more, told_applied}
use Rattle.journal_realms.proofs.Kept.{not_true, not_false}
use Rattle.journal_realms.proofs.Last.{same_applied}
use Rattle.journal_realms.proofs.Induct.{of_each}

-- a snapshot as the plain tree has it
abbrev pub plain_of : Made → Snapshot
plain_of snap = record { id = snap.id; root = snap.root; name = snap.name; live = snap.live }

-- the snapshots in the order in which they were made
abbrev pub rev_plain : List Made → List Snapshot
rev_plain [] = []
rev_plain (snap ∷ snaps) = rev_plain snaps ++ plain_of snap ∷ []

-- the entry leaves the snapshots
abbrev pub leaves_snaps : What → Bool
leaves_snaps (what.Mksnap id dir name) = false
leaves_snaps (what.Rmsnap id) = false
leaves_snaps (what.Purgedone id) = false
leaves_snaps w = true

moved_snaps : (x parent : Ino) (family : Family) → (move_to x parent family).snaps ≡ family.snaps
moved_snaps x parent family = go (is_in_global family.members x) family _ refl refl
  where
    go : (b : Bool) (f g : Family) → f.snaps ≡ family.snaps → g.snaps ≡ family.snaps → (cond b f g).snaps ≡ family.snaps
    go true f g same too = same
    go false f g same too = too

found_snaps : (found : Option Ino) (parent : Ino) (family : Family) → (move_found found parent family).snaps ≡ family.snaps
found_snaps None parent family = refl
found_snaps (Some x) parent family = moved_snaps x parent family

forget_snaps : (found : Option Ino) (family : Family) → (forget_found found family).snaps ≡ family.snaps
forget_snaps None family = refl
forget_snaps (Some x) family = refl

pub told_snaps : (state : State) (w : What) (family : Family) → leaves_snaps w ≡ true → (told state w family).snaps ≡ family.snaps
told_snaps state (what.Unlink dir name) family is = found_snaps (lookup state.entries dir name) STRAY family
told_snaps state (what.Rmdir dir name) family is = forget_snaps (lookup state.entries dir name) family
told_snaps state (what.Rename dir name to to_name) family is = found_snaps (lookup state.entries dir name) to family
told_snaps state (what.Mksnap id dir name) family is = cc
told_snaps state (what.Rmsnap id) family is = cc
told_snaps state (what.Purgedone id) family is = cc
told_snaps state w family is = refl

pub leaves_applied : (n : ℕ) (w : What) → leaves_snaps w ≡ true → applied_by n w ≡ n
leaves_applied n (what.Mksnap id dir name) is = cc
leaves_applied n w is = refl

-- and so does its change
module _ (state : State) (client : ℕ) where
  made_snaps : (c : Change) → not (is_refused state client c) ≡ true → (make state client c).snaps ≡ state.snaps → (apply state client c).snaps ≡ state.snaps
  made_snaps c made same = ap (λ (s : State). s.snaps) (apply_made state client c (not_true (is_refused state client c) made)) ∙ same

  pub state_snaps : (w : What) → is_made_by state client (change_in w) ≡ true → leaves_snaps w ≡ true → (with_change state client (change_in w)).snaps ≡ state.snaps
  state_snaps (what.Mkdir d n i) made is = made_snaps (change.Mkdir d n i) made refl
  state_snaps (what.Create d n i m) made is = made_snaps (change.Create d n i m) made refl
  state_snaps (what.Link i d n) made is = made_snaps (change.Link i d n) made refl
  state_snaps (what.Unlink d n) made is = made_snaps (change.Unlink d n) made refl
  state_snaps (what.Rmdir d n) made is = made_snaps (change.Rmdir d n) made refl
  state_snaps (what.Rename d n td tn) made is = made_snaps (change.Rename d n td tn) made refl
  state_snaps (what.Chmod i m) made is = made_snaps (change.Chmod i m) made refl
  state_snaps (what.OpenFile h i w) made is = made_snaps (change.OpenFile h i w) made refl
  state_snaps (what.CloseFile h) made is = made_snaps (change.CloseFile h) made refl
  state_snaps (what.Mksnap id d n) made is = cc
  state_snaps (what.Rmsnap id) made is = cc
  state_snaps (what.Purgedone id) made is = cc
  state_snaps (what.PrepareCreate id) made is = refl
  state_snaps (what.PrepareDestroy id) made is = refl
  state_snaps (what.Rollback id) made is = refl
  state_snaps (what.Settle i f u z) made is = refl
  state_snaps (what.Release i f z) made is = refl
  state_snaps (what.Trim id) made is = refl
  state_snaps (what.Deadfile i) made is = refl
  state_snaps (what.Barrier n) made is = refl

-- a snapshot has a directory and a name
abbrev pub has_name : Ino → List ℕ → Made → Bool
has_name dir name snap = same_ino snap.root dir && bytes_eq snap.name name

-- no two live snapshots have the same directory and name
abbrev pub IsOwn : List Made → Type 0
IsOwn [] = Unit {0}
IsOwn (snap ∷ snaps) = (snap.live ≡ true → Each (λ other. other.live ≡ true → has_name snap.root snap.name other ≡ false) snaps) × IsOwn snaps

-- another mark of a snapshot
abbrev pub Remarks : (Made → Made) → Type 0
Remarks f = (s : Made) → ((f s).id ≡ s.id) × (((f s).root ≡ s.root) × (((f s).name ≡ s.name) × (((f s).covered ≡ s.covered) × ((f s).live ≡ true → s.live ≡ true))))

pub fall_map : (f : Made → Made) → Remarks f → (bound : ℕ) (snaps : List Made) → FallBelow bound snaps → FallBelow bound (map f snaps)
fall_map f keeps bound [] fall = tt
fall_map f keeps bound (snap ∷ snaps) fall = (
  subst (λ (id : SnapId). id.0 < bound) (sym (keeps snap).0) fall.0,
  subst (λ (id : SnapId). 2 ≤ id.0) (sym (keeps snap).0) fall.1,
  subst (λ (id : SnapId). FallBelow id.0 (map f snaps)) (sym (keeps snap).0) (fall_map f keeps snap.id.0 snaps fall.2),
)

pub each_map : (P Q : Made → Type 0) (f : Made → Made) (snaps : List Made) → ((s : Made) → P s → Q (f s)) → Each P snaps → Each Q (map f snaps)
each_map P Q f [] kept all = tt
each_map P Q f (snap ∷ snaps) kept all = (kept snap all.0, each_map P Q f snaps kept all.1)

own_map : (f : Made → Made) → Remarks f → (snaps : List Made) → IsOwn snaps → IsOwn (map f snaps)
own_map f keeps [] own = tt
own_map f keeps (snap ∷ snaps) own = (
  (λ live. each_map (λ other. other.live ≡ true → has_name snap.root snap.name other ≡ false) (λ other. other.live ≡ true → has_name (f snap).root (f snap).name other ≡ false) f snaps
      (λ s was now. same s (was ((keeps s).1.1.1.1 now))) (own.0 ((keeps snap).1.1.1.1 live))),
  own_map f keeps snaps own.1,
)
  where
    same : (s : Made) → has_name snap.root snap.name s ≡ false → has_name (f snap).root (f snap).name (f s) ≡ false
    same s is = (λ i. has_name_by ((keeps snap).1.0 i) ((keeps snap).1.1.0 i) ((keeps s).1.0 i) ((keeps s).1.1.0 i)) ∙ is
      where
        has_name_by : Ino → List ℕ → Ino → List ℕ → Bool
        has_name_by dir name root own_name = same_ino root dir && bytes_eq own_name name

fall_more : (m n : ℕ) (snaps : List Made) → m ≤ n → FallBelow m snaps → FallBelow n snaps
fall_more m n [] more fall = tt
fall_more m n (snap ∷ snaps) more fall = (omega (arith, fall.0, more), fall.1, fall.2)

-- none of the snapshots has a free name
none_last : (p : Snapshot → Bool) (snaps : List Snapshot) (y : Snapshot) → find p (snaps ++ y ∷ []) ≡ None → (find p snaps ≡ None) × (p y ≡ false)
none_last p [] y none = (refl, go (p y) none)
  where
    go : (b : Bool) → (if b then Some y else None) ≡ None → b ≡ false
    go true none = cc
    go false none = refl
none_last p (x ∷ snaps) y none = go (p x) none (none_last p snaps y)
  where
    go : (b : Bool) → (if b then Some x else find p (snaps ++ y ∷ [])) ≡ None → (find p (snaps ++ y ∷ []) ≡ None → (find p snaps ≡ None) × (p y ≡ false)) → ((if b then Some x else find p snaps) ≡ None) × (p y ≡ false)
    go true none rest = cc
    go false none rest = rest none

none_named : (dir : Ino) (name : List ℕ) (snaps : List Made) → own_snap (rev_plain snaps) dir name ≡ None → Each (λ other. other.live ≡ true → has_name dir name other ≡ false) snaps
none_named dir name [] none = tt
none_named dir name (snap ∷ snaps) none =
    let l = none_last (is_named_in dir name) (rev_plain snaps) (plain_of snap) none in
    ((λ live. by_live snap.live (same_ino snap.root dir) (bytes_eq snap.name name) live l.1), none_named dir name snaps l.0)
  where
    by_live : (a b c : Bool) → a ≡ true → ((a && b) && c) ≡ false → (b && c) ≡ false
    by_live true b c live is = is
    by_live false b c live is = cc

-- a live snapshot of the plain tree is found in the story
pub found_of : (id : SnapId) (snaps : List Made) → list_any (λ (snap : Snapshot). snap.live && snap.id.0 == id.0) (rev_plain snaps) ≡ true → (s : Made) × (snap_of snaps id ≡ Some s)
found_of id [] any = cc
found_of id (snap ∷ snaps) any = go (snap.live && snap.id.0 == id.0) (sym (list_any-append (λ (s : Snapshot). s.live && s.id.0 == id.0) (rev_plain snaps) (plain_of snap ∷ [])) ∙ any) (found_of id snaps)
  where
    last : (b : Bool) → (b || (false || false)) ≡ true → b ≡ true
    last true is = refl
    last false is = cc

    go : (b : Bool) → (list_any (λ (s : Snapshot). s.live && s.id.0 == id.0) (rev_plain snaps) || (b || false)) ≡ true → (list_any (λ (s : Snapshot). s.live && s.id.0 == id.0) (rev_plain snaps) ≡ true → (s : Made) × (snap_of snaps id ≡ Some s)) → (s : Made) × ((if b then Some snap else snap_of snaps id) ≡ Some s)
    go true any rest = (snap, refl)
    go false any rest = rest (last (list_any (λ (s : Snapshot). s.live && s.id.0 == id.0) (rev_plain snaps)) any)

-- what is found is live and has the id
pub found_is : (id : SnapId) (snaps : List Made) (s : Made) → snap_of snaps id ≡ Some s → (s.live ≡ true) × (s.id ≡ id)
found_is id [] s found = cc
found_is id (snap ∷ snaps) s found = go (snap.live && snap.id.0 == id.0) refl found (found_is id snaps s)
  where
    go : (b : Bool) → (snap.live && snap.id.0 == id.0) ≡ b → (if b then Some snap else snap_of snaps id) ≡ Some s → (snap_of snaps id ≡ Some s → (s.live ≡ true) × (s.id ≡ id)) → (s.live ≡ true) × (s.id ≡ id)
    go true is found rest =
        let l = both_of snap.live (snap.id.0 == id.0) is in
        let same : snap ≡ s = cc in
        (ap (λ (t : Made). t.live) (sym same) ∙ l.0, ap (λ (t : Made). t.id) (sym same) ∙ id_of snap.id id l.1)
    go false is found rest = rest found

pub each_found : (P : Made → Type 0) (id : SnapId) (snaps : List Made) (s : Made) → snap_of snaps id ≡ Some s → Each P snaps → P s
each_found P id [] s found all = cc
each_found P id (snap ∷ snaps) s found all = go (snap.live && snap.id.0 == id.0) found (λ h. each_found P id snaps s h all.1)
  where
    go : (b : Bool) → (if b then Some snap else snap_of snaps id) ≡ Some s → (snap_of snaps id ≡ Some s → P s) → P s
    go true found rest = let same : snap ≡ s = cc in subst P same all.0
    go false found rest = rest found

-- the name of a live snapshot is that of no other one
pub named_is : (id : SnapId) (bound : ℕ) (snaps : List Made) (s : Made) → FallBelow bound snaps → IsOwn snaps → snap_of snaps id ≡ Some s → Each (λ t. t.live ≡ true → has_name s.root s.name t ≡ (t.id.0 == id.0)) snaps
named_is id bound [] s fall own found = tt
named_is id bound (snap ∷ snaps) s fall own found = go (snap.live && snap.id.0 == id.0) refl found (named_is id snap.id.0 snaps s fall.2 own.1)
  where
    go : (b : Bool) → (snap.live && snap.id.0 == id.0) ≡ b → (if b then Some snap else snap_of snaps id) ≡ Some s → (snap_of snaps id ≡ Some s → Each (λ t. t.live ≡ true → has_name s.root s.name t ≡ (t.id.0 == id.0)) snaps) → (snap.live ≡ true → has_name s.root s.name snap ≡ (snap.id.0 == id.0)) × Each (λ t. t.live ≡ true → has_name s.root s.name t ≡ (t.id.0 == id.0)) snaps
    go true is found rest =
        let l = both_of snap.live (snap.id.0 == id.0) is in
        let same : snap ≡ s = cc in (
          (λ live. ap (λ (t : Made). has_name t.root t.name snap) (sym same) ∙ rw (itself snap.root, (bytes_decides snap.name snap.name).1 refl, l.1) refl),
          each_both (λ t. t.live ≡ true → has_name snap.root snap.name t ≡ false) (λ t. t.id.0 < snap.id.0) (λ t. t.live ≡ true → has_name s.root s.name t ≡ (t.id.0 == id.0)) snaps
              (λ t off low live. ap (λ (u : Made). has_name u.root u.name t) (sym same) ∙ off live ∙ sym (below t.id.0 snap.id.0 id.0 low l.1))
              (own.0 l.0) (each_below snap.id.0 snaps fall.2),
        )
      where
        below : (m n k : ℕ) → m < n → eqb n k ≡ true → eqb m k ≡ false
        below m n k less same = grind (arith, nat_tests)
    go false is found rest =
        ((λ live. off live ∙ sym (other snap.live (snap.id.0 == id.0) live is)), rest found)
      where
        other : (a b : Bool) → a ≡ true → (a && b) ≡ false → b ≡ false
        other true b live is = is
        other false b live is = cc

        turn : has_name snap.root snap.name s ≡ false → (b c : Bool) → same_ino snap.root s.root ≡ b → bytes_eq snap.name s.name ≡ c → (b && c) ≡ false
        turn off true true same named =
            let roots = same_of snap.root s.root same in
            let names = (bytes_decides snap.name s.name).0 named in
            let never : true ≡ false = sym (ap (λ (b : Bool). b && bytes_eq s.name snap.name) (same_sym s.root snap.root ∙ same) ∙ (bytes_decides s.name snap.name).1 (sym names)) ∙ off in
            cc
        turn off true false same named = refl
        turn off false c same named = refl

        off : snap.live ≡ true → has_name s.root s.name snap ≡ false
        off live = turn (each_found (λ t. t.live ≡ true → has_name snap.root snap.name t ≡ false) id snaps s found (own.0 live) (found_is id snaps s found).0) (same_ino snap.root s.root) (bytes_eq snap.name s.name) refl refl

-- the snapshots of a plain state and of a story
pub record Basic (state : State) (family : Family) : Type 0 where
  pub one : 1 ≤ family.applied.0
  pub fall : FallBelow (family.applied.0 + 1) family.snaps
  pub same : state.snaps ≡ rev_plain family.snaps
  pub own : IsOwn family.snaps

-- a change of marks on both sides
rev_map : (f : Made → Made) (h : Snapshot → Snapshot) (snaps : List Made) → Each (λ t. h (plain_of t) ≡ plain_of (f t)) snaps → map h (rev_plain snaps) ≡ rev_plain (map f snaps)
rev_map f h [] all = refl
rev_map f h (snap ∷ snaps) all = map-append h (rev_plain snaps) (plain_of snap ∷ []) ∙ (λ i. rev_map f h snaps all.1 i ++ all.0 i ∷ [])

abbrev pub purged_one : SnapId → Made → Made
purged_one id snap = record snap { purged = snap.purged || snap.id.0 == id.0 }

abbrev pub dropped_one : Ino → List ℕ → Made → Made
dropped_one dir name snap = record snap { live = snap.live && not (is_named dir name snap) }

pub purged_remarks : (id : SnapId) → Remarks (purged_one id)
purged_remarks id s = (refl, (refl, (refl, (refl, λ live. live))))

pub dropped_remarks : (dir : Ino) (name : List ℕ) → Remarks (dropped_one dir name)
dropped_remarks dir name s = (refl, (refl, (refl, (refl, λ live. (both_of s.live (not (is_named dir name s)) live).0))))

module _ (state : State) (client : ℕ) (family : Family) (basic : Basic state family) where
  rev_same : (f : Made → Made) (snaps : List Made) → ((t : Made) → plain_of (f t) ≡ plain_of t) → rev_plain (map f snaps) ≡ rev_plain snaps
  rev_same f [] same = refl
  rev_same f (snap ∷ snaps) same = λ i. rev_same f snaps same i ++ same snap i ∷ []

  steady_step : (w : What) → is_made_by state client (change_in w) ≡ true → leaves_snaps w ≡ true → Basic (with_change state client (change_in w)) (told state w family)
  steady_step w made is =
      let snaps = told_snaps state w family is in
      let last : (told state w family).applied.0 ≡ family.applied.0 = told_applied state w family ∙ leaves_applied family.applied.0 w is in
      record {
        one = subst (λ (n : ℕ). 1 ≤ n) (sym last) basic.one;
        fall = subst (λ (n : ℕ). FallBelow (n + 1) (told state w family).snaps) (sym last) (subst (FallBelow (family.applied.0 + 1)) (sym snaps) basic.fall);
        same = state_snaps state client w made is ∙ basic.same ∙ ap rev_plain (sym snaps);
        own = subst IsOwn (sym snaps) basic.own;
      }

  free_name : (dir : Ino) (name : List ℕ) → is_free_snap state dir name ≡ true → own_snap state.snaps dir name ≡ None
  free_name dir name fine = third (is_directory state dir) (is_new_snap name) (own_snap state.snaps dir name) _ _ fine
    where
      third : (a b : Bool) (found : Option Snapshot) (d e : Bool) → ((((a && b) && not (is_some found)) && d) && e) ≡ true → found ≡ None
      third true true None d e is = refl
      third true true (Some s) d e is = cc
      third true false found d e is = cc
      third false b found d e is = cc

  snap_step : (id : SnapId) (dir : Ino) (name : List ℕ) → is_refused state client (change.Mksnap id dir name) ≡ false → family.applied.0 < id.0 → Basic (apply state client (change.Mksnap id dir name)) (told state (what.Mksnap id dir name) family)
  snap_step id dir name fine above = record {
    one = omega (arith, basic.one, above);
    fall = (omega arith, omega (arith, basic.one, above), fall_more (family.applied.0 + 1) id.0 family.snaps (omega (arith, above)) basic.fall);
    same = ap (λ (s : State). s.snaps) (apply_made state client (change.Mksnap id dir name) fine) ∙ ap (λ (l : List Snapshot). l ++ record { id = id; root = dir; name = name; live = true } ∷ []) basic.same;
    own = ((λ live. none_named dir name family.snaps (ap (λ (l : List Snapshot). own_snap l dir name) (sym basic.same) ∙ free_name dir name (not_false (is_free_snap state dir name) fine))), basic.own);
  }

  drop_step : (id : SnapId) → is_refused state client (change.Rmsnap id) ≡ false → Basic (apply state client (change.Rmsnap id)) (told state (what.Rmsnap id) family)
  drop_step id fine = by_found (found_of id family.snaps (ap (list_any (λ (snap : Snapshot). snap.live && snap.id.0 == id.0)) (sym basic.same) ∙ not_false (list_any (λ (snap : Snapshot). snap.live && snap.id.0 == id.0) state.snaps) fine))
    where
      marks : (a n b : Bool) → (a ≡ true → n ≡ b) → (a && not b) ≡ (a && not (a && n))
      marks true n b same = ap not (sym (same refl))
      marks false n b same = refl

      one_same : (s t : Made) → (t.live ≡ true → has_name s.root s.name t ≡ (t.id.0 == id.0)) → record (plain_of t) { live = t.live && not (t.id.0 == id.0) } ≡ plain_of (dropped_one s.root s.name t)
      one_same s t is = λ i. record { id = t.id; root = t.root; name = t.name; live = marks t.live (has_name s.root s.name t) (t.id.0 == id.0) is i }

      by_found : (s : Made) × (snap_of family.snaps id ≡ Some s) → Basic (apply state client (change.Rmsnap id)) (drop_found (snap_of family.snaps id) family)
      by_found found = subst (λ (m : Option Made). Basic (apply state client (change.Rmsnap id)) (drop_found m family)) (sym found.1) (record {
        one = basic.one;
        fall = fall_map (dropped_one found.0.root found.0.name) (dropped_remarks found.0.root found.0.name) (family.applied.0 + 1) family.snaps basic.fall;
        same = ap (λ (s : State). s.snaps) (apply_made state client (change.Rmsnap id) fine) ∙ ap (removed id) basic.same
            ∙ rev_map (dropped_one found.0.root found.0.name) (λ (snap : Snapshot). record snap { live = snap.live && not (snap.id.0 == id.0) }) family.snaps
            (each_weaker (λ t. t.live ≡ true → has_name found.0.root found.0.name t ≡ (t.id.0 == id.0)) (λ t. record (plain_of t) { live = t.live && not (t.id.0 == id.0) } ≡ plain_of (dropped_one found.0.root found.0.name t)) family.snaps (one_same found.0)
            (named_is id (family.applied.0 + 1) family.snaps found.0 basic.fall basic.own found.1));
        own = own_map (dropped_one found.0.root found.0.name) (dropped_remarks found.0.root found.0.name) family.snaps basic.own;
      })

  purge_step : (id : SnapId) → Basic state (told state (what.Purgedone id) family)
  purge_step id = record {
    one = basic.one;
    fall = fall_map (purged_one id) (purged_remarks id) (family.applied.0 + 1) family.snaps basic.fall;
    same = basic.same ∙ sym (rev_same (purged_one id) family.snaps (λ t. refl));
    own = own_map (purged_one id) (purged_remarks id) family.snaps basic.own;
  }

  basic_step : (w : What) → is_made_by state client (change_in w) ≡ true → ((id : SnapId) (dir : Ino) (name : List ℕ) → w ≡ what.Mksnap id dir name → family.applied.0 < id.0) → Basic (with_change state client (change_in w)) (told state w family)
  basic_step (what.Mksnap id dir name) made above = snap_step id dir name (not_true (is_refused state client (change.Mksnap id dir name)) made) (above id dir name refl)
  basic_step (what.Rmsnap id) made above = drop_step id (not_true (is_refused state client (change.Rmsnap id)) made)
  basic_step (what.Purgedone id) made above = purge_step id
  basic_step w made above = steady_step w made refl

-- the id of a new snapshot is above the last one
pub above_last : (done : List Entry) (e : Entry) → is_journal done ≡ true → is_legal done e ≡ true → (id : SnapId) (dir : Ino) (name : List ℕ) → e.what ≡ what.Mksnap id dir name → (family_of done).applied.0 < id.0
above_last done e legal fine id dir name is =
    let fits_it : fits done (what.Mksnap id dir name) ≡ true = subst (λ (x : What). fits done x ≡ true) is (both_of (is_made_by (state_after done) e.client (change_in e.what)) (fits done e.what) fine).1 in
    let less : applied done < id.0 = ltb-true (applied done) id.0 (both_of (nat_lt (applied done) id.0) (is_given id) fits_it).0 in
    omega (arith, less, same_applied done legal)

pub basic_after : (entries : List Entry) → is_journal entries ≡ true → Basic (state_after entries) (family_of entries)
basic_after entries legal = of_each (λ (done : List Entry). Basic (state_after done) (family_of done)) (record { one = omega arith; fall = tt; same = refl; own = tt }) more entries legal
  where
    more : (done : List Entry) (e : Entry) → is_journal done ≡ true → Basic (state_after done) (family_of done) → is_legal done e ≡ true → Basic (state_after (done ++ e ∷ [])) (family_of (done ++ e ∷ []))
    more done e legal basic fine =
        subst (λ (s : State). Basic s (family_of (done ++ e ∷ []))) (sym (state_more done e))
        (subst (Basic (after_entry (state_after done) e)) (sym (family_more done e))
        (basic_step (state_after done) e.client (family_of done) basic e.what (both_of (is_made_by (state_after done) e.client (change_in e.what)) (fits done e.what) fine).0 (above_last done e legal fine)))

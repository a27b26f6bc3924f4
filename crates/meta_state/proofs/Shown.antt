-- A snapshot that a directory shows is live, and the directory was there when it was made.
use Rattle.std.proofs.Common.{◌≡◌, ℕ, zero, suc, List, [], ◌∷◌, ◌++◌, Bool, true, false, cond, ◌||◌, ◌&&◌, ◌==◌, Some, refl, sym, ap, subst, ◌∙◌, map, filter, arith}
use Rattle.std.proofs.lemmas.Bool.Decides.{nat_tests}
use Rattle.std.specs.Prelude.{bytes_eq, if◌then◌else◌}
use Rattle.std.specs.List.{list_any}
use Rattle.std.proofs.lemmas.List.Folds.{list_any-append}
use Rattle.snap_ids.specs.declared.id.Ino.{Ino}
use Rattle.snap_ids.specs.declared.id.SnapId.{SnapId}
use Rattle.snap_ids.specs.declared.id.TheConstants.{ROOT}
use Rattle.plain_types.specs.declared.change.Change.TheVariants as change
use Rattle.plain_types.specs.declared.entry.Entry.{Entry}
use Rattle.plain_types.specs.declared.entry.What.{What}
use Rattle.plain_types.specs.declared.entry.What.TheVariants as what
use Rattle.plain_tree.specs.State.{Entry as Dentry}
use Rattle.plain_tree.specs.State.{Snapshot, State, is_there, same_ino, start}
use Rattle.plain_tree.specs.Change.{is_directory, is_free_snap, is_refused}
use Rattle.plain_tree.specs.Query.{id_named}
use Rattle.plain_tree.specs.Walk.{is_under, leads_up}
use Rattle.plain_journal.specs.Coverage.{covering, made_by, made_over, made_since}
use Rattle.plain_journal.specs.Entries.{change_in, makes_snap, state_after, tree_at}
use Rattle.plain_journal.specs.Legal.{fits, is_journal, is_legal, is_made_by}
use Rattle.plain_journal.specs.Realms.{name_shown, shown}
use Rattle.realm_story.proofs.Facts.{both_of, same_of}
use Rattle.journal_laws.specs.Entries.{was_made}
use Rattle.journal_laws.proofs.Steady.{over_more}
use Rattle.journal_moments.specs.Moments.{is_above, is_asked, is_live_snap}
use Rattle.journal_moments.proofs.Lives.{or_left, or_right}
use Rattle.journal_moments.proofs.Moments.{new_tree}
use Rattle.journal_moments.proofs.Trees.{tree_stays}
use Rattle.journal_realms.proofs.Globals.{same_global}
use Rattle.journal_realms.proofs.Induct.{legal_more, of_each}
use Rattle.journal_realms.proofs.Kept.{not_false, not_true}
use Rattle.meta_state.proofs.Walks.{directory_there, live_apart, told_outside}

-- the id of a name in a list is that of a snapshot that passes the list's tests
named_passes : (h : Snapshot → List ℕ) (p : Snapshot → Bool) (q : SnapId → Bool) (snaps : List Snapshot) (name : List ℕ) (s : SnapId) → ((snap : Snapshot) → p snap ≡ true → q snap.id ≡ true)
    → id_named (map {B = List ℕ × SnapId} (λ (snap : Snapshot). (h snap, snap.id)) (filter p snaps)) name ≡ Some s → q s ≡ true
named_passes h p q [] name s each named = cc
named_passes h p q (snap ∷ snaps) name s each named = by_test (p snap) refl (named_passes h p q snaps name s each) named
  where
    by_name : (b : Bool) → p snap ≡ true → (id_named (map {B = List ℕ × SnapId} (λ (snap : Snapshot). (h snap, snap.id)) (filter p snaps)) name ≡ Some s → q s ≡ true) → (if b then Some snap.id else id_named (map {B = List ℕ × SnapId} (λ (snap : Snapshot). (h snap, snap.id)) (filter p snaps)) name) ≡ Some s → q s ≡ true
    by_name true is rest named = let same : snap.id ≡ s = cc in subst (λ (i : SnapId). q i ≡ true) same (each snap is)
    by_name false is rest named = rest named

    by_test : (b : Bool) → p snap ≡ b → (id_named (map {B = List ℕ × SnapId} (λ (snap : Snapshot). (h snap, snap.id)) (filter p snaps)) name ≡ Some s → q s ≡ true) → id_named (map {B = List ℕ × SnapId} (λ (snap : Snapshot). (h snap, snap.id)) (cond b (snap ∷ filter p snaps) (filter p snaps))) name ≡ Some s → q s ≡ true
    by_test true is rest named = by_name (bytes_eq (h snap) name) is rest named
    by_test false is rest named = rest named

-- the same, for a snapshot of the list
named_live : (h : Snapshot → List ℕ) (p : Snapshot → Bool) (snaps : List Snapshot) (name : List ℕ) (s : SnapId) → ((snap : Snapshot) → p snap ≡ true → snap.live ≡ true)
    → id_named (map {B = List ℕ × SnapId} (λ (snap : Snapshot). (h snap, snap.id)) (filter p snaps)) name ≡ Some s → is_live_snap s snaps ≡ true
named_live h p [] name s each named = cc
named_live h p (snap ∷ snaps) name s each named =
    by_test (p snap) refl (λ later. or_right (snap.live && snap.id.0 == s.0) (is_live_snap s snaps) (named_live h p snaps name s each later)) named
  where
    same_id : (n : ℕ) → (n == n) ≡ true
    same_id n = grind (arith, nat_tests)

    by_name : (b : Bool) → p snap ≡ true → (id_named (map {B = List ℕ × SnapId} (λ (snap : Snapshot). (h snap, snap.id)) (filter p snaps)) name ≡ Some s → is_live_snap s (snap ∷ snaps) ≡ true) → (if b then Some snap.id else id_named (map {B = List ℕ × SnapId} (λ (snap : Snapshot). (h snap, snap.id)) (filter p snaps)) name) ≡ Some s → is_live_snap s (snap ∷ snaps) ≡ true
    by_name true is rest named =
        let same : snap.id ≡ s = cc in
        or_left (snap.live && snap.id.0 == s.0) (is_live_snap s snaps) (rw (each snap is) (subst (λ (i : SnapId). (snap.id.0 == i.0) ≡ true) same (same_id snap.id.0)))
    by_name false is rest named = rest named

    by_test : (b : Bool) → p snap ≡ b → (id_named (map {B = List ℕ × SnapId} (λ (snap : Snapshot). (h snap, snap.id)) (filter p snaps)) name ≡ Some s → is_live_snap s (snap ∷ snaps) ≡ true) → id_named (map {B = List ℕ × SnapId} (λ (snap : Snapshot). (h snap, snap.id)) (cond b (snap ∷ filter p snaps) (filter p snaps))) name ≡ Some s → is_live_snap s (snap ∷ snaps) ≡ true
    by_test true is rest named = by_name (bytes_eq (h snap) name) is rest named
    by_test false is rest named = rest named

-- what stands below something that is there is there
under_there : (n : ℕ) (entries : List Dentry) (x root : Ino) → is_there entries root ≡ true → leads_up n entries x root ≡ true → is_there entries x ≡ true
under_there n entries x root there up = go n (same_ino x root) refl up
  where
    named : (es : List Dentry) (f : Dentry → Bool) → list_any (λ (e : Dentry). elim (same_ino e.ino x) as (λ _. Bool) [ true ↦ f e | false ↦ false ]) es ≡ true → list_any (λ (e : Dentry). same_ino e.ino x) es ≡ true
    named [] f any = cc
    named (e ∷ es) f any = by_test (same_ino e.ino x) (named es f) any
      where
        by_test : (b : Bool) → (list_any (λ (e : Dentry). elim (same_ino e.ino x) as (λ _. Bool) [ true ↦ f e | false ↦ false ]) es ≡ true → list_any (λ (e : Dentry). same_ino e.ino x) es ≡ true) → ((elim b as (λ _. Bool) [ true ↦ f e | false ↦ false ]) || list_any (λ (e : Dentry). elim (same_ino e.ino x) as (λ _. Bool) [ true ↦ f e | false ↦ false ]) es) ≡ true → (b || list_any (λ (e : Dentry). same_ino e.ino x) es) ≡ true
        by_test true rest any = refl
        by_test false rest any = rest any

    is_root : same_ino x root ≡ true → is_there entries x ≡ true
    is_root same = subst (λ (y : Ino). is_there entries y ≡ true) (sym (same_of x root same)) there

    go : (n : ℕ) (b : Bool) → same_ino x root ≡ b → leads_up n entries x root ≡ true → is_there entries x ≡ true
    go zero b is up = is_root up
    go (suc n) true is up = is_root is
    go (suc n) false is up =
        or_right (same_ino x ROOT) (list_any (λ (e : Dentry). same_ino e.ino x) entries)
        (named entries (λ e. leads_up n entries e.dir root) (by_elim (same_ino x root) is up))
      where
        by_elim : (b : Bool) → b ≡ false → (elim b as (λ _. Bool) [ true ↦ true | false ↦ list_any (λ (e : Dentry). elim (same_ino e.ino x) as (λ _. Bool) [ true ↦ leads_up n entries e.dir root | false ↦ false ]) entries ]) ≡ true → list_any (λ (e : Dentry). elim (same_ino e.ino x) as (λ _. Bool) [ true ↦ leads_up n entries e.dir root | false ↦ false ]) entries ≡ true
        by_elim true is up = cc
        by_elim false is up = up

-- an id stands among some
abbrev is_among : SnapId → List SnapId → Bool
is_among s ids = list_any (λ (i : SnapId). i.0 == s.0) ids

-- the snapshot that an entry makes over an inode
made_one : (w : What) (test : Ino → Bool) (s : SnapId) → is_among s (made_by w test) ≡ true → (id : SnapId) × (dir : Ino) × (name : List ℕ) × (w ≡ what.Mksnap id dir name) × ((id.0 == s.0) ≡ true) × (test dir ≡ true)
made_one (what.Mksnap id dir name) test s any = go (test dir) refl any
  where
    last : (b : Bool) → (b || false) ≡ true → b ≡ true
    last true is = refl
    last false is = cc

    go : (b : Bool) → test dir ≡ b → is_among s (if b then id ∷ [] else []) ≡ true → (i : SnapId) × (d : Ino) × (n : List ℕ) × (what.Mksnap id dir name ≡ what.Mksnap i d n) × ((i.0 == s.0) ≡ true) × (test d ≡ true)
    go true is any = (id, dir, name, refl, last (id.0 == s.0) any, is)
    go false is any = cc
made_one w test s any = cc

-- an inode that a snapshot was made over was there then
record WasThere (x : Ino) (done : List Entry) (s : SnapId) : Type 0 where
  pub made : was_made s done ≡ true
  pub there : is_there (tree_at done s).entries x ≡ true

over_there : (x : Ino) (entries : List Entry) → is_journal entries ≡ true → (s : SnapId) → is_among s (made_over start entries x) ≡ true → WasThere x entries s
over_there x entries legal = of_each (λ done. (s : SnapId) → is_among s (made_over start done x) ≡ true → WasThere x done s) (λ s any. cc) more entries legal
  where
    or_cases : {G : Type 0} (a b : Bool) → (a || b) ≡ true → (a ≡ true → G) → (b ≡ true → G) → G
    or_cases true b is left right = left refl
    or_cases false b is left right = right is

    first : (a b c d e : Bool) → ((((a && b) && c) && d) && e) ≡ true → a ≡ true
    first true b c d e is = refl
    first false b c d e is = cc

    more : (done : List Entry) (e : Entry) → is_journal done ≡ true → ((s : SnapId) → is_among s (made_over start done x) ≡ true → WasThere x done s) → is_legal done e ≡ true → (s : SnapId) → is_among s (made_over start (done ++ e ∷ []) x) ≡ true → WasThere x (done ++ e ∷ []) s
    more done e legal was fine s any =
        or_cases (is_among s (made_over start done x)) (is_among s (made_by e.what (is_under (state_after done).entries x)))
        (sym (list_any-append (λ (i : SnapId). i.0 == s.0) (made_over start done x) (made_by e.what (is_under (state_after done).entries x))) ∙ sym (ap (is_among s) (over_more start done e x)) ∙ any)
        earlier now
      where
        made_more : (a b : Bool) → (a || b) ≡ true → was_made s done ≡ a → makes_snap s e.what ≡ b → was_made s (done ++ e ∷ []) ≡ true
        made_more a b is made makes = list_any-append (λ (f : Entry). makes_snap s f.what) done (e ∷ []) ∙ rw (made, makes) (or_false a b is)
          where
            or_false : (a b : Bool) → (a || b) ≡ true → (a || (b || false)) ≡ true
            or_false true b is = refl
            or_false false true is = refl
            or_false false false is = cc

        earlier : is_among s (made_over start done x) ≡ true → WasThere x (done ++ e ∷ []) s
        earlier any =
            let l = was s any in record {
              made = made_more true (makes_snap s e.what) refl l.made refl;
              there = ap (λ (t : State). is_there t.entries x) (tree_stays done e s l.made) ∙ l.there;
            }

        now : is_among s (made_by e.what (is_under (state_after done).entries x)) ≡ true → WasThere x (done ++ e ∷ []) s
        now any = by_snap (made_one e.what (is_under (state_after done).entries x) s any)
          where
            by_snap : (id : SnapId) × (dir : Ino) × (name : List ℕ) × (e.what ≡ what.Mksnap id dir name) × ((id.0 == s.0) ≡ true) × (is_under (state_after done).entries x dir ≡ true) → WasThere x (done ++ e ∷ []) s
            by_snap (id, dir, name, is, same, under) =
                let makes : makes_snap s e.what ≡ true = ap (makes_snap s) is ∙ same in
                let made : is_made_by (state_after done) e.client (change_in (what.Mksnap id dir name)) ≡ true = subst (λ (w : What). is_made_by (state_after done) e.client (change_in w) ≡ true) is (both_of (is_made_by (state_after done) e.client (change_in e.what)) (fits done e.what) fine).0 in
                let folder : is_directory (state_after done) dir ≡ true = first (is_directory (state_after done) dir) _ _ _ _ (not_false (is_free_snap (state_after done) dir name) (not_true (is_refused (state_after done) e.client (change.Mksnap id dir name)) made)) in
                record {
                  made = made_more (was_made s done) true (or_right (was_made s done) true refl) refl makes;
                  there = ap (λ (t : State). is_there t.entries x) (new_tree done e s (legal_more [] done e legal fine) makes)
                      ∙ under_there _ (state_after done).entries x dir (directory_there done legal dir folder) under;
                }

-- the id that a directory shows under a name is asked for, and the directory was there then
pub record IsShown (entries : List Entry) (dir : Ino) (s : SnapId) : Type 0 where
  pub asked : is_asked entries s ≡ true
  pub there : is_there (tree_at entries s).entries dir ≡ true

pub shown_is : (entries : List Entry) → is_journal entries ≡ true → (dir : Ino) → is_directory (state_after entries) dir ≡ true → (name : List ℕ) (s : SnapId) → id_named (shown entries dir) name ≡ Some s → IsShown entries dir s
shown_is entries legal dir is name s named = record {
  asked = or_left (is_live_snap s (state_after entries).snaps) (is_above entries s) (named_live (name_shown dir) (λ (snap : Snapshot). snap.live && is_among snap.id (covering entries dir)) (state_after entries).snaps name s (λ snap passes. (both_of snap.live (is_among snap.id (covering entries dir)) passes).0) named);
  there = (over_there dir entries legal s (sym (ap (is_among s) over) ∙ among)).there;
}
  where
    among : is_among s (covering entries dir) ≡ true
    among = named_passes (name_shown dir) (λ (snap : Snapshot). snap.live && is_among snap.id (covering entries dir)) (λ i. is_among i (covering entries dir)) (state_after entries).snaps name s (λ snap passes. (both_of snap.live (is_among snap.id (covering entries dir)) passes).1) named

    over : covering entries dir ≡ made_over start entries dir
    over = ap (λ (b : Bool). if b then made_since start entries dir else made_over start entries dir)
        (same_global entries legal dir (live_apart entries legal dir (directory_there entries legal dir is)) ∙ told_outside entries legal dir is)

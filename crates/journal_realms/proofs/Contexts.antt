-- The contexts of both vocabularies.
use Rattle.std.proofs.Common.{◌≡◌, ℕ, ◌+◌, ◌<◌, ◌≤◌, List, [], ◌∷◌, ◌++◌, Bool, true, false, cond, not, ◌||◌, refl, sym, ap, ◌∙◌, subst, arith, map, filter, leb}
use Rattle.std.proofs.lemmas.Bool.Decides.{nat_tests}
use Rattle.std.specs.Prelude.{nat_le, if◌then◌else◌}
use Rattle.std.specs.List.{list_any}
use Rattle.std.proofs.lemmas.List.{append-nil}
use Rattle.std.proofs.lemmas.List.Folds.{list_any-append}
use Rattle.snap_ids.specs.declared.id.Ino.{Ino}
use Rattle.snap_ids.specs.declared.id.SnapId.{SnapId}
use Rattle.snap_ids.specs.declared.id.TheConstants.{ROOT, GLOBAL}
use Rattle.plain_types.specs.declared.change.Change.{Change}
use Rattle.plain_types.specs.declared.change.Change.TheVariants as change
use Rattle.plain_types.specs.declared.entry.Entry.{Entry}
use Rattle.plain_types.specs.declared.entry.What.{What}
use Rattle.plain_types.specs.declared.entry.What.TheVariants as what
use Rattle.plain_tree.specs.State.{State, Inode, new_directory}
use Rattle.plain_tree.specs.State.{start as empty}
use Rattle.plain_tree.specs.Walk.{is_under}
use Rattle.plain_tree.specs.Change.{is_refused, new_file, with_mode, make, apply}
use Rattle.plain_journal.specs.Entries.{change_in, with_change, state_after}
use Rattle.plain_journal.specs.Coverage.{is_made, made_by, made_since, made_over}
use Rattle.plain_journal.specs.Legal.{is_made_by, fits, is_legal, is_journal}
use Rattle.realm_story.specs.Family.{Made, Family, same_ino, member, is_member, above_by, is_on, is_in_global, birth_of, inodes}
use Rattle.realm_story.specs.Family.{is_under as is_under_told}
use Rattle.realm_story.specs.Stands.{FallBelow}
use Rattle.realm_story.proofs.Facts.{both_of}
use Rattle.realm_story.proofs.Same.{or_first, or_second}
use Rattle.journal_laws.proofs.Steady.{over_more, since_more}
use Rattle.journal_laws.proofs.Steps.{state_more, apply_made}
use Rattle.journal_realms.specs.Above.{makes}
use Rattle.journal_realms.specs.Told.{told, family_of}
use Rattle.journal_realms.proofs.Family.{family_more}
use Rattle.journal_realms.proofs.Tree.{less_apart}
use Rattle.journal_realms.proofs.Kept.{not_true}
use Rattle.journal_realms.proofs.Trees.{tied_after}
use Rattle.journal_realms.proofs.Births.{bound, was_born, born_below, makes_next, same_birth, now_born}
use Rattle.journal_realms.proofs.Globals.{links, inside_more}
use Rattle.journal_realms.proofs.Snaps.{Remarks, above_last, basic_after}
use Rattle.journal_realms.proofs.Covered.{is_snap, told_marks, on_filter, under_same, snap_folder, covers_after}
use Rattle.journal_realms.proofs.Induct.{of_each}

-- the ids of some snapshots in the order in which they were made
abbrev pub rev_ids : List Made → List SnapId
rev_ids [] = []
rev_ids (snap ∷ snaps) = rev_ids snaps ++ snap.id ∷ []

-- other marks change no test of what a snapshot covers
marks_same : (p : Made → Bool) (f : Made → Made) → Remarks f → ((s : Made) → p (f s) ≡ p s) → (snaps : List Made) → rev_ids (filter p (map f snaps)) ≡ rev_ids (filter p snaps)
marks_same p f keeps same [] = refl
marks_same p f keeps same (snap ∷ snaps) = go (p (f snap)) (p snap) (same snap) (marks_same p f keeps same snaps)
  where
    go : (b c : Bool) → b ≡ c → rev_ids (filter p (map f snaps)) ≡ rev_ids (filter p snaps) → rev_ids (cond b (f snap ∷ filter p (map f snaps)) (filter p (map f snaps))) ≡ rev_ids (cond c (snap ∷ filter p snaps) (filter p snaps))
    go true true e rest = λ i. rest i ++ (keeps snap).0 i ∷ []
    go false false e rest = rest
    go true false e rest = cc
    go false true e rest = cc

-- one snapshot more
new_same : (p : Made → Bool) (new : Made) (snaps : List Made) (ids : List SnapId) (b : Bool) → p new ≡ b → ids ≡ rev_ids (filter p snaps) → ids ++ (if b then new.id ∷ [] else []) ≡ rev_ids (filter p (new ∷ snaps))
new_same p new snaps ids true is same = rw is (λ i. same i ++ new.id ∷ [])
new_same p new snaps ids false is same = rw is (append-nil ids ∙ same)

no_snap : (w : What) (test : Ino → Bool) → is_snap w ≡ false → made_by w test ≡ []
no_snap (what.Mksnap id dir name) test is = cc
no_snap w test is = refl

-- the snapshots that cover an inode outside the global realm
pub over_same : (entries : List Entry) → is_journal entries ≡ true → (x : Ino) → is_in_global (family_of entries).members x ≡ false → made_over empty entries x ≡ rev_ids (filter (λ (s : Made). is_on x s.covered) (family_of entries).snaps)
over_same entries legal = of_each Holds (λ x outside. refl) more entries legal
  where
    Holds : List Entry → Type 0
    Holds done = (x : Ino) → is_in_global (family_of done).members x ≡ false → made_over empty done x ≡ rev_ids (filter (λ (s : Made). is_on x s.covered) (family_of done).snaps)

    more : (done : List Entry) (e : Entry) → is_journal done ≡ true → Holds done → is_legal done e ≡ true → Holds (done ++ e ∷ [])
    more done e legal old fine x outside =
        over_more empty done e x
        ∙ go (is_snap e.what) refl
        ∙ ap (λ (f : Family). rev_ids (filter (λ (s : Made). is_on x s.covered) f.snaps)) (sym (family_more done e))
      where
        apart : same_ino GLOBAL x ≡ false
        apart = or_first (same_ino GLOBAL x) (is_on GLOBAL (above_by (member (family_of (done ++ e ∷ [])).members x))) outside

        was_outside : is_in_global (family_of done).members x ≡ false
        was_outside = or_second (links e.what x) (is_in_global (family_of done).members x) (sym (inside_more done e legal fine x apart) ∙ outside)

        by_snap : (w : What) → e.what ≡ w → is_snap w ≡ true → made_over empty done x ++ made_by w (is_under (state_after done).entries x) ≡ rev_ids (filter (λ (s : Made). is_on x s.covered) (told (state_after done) w (family_of done)).snaps)
        by_snap (what.Mksnap id dir name) is snap =
            let made = (both_of (is_made_by (state_after done) e.client (change_in e.what)) (fits done e.what) fine).0 in
            let folder = snap_folder (state_after done) e.client (family_of done) (tied_after done legal) id dir name (subst (λ (w : What). is_made_by (state_after done) e.client (change_in w) ≡ true) is made) in
            new_same (λ (s : Made). is_on x s.covered) (record { id = id; root = dir; name = name; covered = filter (λ ino. is_under_told (family_of done).members ino dir) (inodes (family_of done).members); live = true; purged = false }) (family_of done).snaps (made_over empty done x) (is_under (state_after done).entries x dir)
            (on_filter (λ ino. is_under_told (family_of done).members ino dir) x (inodes (family_of done).members) ∙ under_same (state_after done).entries (state_after done).inodes (family_of done).members (tied_after done legal) dir folder x was_outside)
            (old x was_outside)
        by_snap w is snap = cc

        go : (b : Bool) → is_snap e.what ≡ b → made_over empty done x ++ made_by e.what (is_under (state_after done).entries x) ≡ rev_ids (filter (λ (s : Made). is_on x s.covered) (told (state_after done) e.what (family_of done)).snaps)
        go true is = by_snap e.what refl is
        go false is =
            let m = told_marks (state_after done) e.what (family_of done) is in
            ap (λ (ids : List SnapId). made_over empty done x ++ ids) (no_snap e.what (is_under (state_after done).entries x) is)
            ∙ append-nil (made_over empty done x)
            ∙ old x was_outside
            ∙ sym (ap (λ (l : List Made). rev_ids (filter (λ (s : Made). is_on x s.covered) l)) m.are ∙ marks_same (λ (s : Made). is_on x s.covered) m.mark m.keeps (λ s. ap (is_on x) (m.keeps s).1.1.1.0) (family_of done).snaps)

-- which inodes were made after an entry
module _ (state : State) (client : ℕ) (x : Ino) where
  abbrev listed : State → Bool
  listed s = list_any (λ (inode : Inode). same_ino inode.ino x) s.inodes

  or_none : (b : Bool) → b ≡ (b || false)
  or_none true = refl
  or_none false = refl

  made_list : (c : Change) (b : Bool) → not (is_refused state client c) ≡ true → listed (make state client c) ≡ (listed state || b) → listed (apply state client c) ≡ (listed state || b)
  made_list c b made same = ap listed (apply_made state client c (not_true (is_refused state client c) made)) ∙ same

  pushed : (inode : Inode) → list_any (λ (i : Inode). same_ino i.ino x) (state.inodes ++ inode ∷ []) ≡ (listed state || same_ino inode.ino x)
  pushed inode = list_any-append (λ (i : Inode). same_ino i.ino x) state.inodes (inode ∷ []) ∙ ap (λ (b : Bool). listed state || b) (sym (or_none (same_ino inode.ino x)))

  mode_list : (ino : Ino) (mode : ℕ) (inodes : List Inode) → list_any (λ (i : Inode). same_ino i.ino x) (with_mode ino mode inodes) ≡ list_any (λ (i : Inode). same_ino i.ino x) inodes
  mode_list ino mode [] = refl
  mode_list ino mode (inode ∷ inodes) = ap (λ (b : Bool). same_ino inode.ino x || b) (mode_list ino mode inodes)

  made_more : (w : What) → is_made_by state client (change_in w) ≡ true → listed (with_change state client (change_in w)) ≡ (listed state || makes x w)
  made_more (what.Mkdir d n i) made = made_list (change.Mkdir d n i) (same_ino i x) made (pushed (new_directory i))
  made_more (what.Create d n i m) made = made_list (change.Create d n i m) (same_ino i x) made (pushed (new_file i m))
  made_more (what.Link i d n) made = made_list (change.Link i d n) false made (or_none (listed state))
  made_more (what.Unlink d n) made = made_list (change.Unlink d n) false made (or_none (listed state))
  made_more (what.Rmdir d n) made = made_list (change.Rmdir d n) false made (or_none (listed state))
  made_more (what.Rename d n td tn) made = made_list (change.Rename d n td tn) false made (or_none (listed state))
  made_more (what.Chmod i m) made = made_list (change.Chmod i m) false made (mode_list i m state.inodes ∙ or_none (listed state))
  made_more (what.OpenFile h i w) made = made_list (change.OpenFile h i w) false made (or_none (listed state))
  made_more (what.CloseFile h) made = made_list (change.CloseFile h) false made (or_none (listed state))
  made_more (what.Mksnap id d n) made = made_list (change.Mksnap id d n) false made (or_none (listed state))
  made_more (what.Rmsnap id) made = made_list (change.Rmsnap id) false made (or_none (listed state))
  made_more (what.PrepareCreate id) made = or_none (listed state)
  made_more (what.PrepareDestroy id) made = or_none (listed state)
  made_more (what.Rollback id) made = or_none (listed state)
  made_more (what.Settle i f u z) made = or_none (listed state)
  made_more (what.Release i f z) made = or_none (listed state)
  made_more (what.Trim id) made = or_none (listed state)
  made_more (what.Purgedone id) made = or_none (listed state)
  made_more (what.Deadfile i) made = or_none (listed state)
  made_more (what.Barrier n) made = or_none (listed state)

-- what was made is the root, or an entry made it
pub made_born : (entries : List Entry) → is_journal entries ≡ true → (x : Ino) → is_made (state_after entries) x ≡ (same_ino ROOT x || was_born x entries)
made_born entries legal = of_each (λ (done : List Entry). (x : Ino) → is_made (state_after done) x ≡ (same_ino ROOT x || was_born x done)) (λ x. refl) more entries legal
  where
    assoc : (a b c : Bool) → ((a || b) || c) ≡ (a || (b || (c || false)))
    assoc true b c = refl
    assoc false true c = refl
    assoc false false true = refl
    assoc false false false = refl

    more : (done : List Entry) (e : Entry) → is_journal done ≡ true → ((x : Ino) → is_made (state_after done) x ≡ (same_ino ROOT x || was_born x done)) → is_legal done e ≡ true → (x : Ino) → is_made (state_after (done ++ e ∷ [])) x ≡ (same_ino ROOT x || was_born x (done ++ e ∷ []))
    more done e legal old fine x =
        ap (λ (s : State). is_made s x) (state_more done e)
        ∙ made_more (state_after done) e.client x e.what (both_of (is_made_by (state_after done) e.client (change_in e.what)) (fits done e.what) fine).0
        ∙ ap (λ (b : Bool). b || makes x e.what) (old x)
        ∙ assoc (same_ino ROOT x) (was_born x done) (makes x e.what)
        ∙ ap (λ (b : Bool). same_ino ROOT x || b) (sym (list_any-append (λ (f : Entry). makes x f.what) done (e ∷ [])))

-- what an entry makes was not made before
new_unmade : (done : List Entry) (e : Entry) → is_journal done ≡ true → is_legal done e ≡ true → (x : Ino) → makes x e.what ≡ true → is_made (state_after done) x ≡ false
new_unmade done e legal fine x is =
    let next = makes_next done e x legal fine is in
    made_born done legal x ∙ rw (less_apart ROOT x (omega (arith, next.0)), unborn (was_born x done) refl next.0) refl
  where
    unborn : (b : Bool) → was_born x done ≡ b → x.0 ≡ bound done → b ≡ false
    unborn true was next = absurd (omega (arith, born_below done legal x was, next))
    unborn false was next = refl

made_earlier : (done : List Entry) (e : Entry) → is_journal done ≡ true → is_legal done e ≡ true → (x : Ino) → is_made (state_after (done ++ e ∷ [])) x ≡ false → is_made (state_after done) x ≡ false
made_earlier done e legal fine x none =
    or_first (is_made (state_after done) x) (makes x e.what)
    (sym (ap (λ (s : State). is_made s x) (state_more done e) ∙ made_more (state_after done) e.client x e.what (both_of (is_made_by (state_after done) e.client (change_in e.what)) (fits done e.what) fine).0) ∙ none)

-- no snapshot was made since what isn't made
since_none : (entries : List Entry) → is_journal entries ≡ true → (x : Ino) → is_made (state_after entries) x ≡ false → made_since empty entries x ≡ []
since_none entries legal = of_each (λ (done : List Entry). (x : Ino) → is_made (state_after done) x ≡ false → made_since empty done x ≡ []) (λ x none. refl) more entries legal
  where
    made_none : (w : What) → made_by w (λ dir. false) ≡ []
    made_none (what.Mksnap id dir name) = refl
    made_none w = refl

    more : (done : List Entry) (e : Entry) → is_journal done ≡ true → ((x : Ino) → is_made (state_after done) x ≡ false → made_since empty done x ≡ []) → is_legal done e ≡ true → (x : Ino) → is_made (state_after (done ++ e ∷ [])) x ≡ false → made_since empty (done ++ e ∷ []) x ≡ []
    more done e legal old fine x none =
        let before = made_earlier done e legal fine x none in
        since_more empty done e x
        ∙ (λ i. old x before i ++ made_by e.what (λ dir. before i))
        ∙ made_none e.what

-- the snapshots that were made since a member was born
pub since_same : (entries : List Entry) → is_journal entries ≡ true → (x : Ino) → is_member (member (family_of entries).members x) ≡ true → made_since empty entries x ≡ rev_ids (filter (λ (s : Made). nat_le (birth_of (family_of entries) x).0 s.id.0) (family_of entries).snaps)
since_same entries legal = of_each Holds (λ x is. cc) more entries legal
  where
    Holds : List Entry → Type 0
    Holds done = (x : Ino) → is_member (member (family_of done).members x) ≡ true → made_since empty done x ≡ rev_ids (filter (λ (s : Made). nat_le (birth_of (family_of done) x).0 s.id.0) (family_of done).snaps)

    none_late : (n m : ℕ) (snaps : List Made) → n ≤ m → FallBelow n snaps → rev_ids (filter (λ (s : Made). nat_le m s.id.0) snaps) ≡ []
    none_late n m [] more fall = refl
    none_late n m (s ∷ snaps) more fall = rw (early s.id.0 m (omega (arith, fall.0, more))) (none_late s.id.0 m snaps (omega (arith, fall.0, more)) fall.2)
      where
        early : (k m : ℕ) → k < m → leb m k ≡ false
        early k m h = grind (arith, nat_tests)

    upto : (m n : ℕ) → m ≤ n → leb m n ≡ true
    upto m n h = grind (arith, nat_tests)

    more : (done : List Entry) (e : Entry) → is_journal done ≡ true → Holds done → is_legal done e ≡ true → Holds (done ++ e ∷ [])
    more done e legal old fine x = subst (λ (f : Family). is_member (member f.members x) ≡ true → made_since empty (done ++ e ∷ []) x ≡ rev_ids (filter (λ (s : Made). nat_le (birth_of f x).0 s.id.0) f.snaps)) (sym (family_more done e)) (λ there. since_more empty done e x ∙ go (makes x e.what) (is_snap e.what) refl refl there)
      where
        makes_no_snap : (w : What) → makes x w ≡ true → is_snap w ≡ false
        makes_no_snap (what.Mkdir d n i) is = refl
        makes_no_snap (what.Create d n i m) is = refl
        makes_no_snap w is = cc

        steady : (n : ℕ) → is_snap e.what ≡ false → rev_ids (filter (λ (s : Made). nat_le n s.id.0) (told (state_after done) e.what (family_of done)).snaps) ≡ rev_ids (filter (λ (s : Made). nat_le n s.id.0) (family_of done).snaps)
        steady n is =
            let m = told_marks (state_after done) e.what (family_of done) is in
            ap (λ (l : List Made). rev_ids (filter (λ (s : Made). nat_le n s.id.0) l)) m.are ∙ marks_same (λ (s : Made). nat_le n s.id.0) m.mark m.keeps (λ s. ap (λ (i : SnapId). nat_le n i.0) (m.keeps s).0) (family_of done).snaps

        by_snap : (w : What) → e.what ≡ w → is_snap w ≡ true → (n : ℕ) → n ≤ (family_of done).applied.0 + 1 → is_made (state_after done) x ≡ true → made_since empty done x ≡ rev_ids (filter (λ (s : Made). nat_le n s.id.0) (family_of done).snaps) → made_since empty done x ++ made_by w (λ dir. is_made (state_after done) x) ≡ rev_ids (filter (λ (s : Made). nat_le n s.id.0) (told (state_after done) w (family_of done)).snaps)
        by_snap (what.Mksnap id dir name) is snap n low made was =
            ap (λ (b : Bool). made_since empty done x ++ (if b then id ∷ [] else [])) made
            ∙ new_same (λ (s : Made). nat_le n s.id.0) (record { id = id; root = dir; name = name; covered = filter (λ ino. is_under_told (family_of done).members ino dir) (inodes (family_of done).members); live = true; purged = false }) (family_of done).snaps (made_since empty done x) true
            (upto n id.0 (omega (arith, low, above_last done e legal fine id dir name is))) was
        by_snap w is snap n low made was = cc

        go : (b c : Bool) → makes x e.what ≡ b → is_snap e.what ≡ c → is_member (member (told (state_after done) e.what (family_of done)).members x) ≡ true → made_since empty done x ++ made_by e.what (λ dir. is_made (state_after done) x) ≡ rev_ids (filter (λ (s : Made). nat_le (birth_of (told (state_after done) e.what (family_of done)) x).0 s.id.0) (told (state_after done) e.what (family_of done)).snaps)
        go true c is snap there =
            ap (λ (ids : List SnapId). made_since empty done x ++ ids) (no_snap e.what (λ dir. is_made (state_after done) x) (makes_no_snap e.what is))
            ∙ append-nil (made_since empty done x)
            ∙ since_none done legal x (new_unmade done e legal fine x is)
            ∙ sym (ap (λ (i : SnapId). rev_ids (filter (λ (s : Made). nat_le i.0 s.id.0) (told (state_after done) e.what (family_of done)).snaps)) (now_born (state_after done) e.what (family_of done) x is)
            ∙ steady ((family_of done).applied.0 + 1) (makes_no_snap e.what is)
            ∙ none_late ((family_of done).applied.0 + 1) ((family_of done).applied.0 + 1) (family_of done).snaps (omega arith) (basic_after done legal).fall)
        go false false is snap there =
            let was = same_birth (state_after done) e.what (family_of done) x is there in
            ap (λ (ids : List SnapId). made_since empty done x ++ ids) (no_snap e.what (λ dir. is_made (state_after done) x) snap)
            ∙ append-nil (made_since empty done x)
            ∙ old x was.is_same
            ∙ sym (ap (λ (i : SnapId). rev_ids (filter (λ (s : Made). nat_le i.0 s.id.0) (told (state_after done) e.what (family_of done)).snaps)) was.birth_same ∙ steady (birth_of (family_of done) x).0 snap)
        go false true is snap there =
            let was = same_birth (state_after done) e.what (family_of done) x is there in
            let made = (tied_after done legal).made x (rw was.is_same (or_true (same_ino x ROOT))) in
            by_snap e.what refl snap (birth_of (family_of done) x).0 ((covers_after done legal).late x was.is_same).1 made (old x was.is_same)
            ∙ sym (ap (λ (i : SnapId). rev_ids (filter (λ (s : Made). nat_le i.0 s.id.0) (told (state_after done) e.what (family_of done)).snaps)) was.birth_same)
          where
            or_true : (b : Bool) → (b || true) ≡ true
            or_true true = refl
            or_true false = refl

-- Births of both vocabularies.
use Rattle.std.proofs.Common.{◌≡◌, ℕ, ◌+◌, ◌<◌, ◌≤◌, List, [], ◌∷◌, ◌++◌, length, Bool, true, false, cond, ◌||◌, Option, None, Some, refl, sym, ap, ◌∙◌, subst, arith, length-append}
use Rattle.std.specs.List.{list_any}
use Rattle.std.proofs.lemmas.List.{length-map}
use Rattle.std.proofs.lemmas.List.Folds.{list_any-append}
use Rattle.snap_ids.specs.declared.id.Ino.{Ino}
use Rattle.snap_ids.specs.declared.id.SnapId.{SnapId}
use Rattle.snap_ids.specs.declared.id.TheConstants.{STRAY}
use Rattle.plain_types.specs.declared.change.Change.{Change}
use Rattle.plain_types.specs.declared.change.Change.TheVariants as change
use Rattle.plain_types.specs.declared.entry.Entry.{Entry}
use Rattle.plain_types.specs.declared.entry.What.{What}
use Rattle.plain_types.specs.declared.entry.What.TheVariants as what
use Rattle.plain_tree.specs.State.{State, Inode, new_directory, next_ino, lookup}
use Rattle.plain_tree.specs.Change.{is_refused, new_file, make, apply}
use Rattle.plain_journal.specs.Entries.{change_in, with_change, state_after, applied}
use Rattle.plain_journal.specs.Legal.{is_made_by, fits, is_legal, is_journal}
use Rattle.realm_story.specs.Family.{Made, Family, same_ino, member, is_member, birth_by, birth_of, is_in_global, way_up, move_to, next_id, born, forget}
use Rattle.realm_story.proofs.Facts.{both_of, same_of}
use Rattle.journal_laws.proofs.Steps.{state_more, apply_made}
use Rattle.journal_realms.specs.Above.{makes, before_made, birth_at}
use Rattle.journal_realms.specs.Told.{move_found, forget_found, snap_of, drop_found, told, family_of}
use Rattle.journal_realms.proofs.Family.{family_more}
use Rattle.journal_realms.proofs.Members.{moved_is, moved_birth, global_is, global_birth, left_other, left_self}
use Rattle.journal_realms.proofs.Tree.{bound_of}
use Rattle.journal_realms.proofs.Kept.{IsNext, move_in, move_out, not_true}
use Rattle.journal_realms.proofs.Trees.{tied_after, next_of}
use Rattle.journal_realms.proofs.Last.{same_applied}
use Rattle.journal_realms.proofs.Induct.{of_each}

-- an entry made the inode
abbrev pub was_born : Ino → List Entry → Bool
was_born x entries = list_any (λ (e : Entry). makes x e.what) entries

before_more : (x : Ino) (done more : List Entry) → was_born x done ≡ true → before_made x (done ++ more) ≡ before_made x done
before_more x [] more was = cc
before_more x (e ∷ done) more was = go (makes x e.what) was (before_more x done more)
  where
    go : (b : Bool) → (b || was_born x done) ≡ true → (was_born x done ≡ true → before_made x (done ++ more) ≡ before_made x done) → cond b [] (e ∷ before_made x (done ++ more)) ≡ cond b [] (e ∷ before_made x done)
    go true was rest = refl
    go false was rest = ap (λ (l : List Entry). e ∷ l) (rest was)

before_now : (x : Ino) (done : List Entry) (e : Entry) → was_born x done ≡ false → makes x e.what ≡ true → before_made x (done ++ e ∷ []) ≡ done
before_now x [] e new is = rw is refl
before_now x (f ∷ done) e new is = go (makes x f.what) new (λ h. before_now x done e h is)
  where
    go : (b : Bool) → (b || was_born x done) ≡ false → (was_born x done ≡ false → before_made x (done ++ e ∷ []) ≡ done) → cond b [] (f ∷ before_made x (done ++ e ∷ [])) ≡ f ∷ done
    go true new rest = cc
    go false new rest = ap (λ (l : List Entry). f ∷ l) (rest new)

-- the list of inodes grows
module _ (state : State) (client : ℕ) where
  made_longer : (c : Change) → is_refused state client c ≡ false → length state.inodes ≤ length (make state client c).inodes → length state.inodes ≤ length (apply state client c).inodes
  made_longer c fine more = subst (λ (s : State). length state.inodes ≤ length s.inodes) (sym (apply_made state client c fine)) more

  pub longer : (w : What) → is_made_by state client (change_in w) ≡ true → length state.inodes ≤ length (with_change state client (change_in w)).inodes
  longer (what.Mkdir d n i) made = made_longer (change.Mkdir d n i) (not_true (is_refused state client (change.Mkdir d n i)) made) (omega (arith, length-append state.inodes (new_directory i ∷ [])))
  longer (what.Create d n i m) made = made_longer (change.Create d n i m) (not_true (is_refused state client (change.Create d n i m)) made) (omega (arith, length-append state.inodes (new_file i m ∷ [])))
  longer (what.Chmod i m) made = made_longer (change.Chmod i m) (not_true (is_refused state client (change.Chmod i m)) made) (omega (arith, length-map state.inodes (λ (inode : Inode). record inode { mode = cond (same_ino inode.ino i) m inode.mode })))
  longer (what.Link i d n) made = made_longer (change.Link i d n) (not_true (is_refused state client (change.Link i d n)) made) (omega arith)
  longer (what.Unlink d n) made = made_longer (change.Unlink d n) (not_true (is_refused state client (change.Unlink d n)) made) (omega arith)
  longer (what.Rmdir d n) made = made_longer (change.Rmdir d n) (not_true (is_refused state client (change.Rmdir d n)) made) (omega arith)
  longer (what.Rename d n td tn) made = made_longer (change.Rename d n td tn) (not_true (is_refused state client (change.Rename d n td tn)) made) (omega arith)
  longer (what.OpenFile h i w) made = made_longer (change.OpenFile h i w) (not_true (is_refused state client (change.OpenFile h i w)) made) (omega arith)
  longer (what.CloseFile h) made = made_longer (change.CloseFile h) (not_true (is_refused state client (change.CloseFile h)) made) (omega arith)
  longer (what.Mksnap id d n) made = made_longer (change.Mksnap id d n) (not_true (is_refused state client (change.Mksnap id d n)) made) (omega arith)
  longer (what.Rmsnap id) made = made_longer (change.Rmsnap id) (not_true (is_refused state client (change.Rmsnap id)) made) (omega arith)
  longer (what.PrepareCreate id) made = omega arith
  longer (what.PrepareDestroy id) made = omega arith
  longer (what.Rollback id) made = omega arith
  longer (what.Settle i f u z) made = omega arith
  longer (what.Release i f z) made = omega arith
  longer (what.Trim id) made = omega arith
  longer (what.Purgedone id) made = omega arith
  longer (what.Deadfile i) made = omega arith
  longer (what.Barrier n) made = omega arith

  -- by one where an inode is made
  pub longer_by_one : (x : Ino) (w : What) → makes x w ≡ true → is_made_by state client (change_in w) ≡ true → IsNext state w → (x.0 ≡ (next_ino state).0) × (length (with_change state client (change_in w)).inodes ≡ length state.inodes + 1)
  longer_by_one x (what.Mkdir d n i) is made next =
      (ap (λ (y : Ino). y.0) (sym (same_of i x is)) ∙ next, ap (λ (s : State). length s.inodes) (apply_made state client (change.Mkdir d n i) (not_true (is_refused state client (change.Mkdir d n i)) made)) ∙ length-append state.inodes (new_directory i ∷ []))
  longer_by_one x (what.Create d n i m) is made next =
      (ap (λ (y : Ino). y.0) (sym (same_of i x is)) ∙ next, ap (λ (s : State). length s.inodes) (apply_made state client (change.Create d n i m) (not_true (is_refused state client (change.Create d n i m)) made)) ∙ length-append state.inodes (new_file i m ∷ []))
  longer_by_one x w is made next = cc

-- the bound of numbers after a journal
abbrev pub bound : List Entry → ℕ
bound done = bound_of (state_after done).inodes

pub bound_more : (done : List Entry) (e : Entry) → is_legal done e ≡ true → bound done ≤ bound (done ++ e ∷ [])
bound_more done e fine =
    let l = both_of (is_made_by (state_after done) e.client (change_in e.what)) (fits done e.what) fine in
    let grows : length (state_after done).inodes ≤ length (state_after (done ++ e ∷ [])).inodes = subst (λ (s : State). length (state_after done).inodes ≤ length s.inodes) (sym (state_more done e)) (longer (state_after done) e.client e.what l.0) in
    omega (arith, grows)

pub makes_next : (done : List Entry) (e : Entry) (x : Ino) → is_journal done ≡ true → is_legal done e ≡ true → makes x e.what ≡ true → (x.0 ≡ bound done) × (x.0 < bound (done ++ e ∷ []))
makes_next done e x legal fine is =
    let l = both_of (is_made_by (state_after done) e.client (change_in e.what)) (fits done e.what) fine in
    let m = longer_by_one (state_after done) e.client x e.what is l.0 (next_of done e.what l.1) in
    let grows : length (state_after (done ++ e ∷ [])).inodes ≡ length (state_after done).inodes + 1 = ap (λ (s : State). length s.inodes) (state_more done e) ∙ m.1 in
    (m.0, omega (arith, m.0, grows, (tied_after done legal).some))

-- what was made has a number below the next one
pub born_below : (entries : List Entry) → is_journal entries ≡ true → (x : Ino) → was_born x entries ≡ true → x.0 < bound entries
born_below entries legal = of_each (λ (done : List Entry). (x : Ino) → was_born x done ≡ true → x.0 < bound done) (λ x was. cc) more entries legal
  where
    more : (done : List Entry) (e : Entry) → is_journal done ≡ true → ((x : Ino) → was_born x done ≡ true → x.0 < bound done) → is_legal done e ≡ true → (x : Ino) → was_born x (done ++ e ∷ []) ≡ true → x.0 < bound (done ++ e ∷ [])
    more done e legal old fine x was = go (was_born x done) (makes x e.what) refl refl (sym (list_any-append (λ (f : Entry). makes x f.what) done (e ∷ [])) ∙ was)
      where
        go : (b c : Bool) → was_born x done ≡ b → makes x e.what ≡ c → (b || (c || false)) ≡ true → x.0 < bound (done ++ e ∷ [])
        go true c is now any = omega (arith, old x is, bound_more done e fine)
        go false true is now any = (makes_next done e x legal fine now).1
        go false false is now any = cc

-- a member of the story after an entry that doesn't make it was one before, with the same birth
pub record SameBirth (old new : Family) (x : Ino) : Type 0 where
  pub is_same : is_member (member old.members x) ≡ true
  pub birth_same : birth_of new x ≡ birth_of old x

moved_same : (y parent : Ino) (family : Family) (x : Ino) → is_member (member (move_to y parent family).members x) ≡ true → SameBirth family (move_to y parent family) x
moved_same y parent family x = go (is_in_global family.members y) refl
  where
    go : (g : Bool) → is_in_global family.members y ≡ g → is_member (member (move_to y parent family).members x) ≡ true → SameBirth family (move_to y parent family) x
    go true inside = subst (λ (f : Family). is_member (member f.members x) ≡ true → SameBirth family f x) (sym (move_in y parent family inside)) (λ is. record { is_same = is; birth_same = refl })
    go false outside = subst (λ (f : Family). is_member (member f.members x) ≡ true → SameBirth family f x) (sym (move_out y parent family outside)) (λ is. record { is_same = sym (moved_is y (way_up family.members parent) family.members x) ∙ is; birth_same = moved_birth y (way_up family.members parent) family.members x })

found_same : (found : Option Ino) (parent : Ino) (family : Family) (x : Ino) → is_member (member (move_found found parent family).members x) ≡ true → SameBirth family (move_found found parent family) x
found_same None parent family x is = record { is_same = is; birth_same = refl }
found_same (Some y) parent family x is = moved_same y parent family x is

forget_same : (found : Option Ino) (family : Family) (x : Ino) → is_member (member (forget_found found family).members x) ≡ true → SameBirth family (forget_found found family) x
forget_same None family x is = record { is_same = is; birth_same = refl }
forget_same (Some y) family x is = go (same_ino y x) refl
  where
    go : (b : Bool) → same_ino y x ≡ b → SameBirth family (forget y family) x
    go true same =
        let gone : is_member (member (forget y family).members x) ≡ false = ap (λ (z : Ino). is_member (member (forget y family).members z)) (sym (same_of y x same)) ∙ ap is_member (left_self y family.members) in
        let never : true ≡ false = sym is ∙ gone in
        cc
    go false apart = record { is_same = ap is_member (sym (left_other y x family.members apart)) ∙ is; birth_same = ap birth_by (left_other y x family.members apart) }

drop_same : (found : Option Made) (family : Family) (x : Ino) → is_member (member (drop_found found family).members x) ≡ true → SameBirth family (drop_found found family) x
drop_same None family x is = record { is_same = is; birth_same = refl }
drop_same (Some snap) family x is = record { is_same = is; birth_same = refl }

born_same : (ino dir : Ino) (family : Family) (x : Ino) → same_ino ino x ≡ false → is_member (member (born ino dir family).members x) ≡ true → SameBirth family (born ino dir family) x
born_same ino dir family x apart is = record { is_same = rw apart at is; birth_same = rw apart refl }

pub same_birth : (state : State) (w : What) (family : Family) (x : Ino) → makes x w ≡ false → is_member (member (told state w family).members x) ≡ true → SameBirth family (told state w family) x
same_birth state (what.Mkdir d n i) family x not_it is = born_same i d family x not_it is
same_birth state (what.Create d n i m) family x not_it is = born_same i d family x not_it is
same_birth state (what.Link i d n) family x not_it is = record { is_same = sym (global_is i family.members x) ∙ is; birth_same = global_birth i family.members x }
same_birth state (what.Unlink d n) family x not_it is = found_same (lookup state.entries d n) STRAY family x is
same_birth state (what.Rmdir d n) family x not_it is = forget_same (lookup state.entries d n) family x is
same_birth state (what.Rename d n td tn) family x not_it is = found_same (lookup state.entries d n) td family x is
same_birth state (what.Rmsnap id) family x not_it is = drop_same (snap_of family.snaps id) family x is
same_birth state w family x not_it is = record { is_same = is; birth_same = refl }

-- who is born now has the id after the last one
pub now_born : (state : State) (w : What) (family : Family) (x : Ino) → makes x w ≡ true → birth_of (told state w family) x ≡ next_id family.applied
now_born state (what.Mkdir d n i) family x is = rw is refl
now_born state (what.Create d n i m) family x is = rw is refl
now_born state w family x is = cc

-- the births of the story are those of the journal
pub births_of : (entries : List Entry) → is_journal entries ≡ true → (x : Ino) → is_member (member (family_of entries).members x) ≡ true → (was_born x entries ≡ true) × ((birth_of (family_of entries) x).0 ≡ birth_at entries x)
births_of entries legal = of_each Holds (λ x is. cc) more entries legal
  where
    Holds : List Entry → Type 0
    Holds done = (x : Ino) → is_member (member (family_of done).members x) ≡ true → (was_born x done ≡ true) × ((birth_of (family_of done) x).0 ≡ birth_at done x)

    more : (done : List Entry) (e : Entry) → is_journal done ≡ true → Holds done → is_legal done e ≡ true → Holds (done ++ e ∷ [])
    more done e legal old fine x = subst (λ (f : Family). is_member (member f.members x) ≡ true → (was_born x (done ++ e ∷ []) ≡ true) × ((birth_of f x).0 ≡ birth_at (done ++ e ∷ []) x)) (sym (family_more done e)) (go (makes x e.what) refl)
      where
        born_push : (b c : Bool) → was_born x done ≡ b → makes x e.what ≡ c → was_born x (done ++ e ∷ []) ≡ (b || (c || false))
        born_push b c was now = list_any-append (λ (f : Entry). makes x f.what) done (e ∷ []) ∙ rw (was, now) refl

        new_now : makes x e.what ≡ true → (b : Bool) → was_born x done ≡ b → b ≡ false
        new_now is true was = let next = makes_next done e x legal fine is in absurd (omega (arith, born_below done legal x was, next.0))
        new_now is false was = refl

        go : (b : Bool) → makes x e.what ≡ b → is_member (member (told (state_after done) e.what (family_of done)).members x) ≡ true → (was_born x (done ++ e ∷ []) ≡ true) × ((birth_of (told (state_after done) e.what (family_of done)) x).0 ≡ birth_at (done ++ e ∷ []) x)
        go true is there =
            let new = new_now is (was_born x done) refl in (
              born_push false true new is,
              ap (λ (s : SnapId). s.0) (now_born (state_after done) e.what (family_of done) x is)
                  ∙ ap (λ n. n + 1) (same_applied done legal)
                  ∙ ap (λ (l : List Entry). applied l + 1) (sym (before_now x done e new is)),
            )
        go false is there =
            let same = same_birth (state_after done) e.what (family_of done) x is there in
            let was = old x same.is_same in (
              born_push true false was.0 is,
              ap (λ (s : SnapId). s.0) same.birth_same
                  ∙ was.1
                  ∙ ap (λ (l : List Entry). applied l + 1) (sym (before_more x done (e ∷ []) was.0)),
            )

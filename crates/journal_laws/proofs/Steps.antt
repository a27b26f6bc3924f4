-- Journals one entry after another.
use Rattle.std.proofs.Common.{◌≡◌, ℕ, List, [], ◌∷◌, ◌++◌, Bool, true, false, Option, None, Some, refl, sym, ap, subst, append_assoc, arith}
use Rattle.std.proofs.lemmas.List.{append-nil}
use Rattle.std.proofs.lemmas.List.Sums.{fold-append}
use Rattle.std.proofs.lemmas.Bool.{eqb-true}
use Rattle.std.specs.Prelude.{not, ◌&&◌}
use Rattle.plain_types.specs.declared.change.Change.{Change}
use Rattle.plain_types.specs.declared.change.Change.TheVariants as change
use Rattle.plain_types.specs.declared.entry.Entry.{Entry}
use Rattle.plain_types.specs.declared.entry.What.{What}
use Rattle.plain_types.specs.declared.entry.What.TheVariants as what
use Rattle.plain_tree.specs.State.{State, start, next_ino}
use Rattle.plain_tree.specs.Change.{is_refused, make, apply}
use Rattle.plain_journal.specs.Entries.{change_in, with_change, after_entry, state_after}
use Rattle.plain_journal.specs.Legal.{is_made_by, fits, is_legal, legal_after, is_journal}
use Rattle.journal_laws.proofs.Below.{IsNumbered, HasNext, numbered_made}

-- both of two tests
pub both_true : (a b : Bool) → (a && b) ≡ true → (a ≡ true) × (b ≡ true)
both_true true b is = (refl, is)
both_true false b is = cc

not_true : (b : Bool) → not b ≡ true → b ≡ false
not_true true is = cc
not_true false is = refl

-- what holds at first and is kept by each legal entry holds of every journal
pub by_entries : (P : List Entry → Type 0) → ((done : List Entry) (e : Entry) → P done → is_legal done e ≡ true → P (done ++ e ∷ [])) → (done entries : List Entry) → P done → legal_after done entries ≡ true → P (done ++ entries)
by_entries P kept done [] holds legal = subst P (sym (append-nil done)) holds
by_entries P kept done (e ∷ entries) holds legal =
    let l = both_true (is_legal done e) (legal_after (done ++ e ∷ []) entries) legal in
    subst P (append_assoc done (e ∷ []) entries)
    (by_entries P kept (done ++ e ∷ []) entries (kept done e holds l.0) l.1)

pub of_journals : (P : List Entry → Type 0) → P [] → ((done : List Entry) (e : Entry) → P done → is_legal done e ≡ true → P (done ++ e ∷ [])) → (entries : List Entry) → is_journal entries ≡ true → P entries
of_journals P first kept entries legal = by_entries P kept [] entries first legal

-- the last entry of a journal is legal after the others, which are a journal
pub last_legal : (done entries : List Entry) (e : Entry) → legal_after done (entries ++ e ∷ []) ≡ true → (legal_after done entries ≡ true) × (is_legal (done ++ entries) e ≡ true)
last_legal done [] e legal =
    let l = both_true (is_legal done e) true legal in (refl, subst (λ (d : List Entry). is_legal d e ≡ true) (sym (append-nil done)) l.0)
last_legal done (f ∷ entries) e legal =
    let l = both_true (is_legal done f) (legal_after (done ++ f ∷ []) (entries ++ e ∷ [])) legal in
    let rest = last_legal (done ++ f ∷ []) entries e l.1 in
    (front l.0 rest.0, subst (λ (d : List Entry). is_legal d e ≡ true) (append_assoc done (f ∷ []) entries) rest.1)
  where
    front : is_legal done f ≡ true → legal_after (done ++ f ∷ []) entries ≡ true → (is_legal done f && legal_after (done ++ f ∷ []) entries) ≡ true
    front a b = rw (a, b) refl

-- the state after one more entry
pub state_more : (entries : List Entry) (e : Entry) → state_after (entries ++ e ∷ []) ≡ after_entry (state_after entries) e
state_more entries e = fold-append after_entry start entries (e ∷ [])

-- a change that isn't refused is made
pub apply_made : (state : State) (client : ℕ) (made : Change) → is_refused state client made ≡ false → apply state client made ≡ make state client made
apply_made state client made fine = rw fine refl

-- the number of a new inode is the next one
pub has_next : (entries : List Entry) (w : What) (made : Change) → change_in w ≡ Some made → fits entries w ≡ true → HasNext (state_after entries) made
has_next entries (what.Mkdir dir name ino) made is fine =
    let same : change.Mkdir dir name ino ≡ made = cc in
    subst (HasNext (state_after entries)) same (ap (λ (n : ℕ). record { 0 = n }) (eqb-true ino.0 (next_ino (state_after entries)).0 fine))
has_next entries (what.Create dir name ino mode) made is fine =
    let same : change.Create dir name ino mode ≡ made = cc in
    subst (HasNext (state_after entries)) same (ap (λ (n : ℕ). record { 0 = n }) (eqb-true ino.0 (next_ino (state_after entries)).0 fine))
has_next entries (what.Link ino dir name) made is fine = let same : change.Link ino dir name ≡ made = cc in subst (HasNext (state_after entries)) same tt
has_next entries (what.Unlink dir name) made is fine = let same : change.Unlink dir name ≡ made = cc in subst (HasNext (state_after entries)) same tt
has_next entries (what.Rmdir dir name) made is fine = let same : change.Rmdir dir name ≡ made = cc in subst (HasNext (state_after entries)) same tt
has_next entries (what.Rename dir name to_dir to_name) made is fine = let same : change.Rename dir name to_dir to_name ≡ made = cc in subst (HasNext (state_after entries)) same tt
has_next entries (what.Chmod ino mode) made is fine = let same : change.Chmod ino mode ≡ made = cc in subst (HasNext (state_after entries)) same tt
has_next entries (what.OpenFile handle ino writable) made is fine = let same : change.OpenFile handle ino writable ≡ made = cc in subst (HasNext (state_after entries)) same tt
has_next entries (what.CloseFile handle) made is fine = let same : change.CloseFile handle ≡ made = cc in subst (HasNext (state_after entries)) same tt
has_next entries (what.Mksnap id dir name) made is fine = let same : change.Mksnap id dir name ≡ made = cc in subst (HasNext (state_after entries)) same tt
has_next entries (what.Rmsnap id) made is fine = let same : change.Rmsnap id ≡ made = cc in subst (HasNext (state_after entries)) same tt
has_next entries (what.PrepareCreate id) made is fine = cc
has_next entries (what.PrepareDestroy id) made is fine = cc
has_next entries (what.Rollback id) made is fine = cc
has_next entries (what.Settle ino follows upto size) made is fine = cc
has_next entries (what.Release ino follows size) made is fine = cc
has_next entries (what.Trim id) made is fine = cc
has_next entries (what.Purgedone id) made is fine = cc
has_next entries (what.Deadfile ino) made is fine = cc
has_next entries (what.Barrier number) made is fine = cc

-- an entry that follows a journal makes its change
pub made_by_legal : (entries : List Entry) (e : Entry) (made : Change) → is_legal entries e ≡ true → change_in e.what ≡ Some made → is_refused (state_after entries) e.client made ≡ false
made_by_legal entries e made legal is =
    let l = both_true (is_made_by (state_after entries) e.client (change_in e.what)) (fits entries e.what) legal in
    not_true (is_refused (state_after entries) e.client made) (subst (λ (c : Option Change). is_made_by (state_after entries) e.client c ≡ true) is l.0)

-- after a journal entries name inodes that were made
numbered_by : (entries : List Entry) (e : Entry) (c : Option Change) → change_in e.what ≡ c → IsNumbered (state_after entries) → is_legal entries e ≡ true → IsNumbered (with_change (state_after entries) e.client c)
numbered_by entries e None is all legal = all
numbered_by entries e (Some made) is all legal =
    let fine = made_by_legal entries e made legal is in
    let l = both_true (is_made_by (state_after entries) e.client (change_in e.what)) (fits entries e.what) legal in
    subst IsNumbered (sym (apply_made (state_after entries) e.client made fine))
    (numbered_made (state_after entries) e.client all made (has_next entries e.what made is l.1) fine)

pub numbered_after : (entries : List Entry) → is_journal entries ≡ true → IsNumbered (state_after entries)
numbered_after entries legal = of_journals (λ (done : List Entry). IsNumbered (state_after done)) (record { some = omega arith; below = tt }) more entries legal
  where
    more : (done : List Entry) (e : Entry) → IsNumbered (state_after done) → is_legal done e ≡ true → IsNumbered (state_after (done ++ e ∷ []))
    more done e all fine = subst IsNumbered (sym (state_more done e)) (numbered_by done e (change_in e.what) refl all fine)

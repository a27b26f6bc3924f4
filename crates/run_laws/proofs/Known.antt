-- What entries made stays made: a file that some entries know, more entries know.
use Rattle.std.proofs.Common.{◌≡◌, ◌≤◌, ℕ, List, [], ◌∷◌, ◌++◌, map, take, drop, fold, length, Bool, true, false, cond, Option, None, Some, refl, sym, subst}
use Rattle.std.proofs.lemmas.List.{take-append-drop}
use Rattle.std.proofs.lemmas.List.Sums.{fold-append}
use Rattle.std.specs.Prelude.{◌||◌}
use Rattle.std.specs.List.{list_any}
use Rattle.snap_ids.specs.declared.id.Ino.{Ino}
use Rattle.snap_ids.specs.declared.values.Kind.{Kind}
use Rattle.snap_ids.specs.declared.values.Kind.TheVariants.{Dir, File}
use Rattle.plain_types.specs.declared.change.Change.{Change}
use Rattle.plain_types.specs.declared.change.Change.TheVariants as change
use Rattle.plain_types.specs.declared.entry.Entry.{Entry}
use Rattle.plain_tree.specs.State.{State, Inode, Handle, start, same_ino, kind_in, new_directory}
use Rattle.plain_tree.specs.Bytes.{sized, written}
use Rattle.plain_tree.specs.Change.{is_refused, make, open_of, with_bytes, new_file}
use Rattle.plain_journal.specs.Coverage.{is_made}
use Rattle.plain_journal.specs.Entries.{change_in, with_change, after_entry, state_after}
use Rattle.plain_journal.specs.Legal.{is_made_file}
use Rattle.run_laws.proofs.Growing.{take_take}

-- the entries make this file
abbrev pub Known : List Entry → Ino → Type 0
Known entries ino = kind_in (state_after entries).inodes ino ≡ File

kind_append : (xs ys : List Inode) (ino : Ino) → kind_in xs ino ≡ File → kind_in (xs ++ ys) ino ≡ File
kind_append [] ys ino is = cc
kind_append (x ∷ xs) ys ino is = by_test (same_ino x.ino ino) is (kind_append xs ys ino)
  where
    by_test : (b : Bool) → cond b x.kind (kind_in xs ino) ≡ File → (kind_in xs ino ≡ File → kind_in (xs ++ ys) ino ≡ File) → cond b x.kind (kind_in (xs ++ ys) ino) ≡ File
    by_test true is go = is
    by_test false is go = go is

kind_map : (g : Inode → Inode) → ((x : Inode) → (g x).ino ≡ x.ino) → ((x : Inode) → (g x).kind ≡ x.kind) → (xs : List Inode) (ino : Ino) → kind_in (map g xs) ino ≡ kind_in xs ino
kind_map g same kind [] ino = refl
kind_map g same kind (x ∷ xs) ino = rw (same x, kind x, kind_map g same kind xs ino) refl

kind_bytes : (o : Option Handle) (made : List ℕ → List ℕ) (xs : List Inode) (ino : Ino) → kind_in (with_bytes o made xs) ino ≡ kind_in xs ino
kind_bytes None made xs ino = refl
kind_bytes (Some h) made xs ino = kind_map _ (λ x. refl) (λ x. refl) xs ino

kind_make : (state : State) (client : ℕ) (change : Change) (ino : Ino) → kind_in state.inodes ino ≡ File → kind_in (make state client change).inodes ino ≡ File
kind_make state client (change.Mkdir dir name new) ino is = kind_append state.inodes (new_directory new ∷ []) ino is
kind_make state client (change.Create dir name new mode) ino is = kind_append state.inodes (new_file new mode ∷ []) ino is
kind_make state client (change.Chmod new mode) ino is = rw (kind_map (λ (inode : Inode). record inode { mode = cond (same_ino inode.ino new) mode inode.mode }) (λ x. refl) (λ x. refl) state.inodes ino) is
kind_make state client (change.WriteFile handle offset bytes) ino is = rw (kind_bytes (open_of state.handles client handle) (written offset bytes) state.inodes ino) is
kind_make state client (change.Truncate handle size) ino is = rw (kind_bytes (open_of state.handles client handle) (sized size) state.inodes ino) is
kind_make state client other ino is = is

kind_after : (state : State) (e : Entry) (ino : Ino) → kind_in state.inodes ino ≡ File → kind_in (after_entry state e).inodes ino ≡ File
kind_after state e ino is = by_change (change_in e.what)
  where
    by_test : (made : Change) (b : Bool) → kind_in (cond b state (make state e.client made)).inodes ino ≡ File
    by_test made true = is
    by_test made false = kind_make state e.client made ino is

    by_change : (o : Option Change) → kind_in (with_change state e.client o).inodes ino ≡ File
    by_change None = is
    by_change (Some made) = by_test made (is_refused state e.client made)

kind_fold : (more : List Entry) (state : State) (ino : Ino) → kind_in state.inodes ino ≡ File → kind_in (fold after_entry state more).inodes ino ≡ File
kind_fold [] state ino is = is
kind_fold (e ∷ more) state ino is = kind_fold more (after_entry state e) ino (kind_after state e ino is)

pub known_more : (entries more : List Entry) (ino : Ino) → Known entries ino → Known (entries ++ more) ino
known_more entries more ino is = subst (λ (t : State). kind_in t.inodes ino ≡ File) (sym (fold-append after_entry start entries more)) (kind_fold more (state_after entries) ino is)

-- what more entries keep, longer fronts keep
pub longer : (P : List Entry → Type 0) → ((entries more : List Entry) → P entries → P (entries ++ more)) → (j k : ℕ) (entries : List Entry) → j ≤ k → k ≤ length entries → P (take j entries) → P (take k entries)
longer P grows j k entries less fits holds =
    subst P (take-append-drop j (take k entries)) (grows (take j (take k entries)) (drop j (take k entries)) (subst P (sym (take_take j k entries less fits)) holds))

pub from_front : (P : List Entry → Type 0) → ((entries more : List Entry) → P entries → P (entries ++ more)) → (j : ℕ) (entries : List Entry) → P (take j entries) → P entries
from_front P grows j entries holds = subst P (take-append-drop j entries) (grows (take j entries) (drop j entries) holds)

-- the table's test of it
made_kind : (xs : List Inode) (ino : Ino) → kind_in xs ino ≡ File → list_any (λ (inode : Inode). same_ino inode.ino ino) xs ≡ true
made_kind [] ino is = cc
made_kind (x ∷ xs) ino is = by_test (same_ino x.ino ino) is (made_kind xs ino)
  where
    by_test : (b : Bool) → cond b x.kind (kind_in xs ino) ≡ File → (kind_in xs ino ≡ File → list_any (λ (inode : Inode). same_ino inode.ino ino) xs ≡ true) → (b || list_any (λ (inode : Inode). same_ino inode.ino ino) xs) ≡ true
    by_test true is go = refl
    by_test false is go = go is

pub known_made : (entries : List Entry) (ino : Ino) → Known entries ino → is_made_file (state_after entries) ino ≡ true
known_made entries ino is = subst (λ (k : Kind). elim k as (λ _. Bool) [ Dir ↦ false | File ↦ is_made (state_after entries) ino ] ≡ true) (sym is) (made_kind (state_after entries).inodes ino is)

pub made_known : (entries : List Entry) (ino : Ino) → is_made_file (state_after entries) ino ≡ true → Known entries ino
made_known entries ino is = by_kind (kind_in (state_after entries).inodes ino) is
  where
    by_kind : (k : Kind) → elim k as (λ _. Bool) [ Dir ↦ false | File ↦ is_made (state_after entries) ino ] ≡ true → k ≡ File
    by_kind Dir is = cc
    by_kind File is = refl

-- A file that was made stays one.
use Rattle.std.proofs.Common.{◌≡◌, ℕ, List, [], ◌∷◌, ◌++◌, map, Bool, true, false, cond, ◌||◌, ◌&&◌, Option, None, Some, refl, sym, subst}
use Rattle.std.specs.List.{list_any, list_all}
use Rattle.snap_ids.specs.declared.id.Ino.{Ino}
use Rattle.snap_ids.specs.declared.values.Kind.{Kind}
use Rattle.snap_ids.specs.declared.values.Kind.TheVariants.{Dir, File}
use Rattle.plain_types.specs.declared.change.Change.{Change}
use Rattle.plain_types.specs.declared.change.Change.TheVariants as change
use Rattle.plain_types.specs.declared.entry.Entry.{Entry}
use Rattle.plain_tree.specs.State.{State, Inode, Handle, same_ino, kind_in, new_directory}
use Rattle.plain_tree.specs.Bytes.{sized, written}
use Rattle.plain_tree.specs.Change.{is_refused, make, open_of, with_bytes, new_file}
use Rattle.plain_journal.specs.Coverage.{is_made}
use Rattle.plain_journal.specs.Entries.{change_in, with_change, after_entry, state_after}
use Rattle.plain_journal.specs.Legal.{is_made_file}
use Rattle.journal_laws.proofs.Steps.{state_more}
use Rattle.step_table.specs.ServerState.{Holder}
use Rattle.mds_state.specs.Stands.{is_of_file}

kind_append : (xs ys : List Inode) (ino : Ino) → kind_in xs ino ≡ File → kind_in (xs ++ ys) ino ≡ File
kind_append [] ys ino is = cc
kind_append (x ∷ xs) ys ino is = by_test (same_ino x.ino ino) is (kind_append xs ys ino)
  where
    by_test : (b : Bool) → cond b x.kind (kind_in xs ino) ≡ File → (kind_in xs ino ≡ File → kind_in (xs ++ ys) ino ≡ File) → cond b x.kind (kind_in (xs ++ ys) ino) ≡ File
    by_test true is go = is
    by_test false is go = go is

kind_map : (g : Inode → Inode) → ((x : Inode) → (g x).ino ≡ x.ino) → ((x : Inode) → (g x).kind ≡ x.kind) → (xs : List Inode) (ino : Ino) → kind_in (map g xs) ino ≡ kind_in xs ino
kind_map g same kind [] ino = refl
kind_map g same kind (x ∷ xs) ino = rw (same x, kind x, kind_map g same kind xs ino) refl

kind_bytes : (o : Option Handle) (made : List ℕ → List ℕ) (xs : List Inode) (ino : Ino) → kind_in (with_bytes o made xs) ino ≡ kind_in xs ino
kind_bytes None made xs ino = refl
kind_bytes (Some h) made xs ino = kind_map _ (λ x. refl) (λ x. refl) xs ino

kind_make : (state : State) (client : ℕ) (change : Change) (ino : Ino) → kind_in state.inodes ino ≡ File → kind_in (make state client change).inodes ino ≡ File
kind_make state client (change.Mkdir dir name new) ino is = kind_append state.inodes (new_directory new ∷ []) ino is
kind_make state client (change.Create dir name new mode) ino is = kind_append state.inodes (new_file new mode ∷ []) ino is
kind_make state client (change.Chmod new mode) ino is = rw (kind_map (λ (inode : Inode). record inode { mode = cond (same_ino inode.ino new) mode inode.mode }) (λ x. refl) (λ x. refl) state.inodes ino) is
kind_make state client (change.WriteFile handle offset bytes) ino is = rw (kind_bytes (open_of state.handles client handle) (written offset bytes) state.inodes ino) is
kind_make state client (change.Truncate handle size) ino is = rw (kind_bytes (open_of state.handles client handle) (sized size) state.inodes ino) is
kind_make state client other ino is = is

kind_after : (state : State) (e : Entry) (ino : Ino) → kind_in state.inodes ino ≡ File → kind_in (after_entry state e).inodes ino ≡ File
kind_after state e ino is = by_change (change_in e.what)
  where
    by_test : (made : Change) (b : Bool) → kind_in (cond b state (make state e.client made)).inodes ino ≡ File
    by_test made true = is
    by_test made false = kind_make state e.client made ino is

    by_change : (o : Option Change) → kind_in (with_change state e.client o).inodes ino ≡ File
    by_change None = is
    by_change (Some made) = by_test made (is_refused state e.client made)

made_kind : (xs : List Inode) (ino : Ino) → kind_in xs ino ≡ File → list_any (λ (inode : Inode). same_ino inode.ino ino) xs ≡ true
made_kind [] ino is = cc
made_kind (x ∷ xs) ino is = by_test (same_ino x.ino ino) is (made_kind xs ino)
  where
    by_test : (b : Bool) → cond b x.kind (kind_in xs ino) ≡ File → (kind_in xs ino ≡ File → list_any (λ (inode : Inode). same_ino inode.ino ino) xs ≡ true) → (b || list_any (λ (inode : Inode). same_ino inode.ino ino) xs) ≡ true
    by_test true is go = refl
    by_test false is go = go is

file_of : (state : State) (ino : Ino) → kind_in state.inodes ino ≡ File → is_made_file state ino ≡ true
file_of state ino is = subst (λ (k : Kind). elim k as (λ _. Bool) [ Dir ↦ false | File ↦ is_made state ino ] ≡ true) (sym is) (made_kind state.inodes ino is)

kind_of_file : (k : Kind) (made : Bool) → elim k as (λ _. Bool) [ Dir ↦ false | File ↦ made ] ≡ true → k ≡ File
kind_of_file Dir made is = cc
kind_of_file File made is = refl

pub made_more : (entries : List Entry) (e : Entry) (ino : Ino) → is_made_file (state_after entries) ino ≡ true → is_made_file (state_after (entries ++ e ∷ [])) ino ≡ true
made_more entries e ino is =
    subst (λ (state : State). is_made_file state ino ≡ true) (sym (state_more entries e))
    (file_of (after_entry (state_after entries) e) ino (kind_after (state_after entries) e ino (kind_of_file (kind_in (state_after entries).inodes ino) (is_made (state_after entries) ino) is)))

-- so the files that are held stay files
pub files_more : (entries : List Entry) (e : Entry) (holders : List Holder) → list_all (is_of_file entries) holders ≡ true → list_all (is_of_file (entries ++ e ∷ [])) holders ≡ true
files_more entries e [] all = refl
files_more entries e (h ∷ holders) all = go (is_of_file entries h) (is_of_file (entries ++ e ∷ []) h) (made_more entries e h.ino) all (files_more entries e holders)
  where
    go : (a b : Bool) → (a ≡ true → b ≡ true) → (a && list_all (is_of_file entries) holders) ≡ true → (list_all (is_of_file entries) holders ≡ true → list_all (is_of_file (entries ++ e ∷ [])) holders ≡ true) → (b && list_all (is_of_file (entries ++ e ∷ [])) holders) ≡ true
    go true true later all rest = rest all
    go true false later all rest = let never = later refl in cc
    go false b later all rest = cc

-- No file has bytes after entries.
use Rattle.std.proofs.Common.{◌≡◌, ℕ, List, [], ◌∷◌, ◌++◌, true, false, cond, Option, None, Some, refl}
use Rattle.std.specs.Prelude.{fold}
use Rattle.snap_ids.specs.declared.id.Ino.{Ino}
use Rattle.plain_types.specs.declared.change.Change.{Change}
use Rattle.plain_types.specs.declared.change.Change.TheVariants as change
use Rattle.plain_types.specs.declared.entry.Entry.{Entry}
use Rattle.plain_types.specs.declared.entry.What.{What}
use Rattle.plain_types.specs.declared.entry.What.TheVariants as what
use Rattle.plain_tree.specs.State.{State, Inode, start, same_ino, inode_in}
use Rattle.plain_tree.specs.Change.{is_refused, make, with_mode}
use Rattle.plain_tree.specs.Query.{bytes_in}
use Rattle.plain_journal.specs.Entries.{change_in, with_change, after_entry, state_after}

abbrev AllEmpty : List Inode → Type 0
AllEmpty [] = Unit {0}
AllEmpty (inode ∷ inodes) = (inode.bytes ≡ []) × AllEmpty inodes

-- a change of what is written down writes no bytes
abbrev NoBytes : Change → Type 0
NoBytes (change.WriteFile handle offset bytes) = ⊥
NoBytes (change.Truncate handle size) = ⊥
NoBytes other = Unit {0}

abbrev SomeNoBytes : Option Change → Type 0
SomeNoBytes None = Unit {0}
SomeNoBytes (Some made) = NoBytes made

no_bytes : (w : What) → SomeNoBytes (change_in w)
no_bytes (what.Mkdir d n i) = tt
no_bytes (what.Create d n i m) = tt
no_bytes (what.Link i d n) = tt
no_bytes (what.Unlink d n) = tt
no_bytes (what.Rmdir d n) = tt
no_bytes (what.Rename d n td tn) = tt
no_bytes (what.Chmod i m) = tt
no_bytes (what.OpenFile h i w) = tt
no_bytes (what.CloseFile h) = tt
no_bytes (what.Mksnap id d n) = tt
no_bytes (what.Rmsnap id) = tt
no_bytes w = tt

empty_push : (inodes : List Inode) (inode : Inode) → AllEmpty inodes → inode.bytes ≡ [] → AllEmpty (inodes ++ inode ∷ [])
empty_push [] inode all is = (is, tt)
empty_push (first ∷ inodes) inode all is = (all.0, empty_push inodes inode all.1 is)

empty_mode : (ino : Ino) (mode : ℕ) (inodes : List Inode) → AllEmpty inodes → AllEmpty (with_mode ino mode inodes)
empty_mode ino mode [] all = tt
empty_mode ino mode (inode ∷ inodes) all = (all.0, empty_mode ino mode inodes all.1)

empty_make : (state : State) (client : ℕ) (made : Change) → NoBytes made → AllEmpty state.inodes → AllEmpty (make state client made).inodes
empty_make state client (change.Mkdir dir name ino) none all = empty_push state.inodes _ all refl
empty_make state client (change.Create dir name ino mode) none all = empty_push state.inodes _ all refl
empty_make state client (change.Chmod ino mode) none all = empty_mode ino mode state.inodes all
empty_make state client (change.WriteFile handle offset bytes) none all = absurd none
empty_make state client (change.Truncate handle size) none all = absurd none
empty_make state client made none all = all

empty_entry : (state : State) (client : ℕ) (o : Option Change) → SomeNoBytes o → AllEmpty state.inodes → AllEmpty (with_change state client o).inodes
empty_entry state client None none all = all
empty_entry state client (Some made) none all = elim (is_refused state client made) as (λ b. AllEmpty (cond b state (make state client made)).inodes) [
  | true ↦ all
  | false ↦ empty_make state client made none all
]

empty_fold : (state : State) (entries : List Entry) → AllEmpty state.inodes → AllEmpty (fold after_entry state entries).inodes
empty_fold state [] all = all
empty_fold state (e ∷ entries) all = empty_fold (after_entry state e) entries (empty_entry state e.client (change_in e.what) (no_bytes e.what) all)

empty_in : (inodes : List Inode) (ino : Ino) → AllEmpty inodes → (inode_in inodes ino).bytes ≡ []
empty_in [] ino all = refl
empty_in (inode ∷ inodes) ino all = elim (same_ino inode.ino ino) as (λ b. (cond b inode (inode_in inodes ino)).bytes ≡ []) [
  | true ↦ all.0
  | false ↦ empty_in inodes ino all.1
]

-- no inode has bytes
pub bytes_none : (entries : List Entry) (ino : Ino) → bytes_in (state_after entries) ino ≡ []
bytes_none entries ino = empty_in (state_after entries).inodes ino (empty_fold start entries (refl, tt))

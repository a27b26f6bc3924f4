-- The plain state after journal entries.
use Rattle.std.specs.Prelude.{ℕ, Bool, false, ◌==◌, List, [], ◌∷◌, fold, if◌then◌else◌, Option, None, Some}
use Rattle.snap_ids.specs.declared.id.SnapId.{SnapId}
use Rattle.plain_types.specs.declared.change.Change.{Change}
use Rattle.plain_types.specs.declared.change.Change.TheVariants as change
use Rattle.plain_types.specs.declared.entry.Entry.{Entry}
use Rattle.plain_types.specs.declared.entry.What.{What}
use Rattle.plain_types.specs.declared.entry.What.TheVariants.{Mkdir, Create, Link, Unlink, Rmdir, Rename, Chmod, OpenFile, CloseFile, PrepareCreate, PrepareDestroy, Mksnap, Rmsnap, Rollback, Settle, Release, Trim, Purgedone, Deadfile, Barrier}
use Rattle.plain_tree.specs.State.{State, start}
use Rattle.plain_tree.specs.Change.{apply}

-- the change of the tree that an entry says
abbrev pub change_in : What → Option Change
change_in (Mkdir dir name ino) = Some (change.Mkdir dir name ino)
change_in (Create dir name ino mode) = Some (change.Create dir name ino mode)
change_in (Link ino dir name) = Some (change.Link ino dir name)
change_in (Unlink dir name) = Some (change.Unlink dir name)
change_in (Rmdir dir name) = Some (change.Rmdir dir name)
change_in (Rename dir name to_dir to_name) = Some (change.Rename dir name to_dir to_name)
change_in (Chmod ino mode) = Some (change.Chmod ino mode)
change_in (OpenFile handle ino writable) = Some (change.OpenFile handle ino writable)
change_in (CloseFile handle) = Some (change.CloseFile handle)
change_in (Mksnap id dir name) = Some (change.Mksnap id dir name)
change_in (Rmsnap id) = Some (change.Rmsnap id)
change_in (PrepareCreate id) = None
change_in (PrepareDestroy id) = None
change_in (Rollback id) = None
change_in (Settle ino follows upto size) = None
change_in (Release ino follows size) = None
change_in (Trim id) = None
change_in (Purgedone id) = None
change_in (Deadfile ino) = None
change_in (Barrier number) = None

abbrev pub with_change : State → ℕ → Option Change → State
with_change state client None = state
with_change state client (Some change) = apply state client change

-- the plain state after one more entry
abbrev pub after_entry : State → Entry → State
after_entry state entry = with_change state entry.client (change_in entry.what)

-- the plain state after the entries of a journal; a file's bytes are no entries
abbrev pub state_after : List Entry → State
state_after entries = fold after_entry start entries

-- an entry makes this snapshot
abbrev pub makes_snap : SnapId → What → Bool
makes_snap s (Mksnap id dir name) = id.0 == s.0
makes_snap s what = false

-- the entries before the one that makes a snapshot; all of them where none does
abbrev pub before_snap : SnapId → List Entry → List Entry
before_snap s [] = []
before_snap s (entry ∷ entries) = if makes_snap s entry.what then [] else entry ∷ before_snap s entries

-- The tree as a snapshot has it: after the entries before the one that made it. For an id that no entry made, as that of
-- what is live, it is the tree after all.
abbrev pub tree_at : List Entry → SnapId → State
tree_at entries s = state_after (before_snap s entries)

-- the id of the last snapshot that was made, 1 before the first
abbrev pub applied_by : ℕ → What → ℕ
applied_by before (Mksnap id dir name) = id.0
applied_by before what = before

abbrev pub applied : List Entry → ℕ
applied entries = fold (λ before (entry : Entry). applied_by before entry.what) 1 entries

-- What a journal says of the files in use.
use Rattle.std.specs.Prelude.{ℕ, Bool, true, false, List, length, map, filter}
use Rattle.snap_ids.specs.declared.id.Ino.{Ino}
use Rattle.snap_ids.specs.declared.values.Kind.TheVariants.{Dir, File}
use Rattle.plain_types.specs.declared.entry.Entry.{Entry}
use Rattle.plain_types.specs.declared.entry.What.{What}
use Rattle.plain_types.specs.declared.entry.What.TheVariants.{Chmod, PrepareCreate, Mksnap, PrepareDestroy, Rmsnap, Rollback, Settle, Release, Trim, Purgedone, Barrier}
use Rattle.plain_tree.specs.State.{State, Inode}
use Rattle.plain_tree.specs.Walk.{names_of}
use Rattle.plain_journal.specs.Entries.{state_after}
use Rattle.plain_journal.specs.Table.{is_collected}
use Rattle.file_uses.specs.declared.files.FileUse.{FileUse}
use Rattle.file_uses.specs.Uses.{Uses}

abbrev pub is_regular : Inode → Bool
is_regular inode = elim inode.kind [ Dir ↦ false | File ↦ true ]

-- what is known of a file: how many entries name it, and whether the store has dropped it
abbrev pub use_in : State → (Ino → Bool) → Inode → ℕ × FileUse
use_in state collected inode = (inode.ino.0, record { names = length (names_of state.entries inode.ino); dropped = collected inode.ino })

-- all files that were made, and the open handles
abbrev pub uses_in : State → (Ino → Bool) → Uses
uses_in state collected = record { files = map (use_in state collected) (filter is_regular state.inodes); handles = state.handles }

-- what the entries of a journal say of the files in use
abbrev pub uses_after : List Entry → Uses
uses_after entries = uses_in (state_after entries) (is_collected entries)

-- the entry says nothing of names, handles and dropped files
abbrev pub keeps_uses : What → Bool
keeps_uses (Chmod ino mode) = true
keeps_uses (PrepareCreate id) = true
keeps_uses (Mksnap id dir name) = true
keeps_uses (PrepareDestroy id) = true
keeps_uses (Rmsnap id) = true
keeps_uses (Rollback id) = true
keeps_uses (Settle ino follows upto size) = true
keeps_uses (Release ino follows size) = true
keeps_uses (Trim id) = true
keeps_uses (Purgedone id) = true
keeps_uses (Barrier number) = true
keeps_uses what = false

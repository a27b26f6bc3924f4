-- The story of realms that the entries of a journal tell.
use Rattle.std.specs.Prelude.{◌==◌, ◌&&◌, List, [], ◌∷◌, if◌then◌else◌, Option, None, Some}
use Rattle.snap_ids.specs.declared.id.Ino.{Ino}
use Rattle.snap_ids.specs.declared.id.SnapId.{SnapId}
use Rattle.snap_ids.specs.declared.id.TheConstants.{STRAY}
use Rattle.plain_types.specs.declared.entry.Entry.{Entry}
use Rattle.plain_types.specs.declared.entry.What.{What}
use Rattle.plain_types.specs.declared.entry.What.TheVariants.{Mkdir, Create, Link, Unlink, Rmdir, Rename, Mksnap, Rmsnap, Purgedone}
use Rattle.plain_tree.specs.State.{State, lookup}
use Rattle.plain_tree.specs.State.{start as empty}
use Rattle.plain_journal.specs.Entries.{after_entry}
use Rattle.realm_story.specs.Family.{Family, Made, start, born, add_snap, drop_snap, purged, move_to, to_global, forget}

-- what has a name is moved below a directory
abbrev pub move_found : Option Ino → Ino → Family → Family
move_found None parent family = family
move_found (Some ino) parent family = move_to ino parent family

-- what has a name is there no more
abbrev pub forget_found : Option Ino → Family → Family
forget_found None family = family
forget_found (Some ino) family = forget ino family

-- the live snapshot with an id
abbrev pub snap_of : List Made → SnapId → Option Made
snap_of [] id = None
snap_of (snap ∷ snaps) id = if snap.live && snap.id.0 == id.0 then Some snap else snap_of snaps id

-- a snapshot loses its name
abbrev pub drop_found : Option Made → Family → Family
drop_found None family = family
drop_found (Some snap) family = drop_snap snap.root snap.name family

-- The story after one more entry, where the plain state was such before it. A file that loses its last name is moved below
-- the stray root; one that ever had two names is in the global realm, and no move changes it. A directory that is removed
-- is there no more.
abbrev pub told : State → What → Family → Family
told state (Mkdir dir name ino) family = born ino dir family
told state (Create dir name ino mode) family = born ino dir family
told state (Link ino dir name) family = to_global ino family
told state (Unlink dir name) family = move_found (lookup state.entries dir name) STRAY family
told state (Rmdir dir name) family = forget_found (lookup state.entries dir name) family
told state (Rename dir name to_dir to_name) family = move_found (lookup state.entries dir name) to_dir family
told state (Mksnap id dir name) family = add_snap dir id name family
told state (Rmsnap id) family = drop_found (snap_of family.snaps id) family
told state (Purgedone id) family = purged id family
told state what family = family

-- the story after the entries that follow a state and a story
abbrev pub told_from : State → Family → List Entry → Family
told_from state family [] = family
told_from state family (entry ∷ entries) = told_from (after_entry state entry) (told state entry.what family) entries

-- the story of realms that the entries of a journal tell
abbrev pub family_of : List Entry → Family
family_of entries = told_from empty start entries

-- The realm that contains an inode, and the names in a directory's `.snap`. Ceph developer guide, CephFS Snapshots: a realm
-- is made where a snapshot is made at a new point of the tree, and where an inode is moved out of its parent's realm.
use Rattle.std.specs.Prelude.{ℕ, zero, suc, Bool, true, false, ◌||◌, ◌&&◌, ◌==◌, nat_le, List, [], ◌∷◌, ◌++◌, length, map, filter, if◌then◌else◌, codes, Option, None, Some}
use Rattle.std.specs.List.{list_any}
use Rattle.std.specs.Fmt.{digits_onto}
use Rattle.snap_ids.specs.declared.id.Ino.{Ino}
use Rattle.snap_ids.specs.declared.id.SnapId.{SnapId}
use Rattle.snap_ids.specs.declared.id.TheConstants.{STRAY, GLOBAL}
use Rattle.plain_types.specs.declared.entry.Entry.{Entry}
use Rattle.plain_types.specs.declared.entry.What.{What}
use Rattle.plain_types.specs.declared.entry.What.TheVariants.{Mksnap, Rename, Unlink}
use Rattle.plain_tree.specs.State.{State, Snapshot, start, same_ino, lookup}
use Rattle.plain_tree.specs.State.{Entry as Dentry}
use Rattle.plain_tree.specs.Walk.{names_of}
use Rattle.plain_journal.specs.Entries.{after_entry, state_after}
use Rattle.plain_journal.specs.Coverage.{has_two_names, is_global, covering}

-- the directory of an inode's name; what has none is a stray
abbrev pub directory_of : List Dentry → Ino
directory_of [] = STRAY
directory_of (entry ∷ more) = entry.dir

abbrev pub parent_in : State → Ino → Ino
parent_in state ino = directory_of (names_of state.entries ino)

-- an inode begins a realm: one of the three roots, or one that is marked
abbrev pub begins_realm : List Ino → Ino → Bool
begins_realm marked ino = nat_le ino.0 GLOBAL.0 || list_any (same_ino ino) marked

-- the nearest inode on the way up that begins a realm, over at most so many entries
abbrev pub nearest : ℕ → List Ino → State → Ino → Ino
nearest zero marked state ino = ino
nearest (suc more) marked state ino =
    elim (begins_realm marked ino) [ true ↦ ino | false ↦ nearest more marked state (parent_in state ino) ]

abbrev pub realm_in : List Ino → State → Ino → Ino
realm_in marked state ino = nearest (suc (length state.inodes)) marked state ino

-- the marks after an inode was moved from one directory to another: it is marked where they are in different realms
abbrev pub moved : List Ino → State → Ino → Ino → Option Ino → List Ino
moved marked state from to None = marked
moved marked state from to (Some ino) =
    if same_ino (realm_in marked state from) (realm_in marked state to) then marked else ino ∷ marked

-- the same of an inode that loses a name, and with its last one becomes a stray
abbrev pub strayed : List Ino → State → Ino → Option Ino → List Ino
strayed marked state from None = marked
strayed marked state from (Some ino) =
    if has_two_names state ino then marked else moved marked state from STRAY (Some ino)

-- the marks after an entry that follows a state
abbrev pub mark_by : List Ino → State → What → List Ino
mark_by marked state (Mksnap id dir name) = dir ∷ marked
mark_by marked state (Rename dir name to_dir to_name) = moved marked state dir to_dir (lookup state.entries dir name)
mark_by marked state (Unlink dir name) = strayed marked state dir (lookup state.entries dir name)
mark_by marked state what = marked

abbrev pub marks_from : List Ino → State → List Entry → List Ino
marks_from marked state [] = marked
marks_from marked state (entry ∷ entries) = marks_from (mark_by marked state entry.what) (after_entry state entry) entries

-- the inodes that begin a realm beside the three roots
abbrev pub marks : List Entry → List Ino
marks entries = marks_from [] start entries

-- the inode at which the realm that contains an inode begins
abbrev pub realm_at : List Entry → Ino → Ino
realm_at entries ino = if is_global entries ino then GLOBAL else realm_in (marks entries) (state_after entries) ino

-- the name under which a directory shows a snapshot of another: `_NAME_INO`
abbrev pub inherited_name : Snapshot → List ℕ
inherited_name snap = codes "_" ++ snap.name ++ codes "_" ++ digits_onto 64 10 false snap.root.0 []

-- the name under which a directory shows a snapshot
abbrev pub name_shown : Ino → Snapshot → List ℕ
name_shown dir snap = if same_ino snap.root dir then snap.name else inherited_name snap

-- the live snapshots that cover a directory, with their names there
abbrev pub shown : List Entry → Ino → List (List ℕ × SnapId)
shown entries dir =
    let ids = covering entries dir in
    map (λ (snap : Snapshot). (name_shown dir snap, snap.id))
    (filter (λ (snap : Snapshot). snap.live && list_any (λ (s : SnapId). s.0 == snap.id.0) ids) (state_after entries).snaps)

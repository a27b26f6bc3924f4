-- What each change does to the plain state, and when it is refused.
use Rattle.std.specs.Prelude.{ℕ, ◌+◌, Bool, true, false, not, ◌||◌, ◌&&◌, ◌==◌, nat_lt, List, [], ◌∷◌, ◌++◌, length, map, filter, find, fold, is_some, if◌then◌else◌, Option, None, Some}
use Rattle.std.specs.List.{list_any}
use Rattle.snap_ids.specs.declared.id.Ino.{Ino}
use Rattle.snap_ids.specs.declared.id.SnapId.{SnapId}
use Rattle.snap_ids.specs.declared.values.Kind.TheVariants.{Dir, File}
use Rattle.snap_ids.specs.Name.{is_new, is_new_snap}
use Rattle.plain_types.specs.declared.change.Change.{Change}
use Rattle.plain_types.specs.declared.change.Change.TheVariants.{Mkdir, Create, Link, Unlink, Rmdir, Rename, Chmod, OpenFile, CloseFile, Mksnap, Rmsnap, WriteFile, Truncate}
use Rattle.plain_types.specs.declared.change.Effect.{Effect}
use Rattle.plain_tree.specs.State.{State, Entry, Inode, Handle, Snapshot, start, new_directory, same_ino, is_there, is_named, kind_in, is_at, lookup, add}
use Rattle.plain_tree.specs.Walk.{is_under}
use Rattle.plain_tree.specs.Bytes.{sized, written}

abbrev pub is_directory : State → Ino → Bool
is_directory state ino = elim (kind_in state.inodes ino) [ Dir ↦ is_there state.entries ino | File ↦ false ]

abbrev pub is_file : State → Ino → Bool
is_file state ino = elim (kind_in state.inodes ino) [ Dir ↦ false | File ↦ is_there state.entries ino ]

-- an inode that passes the test has the name
abbrev pub names_one : (Ino → Bool) → Option Ino → Bool
names_one test None = false
names_one test (Some ino) = test ino

-- a directory can get an entry of this name: it is there, and the name can be new and is free
abbrev pub is_free : State → Ino → List ℕ → Bool
is_free state dir name = is_directory state dir && is_new name && not (is_some (lookup state.entries dir name))

-- a snapshot that roots at the directory and is live
abbrev pub is_own : Ino → Snapshot → Bool
is_own dir snap = snap.live && same_ino snap.root dir

abbrev pub is_live : Snapshot → Bool
is_live snap = snap.live

-- the live snapshot of a directory that has a name
abbrev pub own_snap : List Snapshot → Ino → List ℕ → Option Snapshot
own_snap snaps dir name = find (is_named dir name) snaps

-- a directory can have 100 live snapshots, as is Ceph's usual default
abbrev pub has_all_snaps : List Snapshot → Ino → Bool
has_all_snaps snaps dir = nat_lt 99 (length (filter (is_own dir) snaps))

-- there can be 128 live snapshots in all
abbrev pub are_all_live : List Snapshot → Bool
are_all_live snaps = nat_lt 127 (length (filter is_live snaps))

-- a directory can get a snapshot of this name
abbrev pub is_free_snap : State → Ino → List ℕ → Bool
is_free_snap state dir name =
    is_directory state dir && is_new_snap name && not (is_some (own_snap state.snaps dir name))
    && not (has_all_snaps state.snaps dir) && not (are_all_live state.snaps)

-- Ceph developer guide, CephFS Snapshots: a directory that roots snapshots can't be removed
abbrev pub is_removable : State → Ino → Bool
is_removable state ino =
    is_directory state ino && not (list_any (is_own ino) state.snaps)
    && not (list_any (λ (entry : Entry). same_ino entry.dir ino) state.entries)

-- an inode can be moved to a directory that is neither itself nor below it
abbrev pub is_movable : State → Ino → Ino → Bool
is_movable state to_dir ino = not (is_under state.entries to_dir ino)

abbrev pub is_handle : ℕ → ℕ → Handle → Bool
is_handle client handle opened = opened.client == client && opened.handle == handle

-- what a client has open under a number
abbrev pub open_of : List Handle → ℕ → ℕ → Option Handle
open_of handles client handle = find (is_handle client handle) handles

abbrev pub is_writable : Option Handle → Bool
is_writable None = false
is_writable (Some opened) = opened.writable

-- a file has at most 65,536 bytes
abbrev pub is_too_large : ℕ → Bool
is_too_large size = nat_lt 65536 size

abbrev pub is_refused : State → ℕ → Change → Bool
is_refused state client (Mkdir dir name ino) = not (is_free state dir name)
is_refused state client (Create dir name ino mode) = not (is_free state dir name)
is_refused state client (Link ino dir name) = not (is_file state ino && is_free state dir name)
is_refused state client (Unlink dir name) = not (names_one (is_file state) (lookup state.entries dir name))
is_refused state client (Rmdir dir name) = not (names_one (is_removable state) (lookup state.entries dir name))
is_refused state client (Rename dir name to_dir to_name) =
    not (names_one (is_movable state to_dir) (lookup state.entries dir name) && is_free state to_dir to_name)
is_refused state client (Chmod ino mode) = not (is_there state.entries ino)
is_refused state client (OpenFile handle ino writable) = is_some (open_of state.handles client handle) || not (is_file state ino)
is_refused state client (CloseFile handle) = not (is_some (open_of state.handles client handle))
is_refused state client (Mksnap id dir name) = not (is_free_snap state dir name)
is_refused state client (Rmsnap id) = not (list_any (λ (snap : Snapshot). snap.live && snap.id.0 == id.0) state.snaps)
is_refused state client (WriteFile handle offset bytes) =
    not (is_writable (open_of state.handles client handle)) || is_too_large (offset + length bytes)
is_refused state client (Truncate handle size) = not (is_writable (open_of state.handles client handle)) || is_too_large size

-- a new file without bytes
abbrev pub new_file : Ino → ℕ → Inode
new_file ino mode = record { ino = ino; kind = File; mode = mode; bytes = [] }

abbrev pub entry : Ino → List ℕ → Ino → Entry
entry dir name ino = record { dir = dir; name = name; ino = ino }

-- the entries without one name
abbrev pub without : Ino → List ℕ → List Entry → List Entry
without dir name entries = filter (λ e. not (is_at dir name e)) entries

-- the entries with an inode under another name
abbrev pub renamed : Option Ino → Ino → List ℕ → Ino → List ℕ → List Entry → List Entry
renamed None dir name to_dir to_name entries = entries
renamed (Some ino) dir name to_dir to_name entries = add (entry to_dir to_name ino) (without dir name entries)

abbrev pub with_mode : Ino → ℕ → List Inode → List Inode
with_mode ino mode inodes = map (λ (inode : Inode). record inode { mode = if same_ino inode.ino ino then mode else inode.mode }) inodes

-- the inodes, where this is made of the bytes of an open file
abbrev pub with_bytes : Option Handle → (List ℕ → List ℕ) → List Inode → List Inode
with_bytes None made inodes = inodes
with_bytes (Some opened) made inodes =
    map (λ (inode : Inode). record inode { bytes = if same_ino inode.ino opened.ino then made inode.bytes else inode.bytes }) inodes

-- a removed snapshot is live no more
abbrev pub removed : SnapId → List Snapshot → List Snapshot
removed id snaps = map (λ (snap : Snapshot). record snap { live = snap.live && not (snap.id.0 == id.0) }) snaps

-- the state with a client's change made
abbrev pub make : State → ℕ → Change → State
make state client (Mkdir dir name ino) = record state {
  entries = add (entry dir name ino) state.entries;
  inodes = state.inodes ++ new_directory ino ∷ [];
}
make state client (Create dir name ino mode) = record state {
  entries = add (entry dir name ino) state.entries;
  inodes = state.inodes ++ new_file ino mode ∷ [];
}
make state client (Link ino dir name) = record state { entries = add (entry dir name ino) state.entries }
make state client (Unlink dir name) = record state { entries = without dir name state.entries }
make state client (Rmdir dir name) = record state { entries = without dir name state.entries }
make state client (Rename dir name to_dir to_name) = record state {
  entries = renamed (lookup state.entries dir name) dir name to_dir to_name state.entries;
}
make state client (Chmod ino mode) = record state { inodes = with_mode ino mode state.inodes }
make state client (OpenFile handle ino writable) = record state {
  handles = state.handles ++ record { client = client; handle = handle; ino = ino; writable = writable } ∷ [];
}
make state client (CloseFile handle) = record state { handles = filter (λ opened. not (is_handle client handle opened)) state.handles }
make state client (Mksnap id dir name) = record state {
  snaps = state.snaps ++ record { id = id; root = dir; name = name; live = true } ∷ [];
}
make state client (Rmsnap id) = record state { snaps = removed id state.snaps }
make state client (WriteFile handle offset bytes) = record state {
  inodes = with_bytes (open_of state.handles client handle) (written offset bytes) state.inodes;
}
make state client (Truncate handle size) = record state {
  inodes = with_bytes (open_of state.handles client handle) (sized size) state.inodes;
}

-- the state after a client's change; one that is refused leaves it
abbrev pub apply : State → ℕ → Change → State
apply state client change = if is_refused state client change then state else make state client change

-- the state after effects, the first of them first
abbrev pub state_after : List Effect → State
state_after effects = fold (λ state effect. apply state effect.client effect.change) start effects

-- What a request for a change comes to, with the refusals in their order.
use Rattle.std.specs.Prelude.{ℕ, ◌-◌, Bool, not, List, [], ◌∷◌, length, take, if◌then◌else◌, slice_get, is_some, Option, None, Some, Result, Ok, Err}
use Rattle.std.specs.List.{list_any}
use Rattle.snap_ids.specs.declared.id.Ino.{Ino}
use Rattle.snap_ids.specs.declared.id.SnapId.{SnapId}
use Rattle.snap_ids.specs.declared.id.TheConstants.{ROOT}
use Rattle.snap_ids.specs.declared.values.Kind.{Kind}
use Rattle.snap_ids.specs.declared.values.Kind.TheVariants.{Dir, File}
use Rattle.snap_ids.specs.Name.{is_new, is_new_snap}
use Rattle.snap_ids.specs.Path.{Place, Live, Snaps, InSnap, place_of}
use Rattle.plain_types.specs.declared.answer.Refusal.{Refusal}
use Rattle.plain_types.specs.declared.answer.Refusal.TheVariants.{BadName, Exists, NotDir, IsDir, NotEmpty, HasSnapshots, ReadOnly, NoSnap, BadHandle, IntoItself, TooManySnaps, TooManyLive}
use Rattle.plain_types.specs.declared.change.Change.{Change}
use Rattle.plain_types.specs.declared.change.Change.TheVariants as change
use Rattle.plain_types.specs.declared.request.Request.{Request}
use Rattle.plain_types.specs.declared.request.Request.TheVariants as request
use Rattle.plain_tree.specs.State.{State, Entry, Snapshot, kind_in, same_ino, lookup, next_ino}
use Rattle.plain_tree.specs.Walk.{walk, is_under}
use Rattle.plain_tree.specs.Change.{entry, own_snap, is_own, has_all_snaps, are_all_live, open_of}

-- what is done with a value; an error stays
abbrev pub and_then : {A B : Type 0} → Result A Refusal → (A → Result B Refusal) → Result B Refusal
and_then (Ok value) go_on = go_on value
and_then (Err refusal) go_on = Err refusal

-- what a tree is now: its entries, and what each inode is
pub record Tree : Type 0 where
  pub kind : Ino → Kind
  pub entries : List Entry

abbrev pub tree_of : State → Tree
tree_of state = record { kind = kind_in state.inodes; entries = state.entries }

-- the inode at the end of a path from the root
abbrev pub walk_live : Tree → List (List ℕ) → Result Ino Refusal
walk_live tree path = walk tree.kind tree.entries ROOT path

-- a file stands where a directory is needed
abbrev pub in_directory : {A : Type 0} → Kind → Result A Refusal → Result A Refusal
in_directory Dir result = result
in_directory File result = Err NotDir

-- a directory stands where a file is needed
abbrev pub on_file : {A : Type 0} → Kind → Result A Refusal → Result A Refusal
on_file Dir result = Err IsDir
on_file File result = result

-- what is done with a path's last name and the inode that the others lead to; `/` has no last name
abbrev pub in_parent : {A : Type 0} → Tree → List (List ℕ) → (List ℕ → Ino → Result A Refusal) → Result A Refusal
in_parent tree path go_on = elim (slice_get path (length path - 1)) [
  | None ↦ Err BadName
  | Some name ↦ and_then (walk_live tree (take (length path - 1) path)) (go_on name)
]

-- an inode under a new name of a directory: a name that can't be new is refused before one that is taken
abbrev pub new_name : Tree → Ino → List ℕ → Ino → Result Entry Refusal
new_name tree ino name dir =
    if not (is_new name) then Err BadName
    else (if is_some (lookup tree.entries dir name) then Err Exists
    else Ok (entry dir name ino))

-- a new entry for an inode: what leads to its last name is walked first
abbrev pub new_entry : Tree → Ino → List (List ℕ) → Result Entry Refusal
new_entry tree ino path = in_parent tree path (λ name dir. in_directory (tree.kind dir) (new_name tree ino name dir))

-- the entry of a path's last name
abbrev pub entry_at : Tree → List (List ℕ) → Result Entry Refusal
entry_at tree path = in_parent tree path (λ name dir. and_then (walk_live tree path) (λ ino. Ok (entry dir name ino)))

-- `/` is no path to link, nor to move, whatever the other path is
abbrev pub not_root : {A : Type 0} → List (List ℕ) → Result A Refusal → Result A Refusal
not_root [] result = Err BadName
not_root (name ∷ path) result = result

-- the entry that `unlink` takes away
abbrev pub to_unlink : Tree → List (List ℕ) → Result Entry Refusal
to_unlink tree path = and_then (entry_at tree path) (λ old. on_file (tree.kind old.ino) (Ok old))

-- The entry that `rmdir` takes away, where it is told which directories root snapshots. Ceph developer guide, CephFS
-- Snapshots: those can't be removed.
abbrev pub to_remove : (Ino → Bool) → Tree → List (List ℕ) → Result Entry Refusal
to_remove roots tree path = and_then (entry_at tree path) (λ old. in_directory (tree.kind old.ino)
    (if roots old.ino then Err HasSnapshots
    else (if list_any (λ (e : Entry). same_ino e.dir old.ino) tree.entries then Err NotEmpty
    else Ok old)))

-- the entry that `link` makes
abbrev pub to_link : Tree → List (List ℕ) → List (List ℕ) → Result Entry Refusal
to_link tree path target = not_root path (not_root target
    (and_then (walk_live tree path) (λ ino. on_file (tree.kind ino) (new_entry tree ino target))))

-- an inode under a new name of a directory that is neither itself nor below it
abbrev pub moved_name : Tree → Ino → List ℕ → Ino → Result Entry Refusal
moved_name tree ino name dir = in_directory (tree.kind dir)
    (if is_under tree.entries dir ino then Err IntoItself
    else new_name tree ino name dir)

-- the entry that `rename` takes away, and the one that it makes
abbrev pub to_move : Tree → List (List ℕ) → List (List ℕ) → Result (Entry × Entry) Refusal
to_move tree path target = not_root path (not_root target
    (and_then (entry_at tree path) (λ old.
    and_then (in_parent tree target (moved_name tree old.ino)) (λ new. Ok (old, new)))))

-- what stands under `.snap` can't be changed
abbrev pub on_live : Place → (List (List ℕ) → Result Change Refusal) → Result Change Refusal
on_live (Live path) go_on = go_on path
on_live (Snaps dir) go_on = Err ReadOnly
on_live (InSnap dir name below) go_on = Err ReadOnly

-- a new snapshot of a directory
abbrev pub new_snap : State → SnapId → List ℕ → Ino → Result Change Refusal
new_snap state id name dir = in_directory (kind_in state.inodes dir)
    (if not (is_new_snap name) then Err BadName
    else (if is_some (own_snap state.snaps dir name) then Err Exists
    else (if has_all_snaps state.snaps dir then Err TooManySnaps
    else (if are_all_live state.snaps then Err TooManyLive
    else Ok (change.Mksnap id dir name)))))

-- `mkdir` of a directory, or of a snapshot, which gets this id
abbrev pub mkdir : State → SnapId → Place → Result Change Refusal
mkdir state id (Live path) =
    and_then (new_entry (tree_of state) (next_ino state) path) (λ new. Ok (change.Mkdir new.dir new.name new.ino))
mkdir state id (Snaps dir) = Err ReadOnly
mkdir state id (InSnap dir name (below ∷ rest)) = Err ReadOnly
mkdir state id (InSnap dir name []) = and_then (walk_live (tree_of state) dir) (new_snap state id name)

-- a snapshot is removed
abbrev pub remove_snap : Option Snapshot → Result Change Refusal
remove_snap None = Err NoSnap
remove_snap (Some snap) = Ok (change.Rmsnap snap.id)

abbrev pub roots_snap : List Snapshot → Ino → Bool
roots_snap snaps ino = list_any (is_own ino) snaps

-- `rmdir` of a directory, or of a snapshot
abbrev pub rmdir : State → Place → Result Change Refusal
rmdir state (Live path) =
    and_then (to_remove (roots_snap state.snaps) (tree_of state) path) (λ old. Ok (change.Rmdir old.dir old.name))
rmdir state (Snaps dir) = Err ReadOnly
rmdir state (InSnap dir name (below ∷ rest)) = Err ReadOnly
rmdir state (InSnap path name []) = and_then (walk_live (tree_of state) path) (λ dir.
    in_directory (kind_in state.inodes dir) (remove_snap (own_snap state.snaps dir name)))

abbrev pub create : State → ℕ → List (List ℕ) → Result Change Refusal
create state mode path =
    and_then (new_entry (tree_of state) (next_ino state) path) (λ new. Ok (change.Create new.dir new.name new.ino mode))

abbrev pub unlink : State → List (List ℕ) → Result Change Refusal
unlink state path = and_then (to_unlink (tree_of state) path) (λ old. Ok (change.Unlink old.dir old.name))

abbrev pub link : State → List (List ℕ) → List (List ℕ) → Result Change Refusal
link state path target = and_then (to_link (tree_of state) path target) (λ new. Ok (change.Link new.ino new.dir new.name))

abbrev pub rename : State → List (List ℕ) → List (List ℕ) → Result Change Refusal
rename state path target =
    and_then (to_move (tree_of state) path target) (λ both. Ok (change.Rename both.0.dir both.0.name both.1.dir both.1.name))

abbrev pub chmod : State → ℕ → List (List ℕ) → Result Change Refusal
chmod state mode path = and_then (walk_live (tree_of state) path) (λ ino. Ok (change.Chmod ino mode))

abbrev pub open_file : State → ℕ → ℕ → Bool → List (List ℕ) → Result Change Refusal
open_file state client handle writable path =
    if is_some (open_of state.handles client handle) then Err BadHandle
    else and_then (walk_live (tree_of state) path) (λ ino.
    on_file (kind_in state.inodes ino) (Ok (change.OpenFile handle ino writable)))

abbrev pub close : State → ℕ → ℕ → Result Change Refusal
close state client handle =
    if is_some (open_of state.handles client handle) then Ok (change.CloseFile handle) else Err BadHandle

-- What a client's request for a change comes to, where a snapshot that it makes gets this id. Other requests ask for
-- none.
abbrev pub change_asked : State → ℕ → SnapId → Request → Option (Result Change Refusal)
change_asked state client id (request.Mkdir path) = Some (mkdir state id (place_of path))
change_asked state client id (request.Rmdir path) = Some (rmdir state (place_of path))
change_asked state client id (request.Create path mode) = Some (on_live (place_of path) (create state mode))
change_asked state client id (request.Unlink path) = Some (on_live (place_of path) (unlink state))
change_asked state client id (request.Link path target) =
    Some (on_live (place_of path) (λ from. on_live (place_of target) (link state from)))
change_asked state client id (request.Rename path target) =
    Some (on_live (place_of path) (λ from. on_live (place_of target) (rename state from)))
change_asked state client id (request.Chmod path mode) = Some (on_live (place_of path) (chmod state mode))
change_asked state client id (request.Open handle path writable) = Some (on_live (place_of path) (open_file state client handle writable))
change_asked state client id (request.Close handle) = Some (close state client handle)
change_asked state client id (request.Cat path) = None
change_asked state client id (request.Stat path) = None
change_asked state client id (request.List path) = None
change_asked state client id (request.Realm path) = None
change_asked state client id (request.Clones path index) = None
change_asked state client id (request.Cap ino mode) = None
change_asked state client id (request.Barrier number) = None

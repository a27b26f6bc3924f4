-- What a request comes to by the plans of its moves, over a tree of names, a story of realms and the open handles.
use Rattle.std.specs.Prelude.{ℕ, ◌-◌, Bool, true, false, not, List, [], ◌∷◌, length, slice_get, is_some, if◌then◌else◌, Option, None, Some, Result, Ok, Err}
use Rattle.snap_ids.specs.declared.id.Ino.{Ino}
use Rattle.snap_ids.specs.declared.id.SnapId.{SnapId}
use Rattle.snap_ids.specs.Name.{is_new_snap}
use Rattle.snap_ids.specs.Path.{Place, Live, Snaps, InSnap, place_of}
use Rattle.plain_types.specs.declared.answer.Refusal.{Refusal}
use Rattle.plain_types.specs.declared.answer.Refusal.TheVariants as refusal
use Rattle.plain_types.specs.declared.change.Change.{Change}
use Rattle.plain_types.specs.declared.change.Change.TheVariants as change
use Rattle.plain_types.specs.declared.request.Request.{Request}
use Rattle.plain_types.specs.declared.request.Request.TheVariants as request
use Rattle.plain_tree.specs.State.{Handle}
use Rattle.plain_tree.specs.Change.{open_of}
use Rattle.plain_tree.specs.Request.{Tree, and_then, in_directory, on_file, on_live, new_entry, walk_live}
use Rattle.realm_story.specs.Family.{Family}
use Rattle.snap_realm.specs.Refusals.{id_named}
use Rattle.snap_realm.specs.Refusals as snaps
use Rattle.snap_realm.specs.declared.error.RealmError.{RealmError}
use Rattle.snap_realm.specs.declared.error.RealmError.TheVariants as error
use Rattle.rename_split.specs.declared.plan.MovePlan.{MovePlan}
use Rattle.rename_split.specs.Plans.{link_of, move_of, stray_of}

-- a path's last name, if it has one
abbrev pub last_of : List (List ℕ) → Option (List ℕ)
last_of path = slice_get path (length path - 1)

-- what is done with a path's last name; `/` has none
abbrev pub at_name : {A : Type 0} → Option (List ℕ) → (List ℕ → Result A Refusal) → Result A Refusal
at_name None go_on = Err refusal.BadName
at_name (Some name) go_on = go_on name

-- what is done with a directory of a plan; `/` has none
abbrev pub in_dir : {A : Type 0} → Option Ino → (Ino → Result A Refusal) → Result A Refusal
in_dir None go_on = Err refusal.BadName
in_dir (Some dir) go_on = go_on dir

-- what is done with the directory at the end of a path
abbrev pub at_directory : {A : Type 0} → Tree → List (List ℕ) → (Ino → Result A Refusal) → Result A Refusal
at_directory tree path go_on = and_then (walk_live tree path) (λ dir. in_directory (tree.kind dir) (go_on dir))

-- a new directory, and a new file
abbrev pub made_dir : Tree → Ino → List (List ℕ) → Result Change Refusal
made_dir tree next path =
    and_then (new_entry tree next path) (λ new. at_name (last_of path) (λ name. Ok (change.Mkdir new.dir name new.ino)))

abbrev pub made_file : Tree → Ino → ℕ → List (List ℕ) → Result Change Refusal
made_file tree next mode path =
    and_then (new_entry tree next path) (λ new. at_name (last_of path) (λ name. Ok (change.Create new.dir name new.ino mode)))

-- a directory that goes, and a name of a file that goes
abbrev pub removed : Tree → Family → List (List ℕ) → Result Change Refusal
removed tree family path = and_then (stray_of tree family path true) (λ plan.
    in_dir plan.from_dir (λ dir. at_name (last_of path) (λ name. Ok (change.Rmdir dir name))))

abbrev pub unlinked : Tree → Family → List (List ℕ) → Result Change Refusal
unlinked tree family path = and_then (stray_of tree family path false) (λ plan.
    in_dir plan.from_dir (λ dir. at_name (last_of path) (λ name. Ok (change.Unlink dir name))))

-- a further name
abbrev pub linked : Tree → List (List ℕ) → List (List ℕ) → Result Change Refusal
linked tree path target = and_then (link_of tree path target) (λ plan.
    in_dir plan.to_dir (λ dir. at_name (last_of target) (λ name. Ok (change.Link plan.ino dir name))))

-- another name
abbrev pub moved_by : MovePlan → List (List ℕ) → List (List ℕ) → Result Change Refusal
moved_by plan path target = in_dir plan.from_dir (λ dir. at_name (last_of path) (λ name.
    in_dir plan.to_dir (λ to_dir. at_name (last_of target) (λ to_name. Ok (change.Rename dir name to_dir to_name)))))

abbrev pub renamed : Tree → Family → List (List ℕ) → List (List ℕ) → Result Change Refusal
renamed tree family path target = and_then (move_of tree family path target) (λ plan. moved_by plan path target)

-- another mode
abbrev pub with_mode : Tree → ℕ → List (List ℕ) → Result Change Refusal
with_mode tree mode path = and_then (walk_live tree path) (λ ino. Ok (change.Chmod ino mode))

-- a file that is opened, under a handle that isn't in use
abbrev pub opened : Tree → List Handle → ℕ → ℕ → Bool → List (List ℕ) → Result Change Refusal
opened tree handles client handle writable path =
    if is_some (open_of handles client handle) then Err refusal.BadHandle
    else and_then (walk_live tree path) (λ ino. on_file (tree.kind ino) (Ok (change.OpenFile handle ino writable)))

-- and a handle that is closed
abbrev pub closed : List Handle → ℕ → ℕ → Result Change Refusal
closed handles client handle =
    if is_some (open_of handles client handle) then Ok (change.CloseFile handle) else Err refusal.BadHandle

-- the refusal that an error is; to ask takes no memory
abbrev pub reason : RealmError → Refusal
reason error.SnapExists = refusal.Exists
reason error.TooManySnaps = refusal.TooManySnaps
reason error.TooManyLive = refusal.TooManyLive
reason error.NoSnap = refusal.NoSnap
reason error.NoMemory = refusal.NoSnap

-- what is done unless it is refused
abbrev pub unless : {A : Type 0} → Option RealmError → Result A Refusal → Result A Refusal
unless None result = result
unless (Some error) result = Err (reason error)

-- a new snapshot of a directory
abbrev pub snap_in : Family → SnapId → List ℕ → Ino → Result Change Refusal
snap_in family id name dir =
    if not (is_new_snap name) then Err refusal.BadName
    else unless (snaps.refusal dir name family.snaps) (Ok (change.Mksnap id dir name))

-- a snapshot that goes, if there is one
abbrev pub dropped : Option SnapId → Result Change Refusal
dropped None = Err refusal.NoSnap
dropped (Some id) = Ok (change.Rmsnap id)

-- a new directory, or a new snapshot
abbrev pub made : Tree → Family → Ino → SnapId → Place → Result Change Refusal
made tree family next id (Live path) = made_dir tree next path
made tree family next id (Snaps dir) = Err refusal.ReadOnly
made tree family next id (InSnap dir name (below ∷ rest)) = Err refusal.ReadOnly
made tree family next id (InSnap dir name []) = at_directory tree dir (snap_in family id name)

-- a directory that goes, or a snapshot
abbrev pub gone : Tree → Family → Place → Result Change Refusal
gone tree family (Live path) = removed tree family path
gone tree family (Snaps dir) = Err refusal.ReadOnly
gone tree family (InSnap dir name (below ∷ rest)) = Err refusal.ReadOnly
gone tree family (InSnap path name []) = at_directory tree path (λ dir. dropped (id_named dir name family.snaps))

-- what a client's request comes to
abbrev pub asked : Tree → Family → List Handle → Ino → ℕ → SnapId → Request → Option (Result Change Refusal)
asked tree family handles next client id (request.Mkdir path) = Some (made tree family next id (place_of path))
asked tree family handles next client id (request.Rmdir path) = Some (gone tree family (place_of path))
asked tree family handles next client id (request.Create path mode) = Some (on_live (place_of path) (made_file tree next mode))
asked tree family handles next client id (request.Unlink path) = Some (on_live (place_of path) (unlinked tree family))
asked tree family handles next client id (request.Link path target) =
    Some (on_live (place_of path) (λ from. on_live (place_of target) (linked tree from)))
asked tree family handles next client id (request.Rename path target) =
    Some (on_live (place_of path) (λ from. on_live (place_of target) (renamed tree family from)))
asked tree family handles next client id (request.Chmod path mode) = Some (on_live (place_of path) (with_mode tree mode))
asked tree family handles next client id (request.Open handle path writable) =
    Some (on_live (place_of path) (opened tree handles client handle writable))
asked tree family handles next client id (request.Close handle) = Some (closed handles client handle)
asked tree family handles next client id other = None

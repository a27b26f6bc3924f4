-- Why a snapshot isn't made, and which one has a name.
use Rattle.std.specs.Prelude.{ℕ, Bool, ◌&&◌, ◌==◌, nat_le, List, [], ◌∷◌, length, filter, if◌then◌else◌, Option, None, Some}
use Rattle.std.specs.List.{list_any}
use Rattle.snap_ids.specs.declared.id.Ino.{Ino}
use Rattle.snap_ids.specs.declared.id.SnapId.{SnapId}
use Rattle.realm_story.specs.declared.records.Snap.{Snap}
use Rattle.realm_story.specs.Family.{Made, same_ino, is_named}
use Rattle.snap_realm.specs.declared.error.RealmError.{RealmError}
use Rattle.snap_realm.specs.declared.error.RealmError.TheVariants.{SnapExists, TooManySnaps, TooManyLive}
use Rattle.snap_realm.specs.Tree.{has_name}

-- the first that applies: the directory has a live snapshot of the name, it has 100 live ones, 128 are live
abbrev pub refusal_by : Bool → ℕ → ℕ → Option RealmError
refusal_by taken own live =
    if taken then Some SnapExists
    else (if nat_le 100 own then Some TooManySnaps
    else (if nat_le 128 live then Some TooManyLive
    else None))

-- by the snapshots of a story
abbrev pub refusal : Ino → List ℕ → List Made → Option RealmError
refusal dir name snaps =
    refusal_by (list_any (is_named dir name) snaps) (length (filter (λ (snap : Made). snap.live && same_ino snap.root dir) snaps))
    (length (filter (λ (snap : Made). snap.live) snaps))

-- by those that the store still keeps
abbrev pub refusal_kept : Ino → List ℕ → List Snap → Option RealmError
refusal_kept dir name snaps =
    refusal_by (list_any (has_name dir name) snaps) (length (filter (λ (snap : Snap). snap.live && same_ino snap.root dir) snaps))
    (length (filter (λ (snap : Snap). snap.live) snaps))

-- the id of a directory's live snapshot that has a name
abbrev pub id_named : Ino → List ℕ → List Made → Option SnapId
id_named dir name [] = None
id_named dir name (snap ∷ snaps) = if is_named dir name snap then Some snap.id else id_named dir name snaps

-- the directory and the name of the live snapshot that has an id
abbrev pub name_with : SnapId → List Made → Option (Ino × List ℕ)
name_with id [] = None
name_with id (snap ∷ snaps) = if snap.live && snap.id.0 == id.0 then Some (snap.root, snap.name) else name_with id snaps

-- the snapshot is live, and has an id
abbrev pub has_id : SnapId → Snap → Bool
has_id id snap = snap.live && snap.id.0 == id.0

abbrev pub name_by : Option Snap → Option (Ino × List ℕ)
name_by None = None
name_by (Some snap) = Some (snap.root, snap.name)

-- What the records of a server say: the way up from an inode by its parents, and the ids that the realms on it give.
use Rattle.std.specs.Prelude.{ℕ, zero, suc, Bool, true, false, ◌||◌, ◌&&◌, nat_le, max, List, [], ◌∷◌, filter, map, if◌then◌else◌, Option, None, Some}
use Rattle.snap_ids.specs.declared.id.Ino.{Ino}
use Rattle.snap_ids.specs.declared.id.SnapId.{SnapId}
use Rattle.snap_ids.specs.declared.id.TheConstants.{FIRST_SNAP}
use Rattle.snap_ids.specs.declared.values.RealmInfo.{RealmInfo}
use Rattle.snap_ids.specs.Context.{is_listed}
use Rattle.snap_ids.specs.Traces.{if_from}
use Rattle.realm_story.specs.declared.records.Realm.{Realm}
use Rattle.realm_story.specs.declared.records.Node.{Node}
use Rattle.realm_story.specs.declared.records.Snap.{Snap}
use Rattle.realm_story.specs.Family.{same_ino}

abbrev pub parent_by : Option Node → Option Ino
parent_by None = None
parent_by (Some node) = node.parent

abbrev pub birth_by : Option Node → SnapId
birth_by None = FIRST_SNAP
birth_by (Some node) = node.birth

abbrev pub realm_by : Option Node → Option Realm
realm_by None = None
realm_by (Some node) = node.realm

abbrev pub is_node : Option Node → Bool
is_node None = false
is_node (Some node) = true

abbrev pub is_realm : Option Realm → Bool
is_realm None = false
is_realm (Some realm) = true

-- the way up by the parents, over at most so many inodes
abbrev pub up_from : ℕ → (ℕ → Option Node) → Option Ino → List Ino
up_from zero at next = []
up_from (suc more) at None = []
up_from (suc more) at (Some ino) = ino ∷ up_from more at (parent_by (at ino.0))

-- an inode and those above it
abbrev pub up : ℕ → (ℕ → Option Node) → Ino → List Ino
up n at ino = up_from n at (Some ino)

-- the first inode on a way at which a realm begins, else its last
abbrev pub nearest_on : (Ino → Bool) → Ino → List Ino → Ino
nearest_on test last [] = last
nearest_on test last (ino ∷ way) = if test ino then ino else nearest_on test ino way

-- a realm lists a snapshot of a directory: by itself, from its past, or from the realms above it
abbrev pub lists_by : Option Realm → Ino → Ino → SnapId → Bool → Bool
lists_by None ino root s above = above
lists_by (Some realm) ino root s above =
    same_ino root ino || (is_listed s realm.past || (nat_le realm.since.0 s.0 && above))

-- the realms on a way list a snapshot of a directory
abbrev pub lists : (ℕ → Option Node) → List Ino → Ino → SnapId → Bool
lists at [] root s = false
lists at (ino ∷ way) root s = lists_by (realm_by (at ino.0)) ino root s (lists at way root s)

abbrev pub seq_by : Option Realm → ℕ → ℕ
seq_by None above = above
seq_by (Some realm) above = max realm.seq.0 (if_from realm.since above 0)

-- the greatest sequence id that the realms on a way give
abbrev pub seq_on : (ℕ → Option Node) → List Ino → ℕ
seq_on at [] = 0
seq_on at (ino ∷ way) = seq_by (realm_by (at ino.0)) (seq_on at way)

abbrev pub ids_of : List Snap → List SnapId
ids_of snaps = map (λ (snap : Snap). snap.id) snaps

-- the ids of a directory's own snapshots
abbrev pub own_of : List Snap → Ino → List SnapId
own_of snaps dir = ids_of (filter (λ (snap : Snap). same_ino snap.root dir) snaps)

-- the ids that the store still keeps
abbrev pub kept_of : List Snap → List SnapId → List SnapId
kept_of snaps ids = filter (λ id. is_listed id (ids_of snaps)) ids

abbrev pub info_by : Option Realm → Ino → List Snap → List RealmInfo → List RealmInfo
info_by None ino snaps above = above
info_by (Some realm) ino snaps above = record {
  ino = ino;
  seq = realm.seq;
  since = realm.since;
  own = own_of snaps ino;
  past = kept_of snaps realm.past;
} ∷ above

-- the realms on a way, with the ids that the store still keeps
abbrev pub infos : (ℕ → Option Node) → List Snap → List Ino → List RealmInfo
infos at snaps [] = []
infos at snaps (ino ∷ way) = info_by (realm_by (at ino.0)) ino snaps (infos at snaps way)

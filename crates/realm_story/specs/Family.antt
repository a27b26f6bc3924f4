-- What was called on a tree of realms, said plainly: the way up from each inode, which inodes each snapshot covered when it
-- was made, and at which inodes realms begin. Ceph developer guide, CephFS Snapshots.
use Rattle.std.specs.Prelude.{ℕ, ◌+◌, Bool, true, false, not, ◌||◌, ◌&&◌, ◌==◌, nat_le, nat_lt, max, List, [], ◌∷◌, ◌++◌, map, filter, if◌then◌else◌, bytes_eq, codes, Option, None, Some}
use Rattle.std.specs.List.{list_all}
use Rattle.std.specs.Fmt.{digits_onto}
use Rattle.snap_ids.specs.declared.id.Ino.{Ino}
use Rattle.snap_ids.specs.declared.id.SnapId.{SnapId}
use Rattle.snap_ids.specs.declared.id.TheConstants.{ROOT, STRAY, GLOBAL, FIRST_SNAP}
use Rattle.snap_ids.specs.Context.{Context}

-- an inode, those above it, the nearest first, and the first id for which it is valid
pub record Member : Type 0 where
  pub ino : Ino
  pub above : List Ino
  pub birth : SnapId

-- a snapshot, the inodes that were below its root when it was made, whether it has a name, and whether the store has
-- dropped it
pub record Made : Type 0 where
  pub id : SnapId
  pub root : Ino
  pub name : List ℕ
  pub covered : List Ino
  pub live : Bool
  pub purged : Bool

-- the inodes beside the three roots, the snapshots as they were made, the last one first, the inodes at which realms begin
-- beside the three roots, and the last id
pub record Family : Type 0 where
  pub members : List Member
  pub snaps : List Made
  pub marked : List Ino
  pub applied : SnapId

abbrev pub same_ino : Ino → Ino → Bool
same_ino x y = x.0 == y.0

-- the root, the root of what has no name, and the global realm
abbrev pub is_root : Ino → Bool
is_root ino = nat_lt 0 ino.0 && nat_le ino.0 GLOBAL.0

-- the three roots, and no snapshot
abbrev pub start : Family
start = record { members = []; snaps = []; marked = []; applied = record { 0 = 1 } }

abbrev pub member : List Member → Ino → Option Member
member [] ino = None
member (m ∷ members) ino = if same_ino m.ino ino then Some m else member members ino

abbrev pub is_member : Option Member → Bool
is_member None = false
is_member (Some m) = true

abbrev pub is_there : List Member → Ino → Bool
is_there members ino = is_root ino || is_member (member members ino)

abbrev pub above_by : Option Member → List Ino
above_by None = []
above_by (Some m) = m.above

-- the way up: an inode and those above it, the nearest first
abbrev pub way_up : List Member → Ino → List Ino
way_up members ino = ino ∷ above_by (member members ino)

-- an inode stands on a way
abbrev pub is_on : Ino → List Ino → Bool
is_on top [] = false
is_on top (ino ∷ way) = same_ino top ino || is_on top way

-- an inode is another one or below it
abbrev pub is_under : List Member → Ino → Ino → Bool
is_under members ino top = is_on top (way_up members ino)

-- a file that ever had two names is in the global realm
abbrev pub is_in_global : List Member → Ino → Bool
is_in_global members ino = is_under members ino GLOBAL

-- a realm begins at an inode
abbrev pub is_marked : List Ino → Ino → Bool
is_marked marked ino = is_root ino || is_on ino marked

-- the first inode on a way that passes a test, else its last
abbrev pub nearest : (Ino → Bool) → Ino → List Ino → Ino
nearest test ino [] = ino
nearest test ino (next ∷ way) = if test ino then ino else nearest test next way

-- the inode at which the realm that contains an inode begins
abbrev pub realm_of : Family → Ino → Ino
realm_of family ino =
    if is_in_global family.members ino then GLOBAL
    else nearest (is_marked family.marked) ino (above_by (member family.members ino))

abbrev pub birth_by : Option Member → SnapId
birth_by None = FIRST_SNAP
birth_by (Some m) = m.birth

-- the first id for which an inode is valid
abbrev pub birth_of : Family → Ino → SnapId
birth_of family ino = birth_by (member family.members ino)

-- the id after another
abbrev pub next_id : SnapId → SnapId
next_id id = record { 0 = id.0 + 1 }

-- an inode is made below another one
abbrev pub born : Ino → Ino → Family → Family
born ino parent family = record family {
  members = record { ino = ino; above = way_up family.members parent; birth = next_id family.applied } ∷ family.members;
}

-- no snapshot is one of this inode: it is new, and none of that number was there before
abbrev pub is_fresh : Ino → List Made → Bool
is_fresh ino snaps = list_all (λ (snap : Made). not (same_ino ino snap.root)) snaps

-- all inodes that are there
abbrev pub inodes : List Member → List Ino
inodes members = ROOT ∷ STRAY ∷ GLOBAL ∷ map (λ (m : Member). m.ino) members

-- a snapshot of all under a directory is made
abbrev pub add_snap : Ino → SnapId → List ℕ → Family → Family
add_snap dir id name family = record {
  members = family.members;
  snaps = record {
    id = id;
    root = dir;
    name = name;
    covered = filter (λ ino. is_under family.members ino dir) (inodes family.members);
    live = true;
    purged = false;
  } ∷ family.snaps;
  marked = dir ∷ family.marked;
  applied = id;
}

-- the live snapshot of a directory that has a name
abbrev pub is_named : Ino → List ℕ → Made → Bool
is_named dir name snap = snap.live && (same_ino snap.root dir && bytes_eq snap.name name)

-- a directory's snapshot loses its name
abbrev pub drop_snap : Ino → List ℕ → Family → Family
drop_snap dir name family = record family {
  snaps = map (λ (snap : Made). record snap { live = snap.live && not (is_named dir name snap) }) family.snaps;
}

-- the store has dropped a snapshot
abbrev pub purged : SnapId → Family → Family
purged id family = record family {
  snaps = map (λ (snap : Made). record snap { purged = snap.purged || snap.id.0 == id.0 }) family.snaps;
}

-- a way after an inode on it was moved below others
abbrev pub way_moved : Ino → List Ino → List Ino → List Ino
way_moved ino up [] = []
way_moved ino up (x ∷ way) = if same_ino x ino then ino ∷ up else x ∷ way_moved ino up way

abbrev pub moved : Ino → List Ino → Member → Member
moved ino up m = record { ino = m.ino; above = if same_ino m.ino ino then up else way_moved ino up m.above; birth = m.birth }

-- a move takes an inode from below others to below another one, in another realm
abbrev pub leaves : Family → List Ino → Ino → Bool
leaves family [] parent = true
leaves family (old ∷ way) parent = not (same_ino (realm_of family old) (realm_of family parent))

abbrev pub leaves_realm : Ino → Ino → Family → Bool
leaves_realm ino parent family =
    if is_in_global family.members ino then false else leaves family (above_by (member family.members ino)) parent

-- An inode is moved below another one: a realm begins at it where it leaves that of its parent. What is in the global
-- realm stays there.
abbrev pub move_to : Ino → Ino → Family → Family
move_to ino parent family =
    if is_in_global family.members ino then family
    else record {
      members = map (moved ino (way_up family.members parent)) family.members;
      snaps = family.snaps;
      marked = if leaves_realm ino parent family then ino ∷ family.marked else family.marked;
      applied = family.applied;
    }

abbrev pub without : Ino → List Ino → List Ino
without ino marked = filter (λ other. not (same_ino other ino)) marked

abbrev pub made_global : Ino → Member → Member
made_global ino m = record { ino = m.ino; above = if same_ino m.ino ino then GLOBAL ∷ [] else m.above; birth = m.birth }

-- a file goes to the global realm for good
abbrev pub to_global : Ino → Family → Family
to_global ino family = record {
  members = map (made_global ino) family.members;
  snaps = family.snaps;
  marked = without ino family.marked;
  applied = family.applied;
}

-- an inode is there no more
abbrev pub forget : Ino → Family → Family
forget ino family = record {
  members = filter (λ (m : Member). not (same_ino m.ino ino)) family.members;
  snaps = family.snaps;
  marked = without ino family.marked;
  applied = family.applied;
}

-- A snapshot covers an inode: the inode was below its root when it was made, or is in the global realm. It covers nothing
-- that was born later.
abbrev pub covers : Family → Ino → Made → Bool
covers family ino snap =
    nat_le (birth_of family ino).0 snap.id.0 && (is_in_global family.members ino || is_on ino snap.covered)

abbrev pub ids_of : List Made → List SnapId
ids_of [] = []
ids_of (snap ∷ snaps) = snap.id ∷ ids_of snaps

-- the snapshots that cover an inode, the last one first
abbrev pub covering : Family → Ino → List Made
covering family ino = filter (covers family ino) family.snaps

-- the greatest of some ids, at least 1
abbrev pub greatest : List SnapId → ℕ
greatest [] = 1
greatest (id ∷ ids) = max id.0 (greatest ids)

abbrev pub is_kept : Made → Bool
is_kept snap = not snap.purged

-- the context of an inode: the ids that cover it and aren't purged, falling, and the greatest that ever covered it
abbrev pub context : Family → Ino → Context
context family ino = record {
  seq = record { 0 = greatest (ids_of (covering family ino)) };
  ids = ids_of (filter is_kept (covering family ino));
}

-- the ids of a directory's own snapshots that aren't purged, falling
abbrev pub own_ids : Family → Ino → List SnapId
own_ids family dir = ids_of (filter (λ (snap : Made). same_ino snap.root dir && is_kept snap) family.snaps)

-- the ids with a name, falling
abbrev pub live_ids : Family → List SnapId
live_ids family = ids_of (filter (λ (snap : Made). snap.live) family.snaps)

-- the name under which a directory shows a snapshot: its own name, or `_NAME_INO` for one of another directory
abbrev pub name_shown : Ino → Made → List ℕ
name_shown dir snap =
    if same_ino snap.root dir then snap.name
    else codes "_" ++ snap.name ++ codes "_" ++ digits_onto 64 10 false snap.root.0 []

-- the live snapshots that cover a directory, with their names there, the last one first
abbrev pub shown : Family → Ino → List (List ℕ × SnapId)
shown family dir =
    map (λ (snap : Made). (name_shown dir snap, snap.id)) (filter (λ (snap : Made). snap.live) (covering family dir))

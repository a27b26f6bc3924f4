-- A server's tree of realms as its records, what may be asked of it, and the plain story that it stands for.
use Rattle.std.specs.Prelude.{◌≡◌, ℕ, ◌+◌, Bool, true, false, not, ◌&&◌, ◌==◌, List, [], ◌∷◌, length, filter, if◌then◌else◌, bytes_eq, Option, None, Some}
use Rattle.std.specs.List.{list_any}
use Rattle.std.specs.Map.{lookup}
use Rattle.std.specs.Ordering.{nat_cmp}
use Rattle.std.specs.BTreeMap.{is_at}
use Rattle.snap_ids.specs.declared.id.Ino.{Ino}
use Rattle.snap_ids.specs.declared.id.SnapId.{SnapId}
use Rattle.snap_ids.specs.declared.id.TheConstants.{GLOBAL}
use Rattle.snap_ids.specs.declared.values.RealmInfo.{RealmInfo}
use Rattle.snap_ids.specs.Traces.{if_from}
use Rattle.realm_story.specs.declared.records.Node.{Node}
use Rattle.realm_story.specs.declared.records.Realm.{Realm}
use Rattle.realm_story.specs.declared.records.Snap.{Snap}
use Rattle.realm_story.specs.Family.{Family, same_ino, is_on, is_root}
use Rattle.realm_story.specs.Records.{parent_by, birth_by, realm_by, is_node, is_realm, up, nearest_on, lists, seq_on, ids_of, infos}
use Rattle.realm_story.specs.Stands.{Stands}

-- the inodes by their numbers, the snapshots that the store still keeps, the last one first, and the last id
pub record Tree : Type 0 where
  pub nodes : List (ℕ × Node)
  pub snaps : List Snap
  pub applied : SnapId

-- the record of an inode, if it is there
abbrev pub node_at : List (ℕ × Node) → ℕ → Option Node
node_at nodes k = lookup (is_at (nat_cmp k)) nodes

-- the tree stands for a story
abbrev pub StandsFor : Tree → Family → Type 0
StandsFor tree family = Stands (node_at tree.nodes) tree.snaps tree.applied family

abbrev pub is_there : Tree → Ino → Bool
is_there tree ino = is_node (node_at tree.nodes ino.0)

-- an inode and those above it, the nearest first
abbrev pub way : Tree → Ino → List Ino
way tree ino = up (length tree.nodes) (node_at tree.nodes) ino

-- an inode is another one or below it
abbrev pub is_under : Tree → Ino → Ino → Bool
is_under tree ino top = is_on top (way tree ino)

abbrev pub is_in_global : Tree → Ino → Bool
is_in_global tree ino = is_under tree ino GLOBAL

abbrev pub is_child : Ino → Option Ino → Bool
is_child ino None = false
is_child ino (Some parent) = same_ino parent ino

-- an inode is no root, and the parent of none
pub record IsLeaf (tree : Tree) (ino : Ino) : Type 0 where
  pub no_root : is_root ino ≡ false
  pub no_child : (other : Ino) → parent_by (node_at tree.nodes other.0) ≡ Some ino → ⊥

-- the same of all records, one by one
abbrev pub is_leaf : Tree → Ino → Bool
is_leaf tree ino = not (is_root ino) && not (list_any (λ (entry : ℕ × Node). is_child ino entry.1.parent) tree.nodes)

-- a snapshot with a name has an id
abbrev pub is_live : Tree → SnapId → Bool
is_live tree id = list_any (λ (snap : Snap). snap.live && snap.id.0 == id.0) tree.snaps

abbrev pub birth_of : Tree → Ino → SnapId
birth_of tree ino = birth_by (node_at tree.nodes ino.0)

-- a realm begins at an inode
abbrev pub begins_at : Tree → Ino → Bool
begins_at tree ino = is_realm (realm_by (node_at tree.nodes ino.0))

-- the inode at which the realm that contains another begins
abbrev pub realm_of : Tree → Ino → Ino
realm_of tree ino = if is_in_global tree ino then GLOBAL else nearest_on (begins_at tree) ino (way tree ino)

-- the realm of what is in the global realm
abbrev pub global_info : Tree → RealmInfo
global_info tree = record { ino = GLOBAL; seq = tree.applied; since = record { 0 = 0 }; own = []; past = ids_of tree.snaps }

-- the realms that contain an inode, the nearest first
abbrev pub trace_of : Tree → Ino → List RealmInfo
trace_of tree ino =
    if is_in_global tree ino then global_info tree ∷ []
    else infos (node_at tree.nodes) tree.snaps (way tree ino)

-- the greatest sequence id that the realms of an inode give
abbrev pub top_seq : Tree → Ino → ℕ
top_seq tree ino = if is_in_global tree ino then tree.applied.0 else seq_on (node_at tree.nodes) (way tree ino)

abbrev pub seq_of : Tree → Ino → ℕ
seq_of tree ino = if_from (birth_of tree ino) (top_seq tree ino) 1

abbrev pub live_ids : Tree → List SnapId
live_ids tree = ids_of (filter (λ (snap : Snap). snap.live) tree.snaps)

-- the live snapshot of a directory that has a name
abbrev pub has_name : Ino → List ℕ → Snap → Bool
has_name dir name snap = snap.live && (same_ino snap.root dir && bytes_eq snap.name name)

-- the snapshot is live, and one of the directory
abbrev pub is_live_of : Ino → Snap → Bool
is_live_of dir snap = snap.live && same_ino snap.root dir

-- by the records, a move from below one inode to below another leaves a realm
abbrev pub leaves : Tree → Option Ino → Ino → Bool
leaves tree None parent = true
leaves tree (Some old) parent = not (same_ino (realm_of tree old) (realm_of tree parent))

-- the ids of other directories' snapshots that the realms of an inode list
abbrev pub left_at : Tree → Ino → List SnapId
left_at tree ino = ids_of (filter (λ (snap : Snap). lists (node_at tree.nodes) (way tree ino) snap.root snap.id && not (same_ino snap.root ino)) tree.snaps)

-- the realm that is to begin at an inode that leaves another one
abbrev pub opened_at : Tree → Ino → Realm
opened_at tree ino = record {
  seq = record { 0 = seq_on (node_at tree.nodes) (way tree ino) };
  since = record { 0 = tree.applied.0 + 1 };
  past = left_at tree ino;
}

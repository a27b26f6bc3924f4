-- The steps of a walk up.
use Rattle.std.specs.Prelude.{ℕ, Bool, not, ◌&&◌, List, [], max, if◌then◌else◌, nat_le, Option, None, Some, ◌==◌}
use Rattle.snap_ids.specs.declared.id.Ino.{Ino}
use Rattle.snap_ids.specs.declared.id.SnapId.{SnapId}
use Rattle.realm_story.specs.declared.records.Node.{Node}
use Rattle.realm_story.specs.declared.records.Realm.{Realm}
use Rattle.realm_story.specs.declared.records.Snap.{Snap}
use Rattle.snap_realm.specs.Tree.{has_name}

-- what a realm decides, else what the realms above say
abbrev pub or_above : Option Bool → Bool → Bool
or_above None above = above
or_above (Some answer) above = answer

-- the greatest of a number and another one that counts from a bound on
abbrev pub most : ℕ → ℕ → ℕ → ℕ
most so_far bound n = max so_far (if nat_le bound n then n else 0)

-- an inode below another one
abbrev pub hung : Ino → ℕ → Ino → Node → Node
hung ino k parent node = if ino.0 == k then record { parent = Some parent; birth = node.birth; realm = node.realm } else node

-- an inode at which a realm begins
abbrev pub opened : Ino → ℕ → Realm → Node → Node
opened ino k realm node = if ino.0 == k then record { parent = node.parent; birth = node.birth; realm = Some realm } else node

-- the realm of a directory once it has a new snapshot
abbrev pub snapped : SnapId → Option Realm → Realm
snapped id None = record { seq = id; since = record { 0 = 0 }; past = [] }
snapped id (Some realm) = record { seq = id; since = realm.since; past = realm.past }

-- a directory that has a new snapshot
abbrev pub snapped_at : Ino → ℕ → SnapId → Node → Node
snapped_at ino k id node = if ino.0 == k then record { parent = node.parent; birth = node.birth; realm = Some (snapped id node.realm) } else node

-- a snapshot that loses its name where it has this one
abbrev pub unnamed : Ino → List ℕ → Snap → Snap
unnamed dir name snap = record { id = snap.id; root = snap.root; name = snap.name; live = snap.live && not (has_name dir name snap) }

-- the id of the first of some snapshots that has a name
abbrev pub id_by : Option Snap → Option SnapId
id_by None = None
id_by (Some snap) = Some snap.id

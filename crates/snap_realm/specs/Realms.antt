-- The realms that contain an inode, in the words of a story.
use Rattle.std.specs.Prelude.{◌≡◌, List, [], ◌∷◌, map, filter, if◌then◌else◌}
use Rattle.snap_ids.specs.declared.id.Ino.{Ino}
use Rattle.snap_ids.specs.declared.id.SnapId.{SnapId}
use Rattle.snap_ids.specs.declared.id.TheConstants.{GLOBAL}
use Rattle.realm_story.specs.Family.{Family, is_in_global, is_marked, member, above_by, way_up, own_ids}

-- The inodes on the way up at which realms begin, the nearest first, each with the ids of its own snapshots. What is in the
-- global realm is in that one alone, which has no snapshots of its own.
abbrev pub realms_of : Family → Ino → List (Ino × List SnapId)
realms_of family ino =
    if is_in_global family.members ino then (GLOBAL, []) ∷ []
    else map (λ dir. (dir, own_ids family dir)) (filter (is_marked family.marked) (way_up family.members ino))

-- an inode stands right above none
abbrev pub IsChildless : Family → Ino → Type 0
IsChildless family ino = (other : Ino) (way : List Ino) → above_by (member family.members other) ≡ ino ∷ way → ⊥

-- Small stories of realms.
use Rattle.std.specs.Prelude.{ℕ, ◌+◌, codes}
use Rattle.snap_ids.specs.declared.id.Ino.{Ino}
use Rattle.snap_ids.specs.declared.id.SnapId.{SnapId}
use Rattle.snap_ids.specs.declared.id.TheConstants.{ROOT}
use Rattle.realm_story.specs.Family.{Family, start, born, add_snap, drop_snap, purged, move_to, to_global}

-- the n-th inode that is made, from 0
abbrev pub inode : ℕ → Ino
inode n = record { 0 = 1099511627776 + n }

abbrev pub snap : ℕ → SnapId
snap n = record { 0 = n }

-- directories `/a`, `/b` and `/a/d`, a snapshot `t` of `/b`, a snapshot `s` of `/a`, and a file `/a/d/x`
abbrev pub made : Family
made =
    born (inode 3) (inode 2)
    (add_snap (inode 0) (snap 3) (codes "s")
    (add_snap (inode 1) (snap 2) (codes "t")
    (born (inode 2) (inode 0)
    (born (inode 1) ROOT
    (born (inode 0) ROOT start)))))

-- `/a/d` is moved to `/b/d`
abbrev pub moved : Family
moved = move_to (inode 2) (inode 1) made

-- and back
abbrev pub back : Family
back = move_to (inode 2) (inode 0) moved

-- then a snapshot `u` of `/b` is made
abbrev pub later : Family
later = add_snap (inode 1) (snap 4) (codes "u") moved

-- the file gets a second name before the next snapshot
abbrev pub linked : Family
linked = add_snap (inode 1) (snap 4) (codes "u") (to_global (inode 3) made)

-- the snapshot of `/a` loses its name
abbrev pub dropped : Family
dropped = drop_snap (inode 0) (codes "s") moved

-- and the store has dropped it
abbrev pub gone : Family
gone = purged (snap 3) dropped

-- What is called for small journals. One has a flush that names ids which no snapshot has yet.
use Rattle.std.specs.Prelude.{List, [], ◌∷◌, map, codes}
use Rattle.snap_ids.specs.declared.id.TheConstants.{NOSNAP}
use Rattle.plain_types.specs.declared.entry.Entry.{Entry}
use Rattle.plain_types.specs.declared.entry.What.TheVariants.{Create, Settle, Chmod}
use Rattle.plain_journal.specs.Example.{entry, inode, root, snap}
use Rattle.inode_versions.specs.Histories.{History}
use Rattle.inode_versions.specs.Parts.{changed, settled}
use Rattle.journal_shapes.specs.Calls.{file, in_mode}

-- the file of the journal `flushed` in the table, after the calls
abbrev pub as_flushed : History
as_flushed =
    settled (snap 3) NOSNAP 5
    (settled (snap 2) (snap 3) 4
    (settled (snap 1) (snap 2) 2
    (changed (snap 2) (in_mode 384 (file 420)) (record { since = snap 2; head = file 420; earlier = [] }))))

-- a file `/f` of mode 0644, before any snapshot is made a flush of 7 bytes for the ids up to 3, and then mode 0600
abbrev pub ahead : List Entry
ahead = map entry
    (Create root (codes "f") (inode 0) 420
    ∷ Settle (inode 0) (snap 1) (snap 3) 7
    ∷ Chmod (inode 0) 384
    ∷ [])

-- this file in the table, after the calls
abbrev pub as_ahead : History
as_ahead =
    changed (snap 1) (in_mode 384 (file 420))
    (settled (snap 1) (snap 3) 7 (record { since = snap 2; head = file 420; earlier = [] }))

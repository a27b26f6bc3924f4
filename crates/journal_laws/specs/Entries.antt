-- Entries by what they change.
use Rattle.std.specs.Prelude.{Bool, true, false, List}
use Rattle.std.specs.List.{list_any}
use Rattle.snap_ids.specs.declared.id.SnapId.{SnapId}
use Rattle.plain_types.specs.declared.entry.Entry.{Entry}
use Rattle.plain_types.specs.declared.entry.What.{What}
use Rattle.plain_types.specs.declared.entry.What.TheVariants.{Mksnap, Link, Purgedone}
use Rattle.plain_journal.specs.Entries.{makes_snap}

-- the entry may change the context of an inode
abbrev pub changes_contexts : What → Bool
changes_contexts (Mksnap id dir name) = true
changes_contexts (Link ino dir name) = true
changes_contexts (Purgedone id) = true
changes_contexts what = false

-- an entry makes the snapshot
abbrev pub was_made : SnapId → List Entry → Bool
was_made s entries = list_any (λ (entry : Entry). makes_snap s entry.what) entries

-- A table of inodes that says what the entries of a journal say.
use Rattle.std.specs.Prelude.{◌≡◌, ℕ, ◌+◌, true, List, is_some, Option}
use Rattle.std.specs.Option.{option_map}
use Rattle.snap_ids.specs.declared.id.Ino.{Ino}
use Rattle.snap_ids.specs.declared.id.SnapId.{SnapId}
use Rattle.snap_ids.specs.declared.id.TheConstants.{NOSNAP}
use Rattle.plain_types.specs.declared.entry.Entry.{Entry}
use Rattle.plain_journal.specs.Entries.{state_after, applied}
use Rattle.plain_journal.specs.Coverage.{is_made}
use Rattle.plain_journal.specs.Settled.{Shape, shape_at}
use Rattle.inode_versions.specs.declared.attr.Attr.{Attr}
use Rattle.inode_versions.specs.Histories.{History}
use Rattle.inode_versions.specs.Table.{attr_at, head_of, is_heads}
use Rattle.journal_shapes.specs.Past.{flushes_are_past}
use Rattle.journal_moments.specs.Moments.{is_asked}

-- a shape in the table's words
abbrev pub of_shape : Shape → Attr
of_shape shape = record { kind = shape.kind; mode = shape.mode; size = shape.size }

-- what an inode is at an id after the entries of a journal; None where it wasn't made by then
abbrev pub attr_after : List Entry → Ino → SnapId → Option Attr
attr_after entries ino s = option_map of_shape (shape_at entries ino s)

-- the last id that was made, and the one above it
abbrev pub last_id : List Entry → SnapId
last_id entries = record { 0 = applied entries }

abbrev pub next_id : List Entry → SnapId
next_id entries = record { 0 = applied entries + 1 }

-- A table says of each inode what the entries of a journal say. For ids below NOSNAP that is promised where each flush of
-- the inode came when all ids that it names were made. Another flush splits what is live at an id that no snapshot has yet,
-- and a change that comes later doesn't reach the ids below that.
pub record ShapesStand (table : List (ℕ × History)) (entries : List Entry) : Type 0 where
  -- an inode is there exactly where it was made
  pub there : (ino : Ino) → is_some (head_of table ino) ≡ is_made (state_after entries) ino
  -- its head is what the entries say of what is live
  pub live : (ino : Ino) → head_of table ino ≡ attr_after entries ino NOSNAP
  -- and the head is what is valid at NOSNAP
  pub reaches : (ino : Ino) → is_made (state_after entries) ino ≡ true → is_heads table ino NOSNAP ≡ true
  -- at each id that is asked for it is what the entries say of that snapshot
  pub asked : (ino : Ino) → flushes_are_past entries ino ≡ true → (s : SnapId) → is_asked entries s ≡ true → attr_at table ino s ≡ attr_after entries ino s
  -- at all ids above the last one it is its head
  pub heads : (ino : Ino) → flushes_are_past entries ino ≡ true → is_made (state_after entries) ino ≡ true → is_heads table ino (next_id entries) ≡ true

-- The sizes of files as flushes settled them.
use Rattle.std.specs.Prelude.{ℕ, ◌&&◌, nat_lt, nat_le, List, fold, if◌then◌else◌, Option, None, Some}
use Rattle.snap_ids.specs.declared.id.Ino.{Ino}
use Rattle.snap_ids.specs.declared.id.SnapId.{SnapId}
use Rattle.snap_ids.specs.declared.values.Kind.{Kind}
use Rattle.plain_types.specs.declared.entry.Entry.{Entry}
use Rattle.plain_types.specs.declared.entry.What.{What}
use Rattle.plain_types.specs.declared.entry.What.TheVariants.{Settle, Release}
use Rattle.plain_tree.specs.State.{kind_in, inode_in, same_ino}
use Rattle.plain_journal.specs.Entries.{tree_at}
use Rattle.plain_journal.specs.Coverage.{is_made}

-- the size of a file at an id after one more entry: a flush says it for the ids above one and up to another, the last
-- flush of a writer for all above one
abbrev pub size_by : Ino → SnapId → ℕ → What → ℕ
size_by f s size (Settle ino follows upto settled) =
    if same_ino ino f && nat_lt follows.0 s.0 && nat_le s.0 upto.0 then settled else size
size_by f s size (Release ino follows settled) = if same_ino ino f && nat_lt follows.0 s.0 then settled else size
size_by f s size what = size

-- the size of a file in a snapshot, as settled; that of the live one at NOSNAP
abbrev pub settled_size : List Entry → Ino → SnapId → ℕ
settled_size entries f s = fold (λ size (entry : Entry). size_by f s size entry.what) 0 entries

-- what an inode is at an id: its kind and mode in that tree, and a file's size as settled
pub record Shape : Type 0 where
  pub kind : Kind
  pub mode : ℕ
  pub size : ℕ

-- the shape of an inode in a snapshot, where it was made by then; that of the live one at NOSNAP
abbrev pub shape_at : List Entry → Ino → SnapId → Option Shape
shape_at entries ino s =
    let tree = tree_at entries s in
    if is_made tree ino
    then Some (record { kind = kind_in tree.inodes ino; mode = (inode_in tree.inodes ino).mode; size = settled_size entries ino s })
    else None

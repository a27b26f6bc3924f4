-- The inodes of a table, and what they are at each id.
use Rattle.std.specs.Prelude.{ℕ, Bool, false, nat_le, List, map, Option, None, Some}
use Rattle.std.specs.Option.{option_map}
use Rattle.std.specs.Map.{lookup, values_of}
use Rattle.std.specs.Ordering.{nat_cmp}
use Rattle.std.specs.BTreeMap.{is_at}
use Rattle.std.specs.List.{sum_by}
use Rattle.snap_ids.specs.declared.id.Ino.{Ino}
use Rattle.snap_ids.specs.declared.id.SnapId.{SnapId}
use Rattle.snap_ids.specs.declared.id.TheConstants.{NOSNAP}
use Rattle.inode_versions.specs.declared.attr.Attr.{Attr}
use Rattle.inode_versions.specs.Histories.{History, at_id, since_settled, is_kept_at}
use Rattle.inode_versions.specs.Parts.{trimmed, unneeded}

-- the history of an inode that is there
abbrev pub history_of : List (ℕ × History) → Ino → Option History
history_of table ino = lookup (is_at (nat_cmp ino.0)) table

-- what an inode's history says at an id, if it has one
abbrev pub answer : Option History → SnapId → Option Attr
answer None s = None
answer (Some history) s = at_id history s

-- what an inode is at an id: None where it isn't there, or where no kept version is valid
unfoldable pub attr_at : List (ℕ × History) → Ino → SnapId → Option Attr
attr_at table ino s = answer (history_of table ino) s

-- what it is now: None where it isn't there
abbrev pub head_of : List (ℕ × History) → Ino → Option Attr
head_of table ino = attr_at table ino NOSNAP

-- the first id at which the answer is the head
unfoldable pub since : List (ℕ × History) → Ino → Option SnapId
since table ino = option_map (λ history. history.since) (history_of table ino)

-- the answer at an id is the head
abbrev pub begins_by : SnapId → Option SnapId → Bool
begins_by s None = false
begins_by s (Some first) = nat_le first.0 s.0

abbrev pub is_heads : List (ℕ × History) → Ino → SnapId → Bool
is_heads table ino s = begins_by s (since table ino)

-- the first id of a head after a size is settled
abbrev pub first_settled : SnapId → SnapId → ℕ → Option Attr → Option SnapId → Option SnapId
first_settled follows upto size None first = first
first_settled follows upto size (Some head) first = option_map (since_settled follows upto size head) first

-- the inodes without the earlier versions that no id of a list needs
abbrev pub trimmed_table : List SnapId → List (ℕ × History) → List (ℕ × History)
trimmed_table live table = map (λ inode. (inode.0, trimmed live inode.1)) table

-- how many these are
abbrev pub count_unneeded : List SnapId → List (ℕ × History) → ℕ
count_unneeded live table = sum_by (unneeded live) (values_of table)

-- what an inode is at an id is its head, or a version that an id of a list needs
abbrev pub kept_by : List SnapId → SnapId → Option History → Bool
kept_by live s None = false
kept_by live s (Some history) = is_kept_at live history s

unfoldable pub is_kept : List SnapId → List (ℕ × History) → Ino → SnapId → Bool
is_kept live table ino s = kept_by live s (history_of table ino)

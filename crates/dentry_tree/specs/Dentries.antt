-- The entries of a tree, with the ids of snapshots for which each is valid.
use Rattle.std.specs.Prelude.{◌≤◌, ℕ, ◌+◌, ◌-◌, max, Bool, ◌&&◌, ◌==◌, nat_le, List, [], ◌∷◌, length, if◌then◌else◌, IsTrue, Option, None, Some}
use Rattle.std.specs.List.{AllByRecursion, filter_map, sum_by}
use Rattle.std.specs.Option.{option_map}
use Rattle.std.specs.Map.{lookup}
use Rattle.std.specs.Ordering.{nat_cmp}
use Rattle.std.specs.BTreeMap.{is_at}
use Rattle.snap_ids.specs.declared.id.Ino.{Ino}
use Rattle.snap_ids.specs.declared.id.SnapId.{SnapId}
use Rattle.snap_ids.specs.declared.id.TheConstants.{NOSNAP, ROOT}
use Rattle.snap_ids.specs.declared.values.Kind.{Kind}
use Rattle.snap_ids.specs.declared.values.Kind.TheVariants.{Dir}
use Rattle.plain_tree.specs.State.{Entry, precedes}
use Rattle.dentry_tree.specs.declared.version.Version.{Version}

-- a name of a directory, and the inodes that it named, the oldest first
pub record Dentry : Type 0 where
  pub dir : Ino
  pub name : List ℕ
  pub versions : List Version

-- the names of a tree by directory and name, and what each inode was put as
pub record Tree : Type 0 where
  pub dentries : List Dentry
  pub kinds : List (ℕ × Kind)

-- the version is valid at an id
abbrev pub is_valid_at : SnapId → Version → Bool
is_valid_at s version = nat_le version.valid.first.0 s.0 && nat_le s.0 version.valid.last.0

-- the inode of the version that is valid at an id
abbrev pub ino_at : SnapId → List Version → Option Ino
ino_at s [] = None
ino_at s (version ∷ versions) = if is_valid_at s version then Some version.ino else ino_at s versions

-- the entry of a name where it names an inode
abbrev pub entry_of : Dentry → Ino → Entry
entry_of dentry ino = record { dir = dentry.dir; name = dentry.name; ino = ino }

-- the entry of a name at an id
abbrev pub entry_at : SnapId → Dentry → Option Entry
entry_at s dentry = option_map (entry_of dentry) (ino_at s dentry.versions)

-- the entries of names as they stood when an id was applied
unfoldable pub entries_in : SnapId → List Dentry → List Entry
entries_in s dentries = filter_map (entry_at s) dentries

-- the entries of a tree as they stood when an id was applied; those at NOSNAP are live
abbrev pub entries_at : SnapId → Tree → List Entry
entries_at s tree = entries_in s tree.dentries

abbrev pub kind_or_dir : Option Kind → Kind
kind_or_dir None = Dir
kind_or_dir (Some kind) = kind

-- what an inode was put as last; a directory where it wasn't put
unfoldable pub kind_in : List (ℕ × Kind) → Ino → Kind
kind_in kinds ino = kind_or_dir (lookup (is_at (nat_cmp ino.0)) kinds)

abbrev pub kind_of : Tree → Ino → Kind
kind_of tree ino = kind_in tree.kinds ino

-- the last id at which a version began or ended: it begins with the next one
abbrev pub changed_at : Version → ℕ
changed_at version = max (version.valid.first.0 - 1) (if version.valid.last.0 == NOSNAP.0 then 0 else version.valid.last.0)

abbrev pub newest_of : List Version → ℕ
newest_of [] = 0
newest_of (version ∷ versions) = max (changed_at version) (newest_of versions)

unfoldable pub newest_in : List Dentry → ℕ
newest_in [] = 0
newest_in (dentry ∷ dentries) = max (newest_of dentry.versions) (newest_in dentries)

-- the last id at which an entry of the tree began or ended: no entry is valid from later than the next id, and none but
-- a live one up to a later id
abbrev pub newest : Tree → ℕ
newest tree = newest_in tree.dentries

-- versions from one id to before another, in order and without overlap, so that their first ids rise strictly
abbrev pub AreBetween : ℕ → List Version → ℕ → Type 0
AreBetween low [] high = low ≤ high
AreBetween low (version ∷ versions) high = (low ≤ version.valid.first.0) × (version.valid.first.0 ≤ version.valid.last.0) × AreBetween (version.valid.last.0 + 1) versions high

-- the versions of a name
abbrev pub AreVersions : Dentry → Type 0
AreVersions dentry = AreBetween 0 dentry.versions (NOSNAP.0 + 1)

-- one name stands before another
abbrev pub IsBefore : Dentry → Dentry → Type 0
IsBefore a b = IsTrue (precedes (entry_of a ROOT) (entry_of b ROOT))

-- each name stands before all later ones
abbrev pub IsInOrder : List Dentry → Type 0
IsInOrder [] = Unit {0}
IsInOrder (dentry ∷ dentries) = AllByRecursion (IsBefore dentry) dentries × IsInOrder dentries

-- the names are in order, and so are the versions of each
pub record AreDentries (dentries : List Dentry) : Type 0 where
  pub in_order : IsInOrder dentries
  pub versions : AllByRecursion AreVersions dentries

-- how many versions there are
abbrev pub total : List Dentry → ℕ
total dentries = sum_by (λ dentry. length dentry.versions) dentries

-- Where a name of a directory stands, and what one more version, a cut and a trim leave.
use Rattle.std.specs.Prelude.{◌≡◌, ◌≤◌, ◌<◌, ℕ, ◌+◌, Bool, true, false, not, ◌||◌, ◌==◌, nat_le, min, max, List, [], ◌∷◌, ◌++◌, length, take, drop, map, filter, insert, set, is_some, if◌then◌else◌, Option, None, Some}
use Rattle.std.specs.List.{AllByRecursion, list_any, count_by, sum_by}
use Rattle.std.specs.Option.{option_map}
use Rattle.snap_ids.specs.declared.id.Ino.{Ino}
use Rattle.snap_ids.specs.declared.id.SnapId.{SnapId}
use Rattle.snap_ids.specs.declared.id.TheConstants.{NOSNAP, ROOT}
use Rattle.snap_ids.specs.declared.values.Kind.{Kind}
use Rattle.plain_tree.specs.State.{is_at, same_ino, precedes, add}
use Rattle.plain_tree.specs.Change.{without}
use Rattle.dentry_tree.specs.declared.version.Version.{Version}
use Rattle.dentry_tree.specs.Dentries.{Dentry, entry_of, is_valid_at, ino_at, entries_in, newest_in, AreDentries, total}

-- the dentry stands before a name of a directory
abbrev pub stands_before : Ino → List ℕ → Dentry → Bool
stands_before dir name dentry = precedes (entry_of dentry ROOT) (record { dir = dir; name = name; ino = ROOT })

-- the dentry is that of a name of a directory
abbrev pub has_name : Ino → List ℕ → Dentry → Bool
has_name dir name dentry = is_at dir name (entry_of dentry ROOT)

abbrev pub has_it : Ino → List ℕ → Option Dentry → Bool
has_it dir name None = false
has_it dir name (Some dentry) = has_name dir name dentry

-- the dentries up to a place stand before the name, and none from there on does
pub record IsPlace (dir : Ino) (name : List ℕ) (dentries : List Dentry) (place : ℕ) : Type 0 where
  pub within : place ≤ length dentries
  pub before : AllByRecursion (λ dentry. stands_before dir name dentry ≡ true) (take place dentries)
  pub behind : AllByRecursion (λ dentry. stands_before dir name dentry ≡ false) (drop place dentries)

-- the inode that the name has at an id, where this is the dentry at its place
abbrev pub found_at : SnapId → Ino → List ℕ → Option Dentry → Option Ino
found_at s dir name None = None
found_at s dir name (Some dentry) = if has_name dir name dentry then ino_at s dentry.versions else None

-- the inode of the first version, if there is one and it begins by an id
abbrev pub begun : SnapId → Option Version → Option Ino
begun s None = None
begun s (Some version) = if nat_le version.valid.first.0 s.0 then Some version.ino else None

-- the dentry is one of the directory
abbrev pub is_in : Ino → Dentry → Bool
is_in dir dentry = same_ino dentry.dir dir

-- the name has an inode at an id
abbrev pub is_found_at : SnapId → Dentry → Bool
is_found_at s dentry = is_some (ino_at s dentry.versions)

-- what a directory lists for a dentry at an id
abbrev pub item_at : SnapId → (Ino → Kind) → Dentry → Option (List ℕ × Kind)
item_at s kind dentry = option_map (λ ino. (dentry.name, kind ino)) (ino_at s dentry.versions)

-- a dentry with one more version
abbrev pub with_version : Version → Dentry → Dentry
with_version version dentry = record { dir = dentry.dir; name = dentry.name; versions = dentry.versions ++ version ∷ [] }

-- the dentries with one more version of the name whose place this is, where this is what stands there
abbrev pub begun_at : ℕ → Ino → List ℕ → Version → Option Dentry → List Dentry → List Dentry
begun_at place dir name version None dentries = insert dentries place (record { dir = dir; name = name; versions = version ∷ [] })
begun_at place dir name version (Some dentry) dentries =
    if has_name dir name dentry then set dentries place (with_version version dentry)
    else insert dentries place (record { dir = dir; name = name; versions = version ∷ [] })

-- a version that ends by an id
abbrev pub ended : SnapId → Version → Version
ended applied version = record { ino = version.ino; valid = record { first = version.valid.first; last = record { 0 = min version.valid.last.0 applied.0 } } }

-- the last of some versions ends by an id
abbrev pub last_ended : SnapId → List Version → List Version
last_ended applied [] = []
last_ended applied (version ∷ []) = ended applied version ∷ []
last_ended applied (version ∷ next ∷ versions) = version ∷ last_ended applied (next ∷ versions)

-- the versions that begin by an id, the last of which ends by it
abbrev pub cut_versions : SnapId → List Version → List Version
cut_versions applied [] = []
cut_versions applied (version ∷ versions) = if nat_le version.valid.first.0 applied.0 then ended applied version ∷ cut_versions applied versions else []

abbrev pub cut_dentry : SnapId → Dentry → Dentry
cut_dentry applied dentry = record { dir = dentry.dir; name = dentry.name; versions = cut_versions applied dentry.versions }

-- the dentry has versions
abbrev pub has_versions : Dentry → Bool
has_versions dentry = not (length dentry.versions == 0)

-- a dentry, or nothing where it has no version
abbrev pub kept : Dentry → List Dentry
kept dentry = if has_versions dentry then dentry ∷ [] else []

-- the version is live, or valid at an id of a list
abbrev pub is_needed : List SnapId → Version → Bool
is_needed live version = (version.valid.last.0 == NOSNAP.0) || list_any (λ s. is_valid_at s version) live

abbrev pub trimmed : List SnapId → Dentry → Dentry
trimmed live dentry = record { dir = dentry.dir; name = dentry.name; versions = filter (is_needed live) dentry.versions }

-- the dentries without the versions that aren't needed
abbrev pub trimmed_all : List SnapId → List Dentry → List Dentry
trimmed_all live dentries = filter has_versions (map (trimmed live) dentries)

-- how many these are
abbrev pub unneeded : List SnapId → Dentry → ℕ
unneeded live dentry = count_by (λ version. not (is_needed live version)) dentry.versions

unfoldable pub count_unneeded : List SnapId → List Dentry → ℕ
count_unneeded live dentries = sum_by (unneeded live) dentries

-- the version of an inode that a name gets after an id
abbrev pub begins : SnapId → Ino → Version
begins applied ino = record { ino = ino; valid = record { first = record { 0 = applied.0 + 1 }; last = NOSNAP } }

-- a name gets an inode from the id after `applied` on, and nothing else changes
pub record Puts (applied : SnapId) (dir : Ino) (name : List ℕ) (ino : Ino) (old new : List Dentry) : Type 0 where
  pub dentries : AreDentries new
  pub earlier : (s : SnapId) → s.0 ≤ applied.0 → entries_in s new ≡ entries_in s old
  pub later : (s : SnapId) → applied.0 < s.0 → s.0 ≤ NOSNAP.0 → entries_in s new ≡ add (record { dir = dir; name = name; ino = ino }) (entries_in s old)
  pub newest : newest_in new ≤ applied.0
  pub count : total new ≡ total old + 1

-- a name loses its inode from the id after `applied` on, and nothing else changes
pub record Cuts (applied : SnapId) (dir : Ino) (name : List ℕ) (old new : List Dentry) : Type 0 where
  pub dentries : AreDentries new
  pub earlier : (s : SnapId) → s.0 ≤ applied.0 → entries_in s new ≡ entries_in s old
  pub later : (s : SnapId) → applied.0 < s.0 → entries_in s new ≡ without dir name (entries_in s old)
  pub newest : newest_in new ≤ max (newest_in old) applied.0

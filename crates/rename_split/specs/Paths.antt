-- Names of paths, and the directories that they lead to.
use Rattle.std.specs.Prelude.{◌≡◌, ◌-◌, true, false, ℕ, List, [], length, slice_get, Option, None, Some}
use Rattle.snap_ids.specs.declared.id.Ino.{Ino}
use Rattle.snap_realm.specs.Tree as realms

abbrev pub name_by : Option (List ℕ) → List ℕ
name_by None = []
name_by (Some name) = name

-- the last name of a path that has one
abbrev pub last_name : List (List ℕ) → List ℕ
last_name path = name_by (slice_get path (length path - 1))

-- in the tree of realms, a directory is there and not in the global realm
pub record IsDirectory (place : realms.Tree) (dir : Ino) : Type 0 where
  pub there : realms.is_there place dir ≡ true
  pub outside : realms.is_in_global place dir ≡ false

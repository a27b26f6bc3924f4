-- Which texts are paths, and the names that each has.
use Rattle.std.specs.Prelude.{ℕ, ◌+◌, ◌&&◌, ◌==◌, nat_le, List, [], ◌∷◌, length, take, drop, position, if◌then◌else◌, Option, None, Some}
use Rattle.std.specs.List.{list_all, slice_split}
use Rattle.snap_ids.specs.Name.{is_name, is_dot_snap}
use Rattle.snap_ids.specs.declared.path.Target.{Target}
use Rattle.snap_ids.specs.declared.path.Target.TheVariants as target

-- what stands behind a path's first `/`: nothing, or 1 to 32 names with a `/` between two
abbrev pub names_of : List ℕ → Option (List (List ℕ))
names_of [] = Some []
names_of (b ∷ bs) =
    let names = slice_split (λ c. c == 47) (b ∷ bs) in
    if nat_le (length names) 32 && list_all is_name names then Some names else None

-- the names of a path: none of `/`, else 1 to 32, each after one `/`
abbrev pub path_of : List ℕ → Option (List (List ℕ))
path_of [] = None
path_of (b ∷ bs) = if b == 47 then names_of bs else None

-- where a path leads: to an entry of the live tree, to a directory's `.snap`, or into a snapshot there
pub data Place : Type 0 where
  Live : List (List ℕ) → Place
  Snaps : List (List ℕ) → Place
  InSnap : List (List ℕ) → List ℕ → List (List ℕ) → Place

-- what follows the `.snap` of a directory: nothing, or a snapshot's name and a path below it
abbrev pub place_behind : List (List ℕ) → List (List ℕ) → Place
place_behind dir [] = Snaps dir
place_behind dir (name ∷ rest) = InSnap dir name rest

abbrev pub place_at : List (List ℕ) → Option ℕ → Place
place_at path None = Live path
place_at path (Some i) = place_behind (take i path) (drop (i + 1) path)

-- a path is split at its first `.snap`; a later one is a name that no entry has
abbrev pub place_of : List (List ℕ) → Place
place_of path = place_at path (position is_dot_snap path)

-- the place that a target says
abbrev pub place_said : Target → Place
place_said (target.Live path) = Live path.now
place_said (target.Snaps dir) = Snaps dir.now
place_said (target.InSnap dir name rest) = InSnap dir.now name.now rest.now

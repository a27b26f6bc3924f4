-- Which objects are noted for which snapshots.
use Rattle.std.specs.Prelude.{ℕ, ◌≡◌, Bool, true, false, Option, None, Some}
use Rattle.std.specs.Ordering.{nat_cmp, ordering_then}
use Rattle.std.specs.declared.cmp.Ordering.{Ordering}
use Rattle.std.specs.BTreeMap.{get}
use Rattle.std.specs.BTreeSet.{BTreeSet, contains}
use Rattle.snap_ids.specs.declared.id.SnapId.{SnapId}
use Rattle.object_clones.specs.declared.listing.Listing.{Listing}

-- objects are in the order of their inodes, and of their indexes
abbrev pub place_cmp : ℕ × ℕ → ℕ × ℕ → Ordering
place_cmp x y = ordering_then (nat_cmp x.0 y.0) (nat_cmp x.1 y.1)

-- an object is among those noted, if some are
abbrev pub has_place : Option (BTreeSet (ℕ × ℕ)) → ℕ → ℕ → Bool
has_place None ino index = false
has_place (Some places) ino index = contains place_cmp places (ino, index)

-- an object is noted for an id
abbrev pub noted : Listing → SnapId → ℕ → ℕ → Bool
noted listing s ino index = has_place (get nat_cmp listing.objects s.0) ino index

-- what was noted stays noted
abbrev pub Grows : Listing → Listing → Type 0
Grows old new = (s : SnapId) (ino index : ℕ) → noted old s ino index ≡ true → noted new s ino index ≡ true

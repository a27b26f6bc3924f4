-- Which snapshots were purged.
use Rattle.std.specs.Prelude.{ℕ, Bool, List}
use Rattle.std.specs.List.{list_any}
use Rattle.std.specs.Ordering.{nat_cmp}
use Rattle.std.specs.BTreeMap.{is_at}
use Rattle.snap_ids.specs.declared.id.SnapId.{SnapId}
use Rattle.object_clones.specs.declared.purged.Purged.{Purged}

-- an id is among the keys
abbrev pub has_id : List ℕ → SnapId → Bool
has_id ids s = list_any (is_at (nat_cmp s.0)) ids

-- a snapshot was purged
abbrev pub has : Purged → SnapId → Bool
has purged s = has_id purged.ids.keys s

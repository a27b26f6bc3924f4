use Rattle.std.proofs.Common.{◌≡◌, ◌++◌, length}
use Rattle.std.specs.List.{AllByRecursion, filter_map}
use Rattle.dentry_tree.specs.Dentries.{AreVersions, kind_in}
use Rattle.dentry_tree.specs.Places.{item_at}
use Rattle.dentry_tree.proofs.places.listed.Given as goal

-- the items so far, and those of the dentries that are left
abbrev pub invariant-loop-dentry : goal.invariant-loop-dentry
invariant-loop-dentry l = record {
  made : l.items.items ++ filter_map (item_at l.s (kind_in l.kinds)) l.left ≡ filter_map (item_at l.s (kind_in l.kinds)) l.dentries;
  versions : AllByRecursion AreVersions l.left;
}

abbrev pub decreases-loop-dentry : goal.decreases-loop-dentry
decreases-loop-dentry l = length l.left

use Rattle.std.proofs.Common.{◌≡◌, length}
use Rattle.std.specs.List.{AllByRecursion, list_any}
use Rattle.dentry_tree.specs.Dentries.{AreVersions}
use Rattle.dentry_tree.specs.Places.{is_found_at}
use Rattle.dentry_tree.proofs.places.has_some.Given as goal

-- none so far has one
abbrev pub invariant-loop-dentry : goal.invariant-loop-dentry
invariant-loop-dentry l = record {
  none : list_any (is_found_at l.s) l.dentries ≡ list_any (is_found_at l.s) l.left;
  versions : AllByRecursion AreVersions l.left;
}

abbrev pub decreases-loop-dentry : goal.decreases-loop-dentry
decreases-loop-dentry l = length l.left

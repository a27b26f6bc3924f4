use Rattle.std.proofs.Common.{◌≡◌, ◌+◌, length}
use Rattle.dentry_tree.specs.Places.{count_unneeded}
use Rattle.dentry_tree.proofs.places.unneeded.Given as goal

-- those of the dentries so far, and of those that are left
abbrev pub invariant-loop-dentry : goal.invariant-loop-dentry
invariant-loop-dentry l = l.count + count_unneeded l.live l.left ≡ count_unneeded l.live l.dentries

abbrev pub decreases-loop-dentry : goal.decreases-loop-dentry
decreases-loop-dentry l = length l.left

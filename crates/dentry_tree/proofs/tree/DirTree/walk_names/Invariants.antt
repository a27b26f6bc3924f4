use Rattle.std.proofs.Common.{◌≡◌, length}
use Rattle.plain_tree.specs.Walk.{walk}
use Rattle.dentry_tree.specs.Dentries.{entries_at, kind_of}
use Rattle.dentry_tree.proofs.tree.DirTree.walk_names.Given as goal

-- the walk goes on from where it is along the names that are left
abbrev pub invariant-loop-name : goal.invariant-loop-name
invariant-loop-name l = walk (kind_of l.self) (entries_at l.s l.self) l.fn.start l.names ≡ walk (kind_of l.self) (entries_at l.s l.self) l.at l.left

abbrev pub decreases-loop-name : goal.decreases-loop-name
decreases-loop-name l = length l.left

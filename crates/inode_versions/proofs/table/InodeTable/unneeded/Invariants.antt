use Rattle.std.proofs.Common.{◌≡◌, ◌+◌}
use Rattle.std.specs.List.{sum_by}
use Rattle.inode_versions.specs.Parts.{unneeded}
use Rattle.inode_versions.specs.Table.{count_unneeded}
use Rattle.inode_versions.proofs.table.InodeTable.unneeded.Given as goal

-- those of the inodes so far, and of those that are left
abbrev pub invariant-loop-history : goal.invariant-loop-history
invariant-loop-history l = l.count + sum_by (unneeded l.live) l.history-iterator ≡ count_unneeded l.live l.self

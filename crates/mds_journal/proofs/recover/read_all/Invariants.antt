use Rattle.std.proofs.Common.{length, ◌-◌}
use Rattle.mds_journal.proofs.Looked.{ReadSoFar}
use Rattle.mds_journal.proofs.recover.read_all.Given as goal

abbrev pub invariant-loop-bytes : goal.invariant-loop-bytes
invariant-loop-bytes g l = ReadSoFar g.D.Disk.file g.D.Disk.may_leave g.D.Disk.left_since g.D.Disk.faults l.initial.disk l.disk l.bytes.items

abbrev pub decreases-loop-bytes : goal.decreases-loop-bytes
decreases-loop-bytes g l = length (g.D.Disk.file l.disk) - length l.bytes.items

use Rattle.std.proofs.Common.{length}
use Rattle.mds_journal.proofs.Scanned.{SoFar}
use Rattle.mds_journal.proofs.scan.scan.Given as goal

abbrev pub invariant-loop-entries : goal.invariant-loop-entries
invariant-loop-entries l = SoFar l.bytes l.entries.items l.rest

abbrev pub decreases-loop-entries : goal.decreases-loop-entries
decreases-loop-entries l = length l.rest

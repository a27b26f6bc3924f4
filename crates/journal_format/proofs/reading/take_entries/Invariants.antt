use Rattle.std.proofs.Common.{length}
use Rattle.journal_format.proofs.Listed.{SoFar}
use Rattle.journal_format.proofs.reading.take_entries.Given as goal

abbrev pub invariant-loop-rest : goal.invariant-loop-rest
invariant-loop-rest l = SoFar l.bytes l.entries l.rest

abbrev pub decreases-loop-rest : goal.decreases-loop-rest
decreases-loop-rest l = length l.rest

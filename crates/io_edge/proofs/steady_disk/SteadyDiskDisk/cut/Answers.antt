use Rattle.io_edge.specs.Past.{Past}
use Rattle.io_edge.proofs.PastLemmas.{passes_more}
use Rattle.io_edge.proofs.steady_disk.SteadyDiskDisk.cut.Goals as goal

-- the call joins those that were done
pub returns-clause-time : goal.returns-clause-time
returns-clause-time c = passes_more (λ (past : Past). past) _ _ _ _ c.in_ok-cut.ensures.ok c.self.view_is

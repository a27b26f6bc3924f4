use Rattle.std.proofs.Common.{ap, ◌∙◌}
use Rattle.io_edge.specs.declared.disk_call.DiskCall.TheVariants.{Sync}
use Rattle.io_edge.specs.Past.{Past, more}
use Rattle.io_edge.proofs.PastLemmas.{synced, passes_more}
use Rattle.io_edge.proofs.steady_disk.SteadyDiskDisk.sync.Goals as goal

pub returns-clause-crash : goal.returns-clause-crash
returns-clause-crash c = synced _ _ (c.in_ok-sync.ensures.ok ∙ ap (more Sync) c.self.view_is)

-- the call joins those that were done
pub returns-clause-time : goal.returns-clause-time
returns-clause-time c = passes_more (λ (past : Past). past) _ _ _ _ c.in_ok-sync.ensures.ok c.self.view_is

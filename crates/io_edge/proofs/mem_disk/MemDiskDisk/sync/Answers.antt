use Rattle.std.proofs.Common.{ap, ◌∙◌}
use Rattle.io_edge.specs.declared.disk_call.DiskCall.TheVariants.{Sync}
use Rattle.io_edge.specs.Drive.{Drive}
use Rattle.io_edge.specs.Past.{more}
use Rattle.io_edge.proofs.PastLemmas.{synced, passes_more}
use Rattle.io_edge.proofs.mem_disk.MemDiskDisk.sync.Goals as goal

pub returns-clause-crash : goal.returns-clause-crash
returns-clause-crash c = synced _ _ (c.in_ok-sync.ensures.ok ∙ ap (λ (drive : Drive). more Sync drive.past) c.self.view_is)

-- the call joins those that were done
pub returns-clause-time : goal.returns-clause-time
returns-clause-time c = passes_more (λ (drive : Drive). drive.past) _ _ _ _ c.in_ok-sync.ensures.ok (ap (λ (drive : Drive). drive.past) c.self.view_is)

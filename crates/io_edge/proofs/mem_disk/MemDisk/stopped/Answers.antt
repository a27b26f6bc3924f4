use Rattle.std.proofs.Common.{ap}
use Rattle.io_edge.specs.Drive.{Drive}
use Rattle.io_edge.proofs.PastLemmas.{leaves_stopped}
use Rattle.io_edge.proofs.mem_disk.MemDisk.stopped.Goals as goal

pub returns-clause-one_of : goal.returns-clause-one_of
returns-clause-one_of c = leaves_stopped _ _ _ _ c.in_ok-past.ensures (ap (λ (drive : Drive). drive.past) c.self.view_is)

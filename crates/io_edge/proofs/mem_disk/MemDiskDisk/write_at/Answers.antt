use Rattle.std.proofs.Common.{length, ap, ◌∙◌}
use Rattle.io_edge.specs.Disk.{Torn}
use Rattle.io_edge.specs.DiskLaws.{torn_undone}
use Rattle.io_edge.specs.Drive.{Drive}
use Rattle.io_edge.proofs.PastLemmas.{unchanged, passes_more}
use Rattle.io_edge.proofs.mem_disk.MemDiskDisk.write_at.Goals as goal

pub returns-in_err-admit-clause-crash : goal.returns-in_err-admit-clause-crash
returns-in_err-admit-clause-crash c = unchanged (Torn c.args.place (length c.args.bytes.now)) (torn_undone c.args.place (length c.args.bytes.now)) _ _ (ap (λ (drive : Drive). drive.past) c.self.view_is)

pub returns-in_err-write-clause-crash : goal.returns-in_err-write-clause-crash
returns-in_err-write-clause-crash c = unchanged (Torn c.args.place (length c.args.bytes.now)) (torn_undone c.args.place (length c.args.bytes.now)) _ _ (c.in_err-write.ensures.err ∙ ap (λ (drive : Drive). drive.past) c.self.view_is)

-- the call joins those that were done
pub returns-clause-time : goal.returns-clause-time
returns-clause-time c = passes_more (λ (drive : Drive). drive.past) _ _ _ _ c.in_ok-write.ensures.ok (ap (λ (drive : Drive). drive.past) c.self.view_is)

use Rattle.std.proofs.Common.{ap, ◌∙◌}
use Rattle.io_edge.specs.Disk.{Shortened}
use Rattle.io_edge.specs.DiskLaws.{shortened_undone}
use Rattle.io_edge.specs.Drive.{Drive}
use Rattle.io_edge.proofs.PastLemmas.{unchanged, passes_more}
use Rattle.io_edge.proofs.mem_disk.MemDiskDisk.cut.Goals as goal

pub returns-in_err-admit-clause-crash : goal.returns-in_err-admit-clause-crash
returns-in_err-admit-clause-crash c = unchanged (Shortened c.args.length) (shortened_undone c.args.length) _ _ (ap (λ (drive : Drive). drive.past) c.self.view_is)

pub returns-in_err-cut-clause-crash : goal.returns-in_err-cut-clause-crash
returns-in_err-cut-clause-crash c = unchanged (Shortened c.args.length) (shortened_undone c.args.length) _ _ (c.in_err-cut.ensures.err ∙ ap (λ (drive : Drive). drive.past) c.self.view_is)

-- the call joins those that were done
pub returns-clause-time : goal.returns-clause-time
returns-clause-time c = passes_more (λ (drive : Drive). drive.past) _ _ _ _ c.in_ok-cut.ensures.ok (ap (λ (drive : Drive). drive.past) c.self.view_is)

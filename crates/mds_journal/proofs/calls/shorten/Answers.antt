use Rattle.io_edge.specs.Disk.{Shortened}
use Rattle.io_edge.specs.DiskLaws.{shortened_undone}
use Rattle.mds_journal.proofs.Steps.{changed, put_on_disk}
use Rattle.mds_journal.proofs.calls.shorten.Goals as goal

pub returns-in_err-cut-clause-any_moment : goal.returns-in_err-cut-clause-any_moment
returns-in_err-cut-clause-any_moment g c =
    changed g.D.Disk.may_leave g.D.Disk.left_since (Shortened c.args.most) (shortened_undone c.args.most) c.args.disk.now c.cut.new.self (λ f. g.met.D.Disk.since_now c.args.disk.now f) c.cut.ensures.time c.cut.ensures.crash

pub returns-clause-any_moment : goal.returns-clause-any_moment
returns-clause-any_moment g c =
    put_on_disk g.D.Disk.may_leave g.D.Disk.left_since (Shortened c.args.most) (shortened_undone c.args.most) c.args.disk.now c.cut.new.self (λ f. g.met.D.Disk.since_now c.args.disk.now f) c.cut.ensures.time c.cut.ensures.crash c.sync.new.self c.sync.ensures.time c.sync.ensures.crash

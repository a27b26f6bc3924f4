use Rattle.std.proofs.Common.{length}
use Rattle.io_edge.specs.Disk.{Torn}
use Rattle.io_edge.specs.DiskLaws.{torn_undone}
use Rattle.mds_journal.proofs.Steps.{changed, put_on_disk}
use Rattle.mds_journal.proofs.calls.put.Goals as goal

pub returns-in_err-write_at-clause-any_moment : goal.returns-in_err-write_at-clause-any_moment
returns-in_err-write_at-clause-any_moment g c =
    changed g.D.Disk.may_leave g.D.Disk.left_since (Torn c.args.place (length c.args.bytes.now)) (torn_undone c.args.place (length c.args.bytes.now)) c.args.disk.now c.write_at.new.self (λ f. g.met.D.Disk.since_now c.args.disk.now f) c.write_at.ensures.time c.write_at.ensures.crash

pub returns-clause-any_moment : goal.returns-clause-any_moment
returns-clause-any_moment g c =
    put_on_disk g.D.Disk.may_leave g.D.Disk.left_since (Torn c.args.place (length c.args.bytes.now)) (torn_undone c.args.place (length c.args.bytes.now)) c.args.disk.now c.write_at.new.self (λ f. g.met.D.Disk.since_now c.args.disk.now f) c.write_at.ensures.time c.write_at.ensures.crash c.sync.new.self c.sync.ensures.time c.sync.ensures.crash

use Rattle.std.proofs.Common.{sym, ◌∙◌}
use Rattle.mds_journal.proofs.Looked.{more_read, all_read}
use Rattle.mds_journal.proofs.recover.read_all.Goals as goal

pub loop-bytes-preserved : goal.loop-bytes-preserved
loop-bytes-preserved g c =
    more_read g.D.Disk.file g.D.Disk.may_leave g.D.Disk.left_since g.D.Disk.faults g.met.D.Disk.since_now c.args.disk.now c.loop-bytes.disk c.read_more.new.disk c.loop-bytes.bytes.items c.read_more.new.bytes.items
    c.loop-bytes.invariant c.read_more.ensures.looks c.in_ok-read_more.ensures.bytes c.in_ok-read_more.ensures.counted.ok

pub returns-clause-bytes : goal.returns-clause-bytes
returns-clause-bytes g c =
    all_read g.D.Disk.file g.D.Disk.may_leave g.D.Disk.left_since g.D.Disk.faults c.args.disk.now c.loop-bytes.disk c.loop-bytes.bytes.items c.read_more.new.bytes.items
    c.loop-bytes.invariant c.in_ok-read_more.ensures.bytes (sym c.if-branch.false ∙ c.in_ok-read_more.ensures.more)

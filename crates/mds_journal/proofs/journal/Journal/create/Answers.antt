use Rattle.std.proofs.Common.{[], true, sym, ap, length}
use Rattle.mds_journal.proofs.Sound.{empty_image, sound_image}
use Rattle.mds_journal.proofs.journal.Journal.create.Goals as goal

pub invariant_of-result : goal.invariant_of-result
invariant_of-result g c =
    sound_image (g.D.Disk.file c.clear.new.disk) (g.D.Disk.may_leave c.clear.new.disk) 8 true [] (empty_image (g.D.Disk.file c.clear.new.disk) c.in-Ok.ensures.image) (sym (ap length c.in-Ok.ensures.image)) c.in-Ok.ensures.durable

pub returns-in-Ok-clause-image : goal.returns-in-Ok-clause-image
returns-in-Ok-clause-image g c = empty_image (g.D.Disk.file c.clear.new.disk) c.in-Ok.ensures.image

use Rattle.std.proofs.Common.{◌≡◌, ◌++◌, ap, subst, sym, ◌∙◌, true}
use Rattle.journal_format.specs.Image.{IsImage}
use Rattle.mds_journal.specs.Stops.{IsWithOrWithout, Counts}
use Rattle.mds_journal.specs.Log.{Log, Rests}
use Rattle.mds_journal.proofs.Recovered.{at_last}
use Rattle.mds_journal.proofs.Sound.{sound_image, sound_left}
use Rattle.mds_journal.proofs.journal.Journal.append_batch.Goals as goal

pub invariant_of-self : goal.invariant_of-self
invariant_of-self g c =
    let old = c.self.inside.disk in
    let rests : Rests (g.D.Disk.file old) (g.D.Disk.may_leave old) c.self.inside.gate = c.self.invariant.rests (ap (λ (v : Log g.row.D.Denot). v.ready) c.self.view_is ∙ c.requires.ready) in
    let batch = c.requires.batch.0 in
    sound_left (g.D.Disk.file c.append.new.disk) (g.D.Disk.may_leave c.append.new.disk) c.self.inside.gate rests.entries batch
    (at_last g.D.Disk.file g.D.Disk.may_leave g.D.Disk.left_since g.met.D.Disk.leaves_file g.met.D.Disk.since_now old c.append.new.disk (IsWithOrWithout rests.entries batch) c.append.ensures.moments
    (c.append.ensures.any_moment rests.entries batch rests.image c.requires.batch.1))

pub returns-in_err-gate-clause-left : goal.returns-in_err-gate-clause-left
returns-in_err-gate-clause-left g c = λ entries batch image encodes.
    let old = c.self.inside.disk in
    let same : old ≡ c.args.self.now.disk = ap (λ (v : Log g.row.D.Denot). v.disk) c.self.view_is in
    at_last g.D.Disk.file g.D.Disk.may_leave g.D.Disk.left_since g.met.D.Disk.leaves_file g.met.D.Disk.since_now old c.append.new.disk (IsWithOrWithout entries batch) c.append.ensures.moments
    (c.append.ensures.any_moment entries batch (subst (λ (d : g.row.D.Denot). IsImage (g.D.Disk.file d) entries) (sym same) image) encodes)

pub returns-in_err-gate-clause-moments : goal.returns-in_err-gate-clause-moments
returns-in_err-gate-clause-moments g c =
    subst (λ (d : g.row.D.Denot). Counts g.D.Disk.may_leave g.D.Disk.left_since d c.append.new.disk) (ap (λ (v : Log g.row.D.Denot). v.disk) c.self.view_is) c.append.ensures.moments

pub invariant_of-self-2 : goal.invariant_of-self-2
invariant_of-self-2 g c =
    let old = c.self.inside.disk in
    let rests : Rests (g.D.Disk.file old) (g.D.Disk.may_leave old) c.self.inside.gate = c.self.invariant.rests (ap (λ (v : Log g.row.D.Denot). v.ready) c.self.view_is ∙ c.requires.ready) in
    let batch = c.requires.batch.0 in
    sound_image (g.D.Disk.file c.append.new.disk) (g.D.Disk.may_leave c.append.new.disk) c.in_ok-gate.gate true (rests.entries ++ batch)
    (c.in_ok-gate.ensures.image rests.entries batch rests.image c.requires.batch.1) c.in_ok-gate.ensures.place c.in_ok-gate.ensures.durable

pub returns-clause-moments : goal.returns-clause-moments
returns-clause-moments g c =
    subst (λ (d : g.row.D.Denot). Counts g.D.Disk.may_leave g.D.Disk.left_since d c.append.new.disk) (ap (λ (v : Log g.row.D.Denot). v.disk) c.self.view_is) c.append.ensures.moments

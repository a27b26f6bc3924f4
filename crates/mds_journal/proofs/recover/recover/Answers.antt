use Rattle.std.proofs.Common.{List, ℕ, ◌+◌, take, subst, sym, ◌∙◌, ap}
use Rattle.mds_journal.specs.Stops.{HasGate}
use Rattle.mds_journal.proofs.Recovered.{cut_is, cut_keeps, cut_file, refused}
use Rattle.mds_journal.proofs.recover.recover.Goals as goal

pub returns-in-Err-scan-clause-not_journal : goal.returns-in-Err-scan-clause-not_journal
returns-in-Err-scan-clause-not_journal g c = λ because entries journal.
    refused (g.D.Disk.file c.args.disk.now) c.deref.result.now c.in-Err-scan.fault (c.deref.ensures.value ∙ c.in-Ok.ensures.bytes) c.in-Err-scan.ensures (cc because) entries journal

pub returns-in-Ok-shorten-clause-any_moment : goal.returns-in-Ok-shorten-clause-any_moment
returns-in-Ok-shorten-clause-any_moment g c =
    let has : HasGate (g.D.Disk.file c.args.disk.now) c.in-Ok-scan.found.0 c.in-Ok-scan.found.1 = subst (λ (l : List ℕ). HasGate l c.in-Ok-scan.found.0 c.in-Ok-scan.found.1) (c.deref.ensures.value ∙ c.in-Ok.ensures.bytes) c.in-Ok-scan.ensures in
    cut_keeps g.D.Disk.file g.D.Disk.may_leave g.D.Disk.left_since g.met.D.Disk.leaves_file g.met.D.Disk.since_now c.args.disk.now c.load.new.disk c.shorten.new.disk
    c.in-Ok-scan.found.0 c.in-Ok-scan.found.1 c.load.ensures.looks c.in-Ok.ensures.durable has c.shorten.ensures.any_moment c.shorten.ensures.moments

pub returns-in-Ok-shorten-clause-kept : goal.returns-in-Ok-shorten-clause-kept
returns-in-Ok-shorten-clause-kept g c =
    let has : HasGate (g.D.Disk.file c.args.disk.now) c.in-Ok-scan.found.0 c.in-Ok-scan.found.1 = subst (λ (l : List ℕ). HasGate l c.in-Ok-scan.found.0 c.in-Ok-scan.found.1) (c.deref.ensures.value ∙ c.in-Ok.ensures.bytes) c.in-Ok-scan.ensures in
    cut_file g.D.Disk.file g.D.Disk.may_leave g.D.Disk.left_since g.met.D.Disk.leaves_file g.met.D.Disk.since_now c.args.disk.now c.load.new.disk c.shorten.new.disk
    c.in-Ok-scan.found.0 c.in-Ok-scan.found.1 c.load.ensures.looks c.in-Ok.ensures.durable has c.shorten.ensures.any_moment c.shorten.ensures.moments

pub returns-in-Ok-shorten-clause-image : goal.returns-in-Ok-shorten-clause-image
returns-in-Ok-shorten-clause-image g c =
    let has : HasGate (g.D.Disk.file c.args.disk.now) c.in-Ok-scan.found.0 c.in-Ok-scan.found.1 = subst (λ (l : List ℕ). HasGate l c.in-Ok-scan.found.0 c.in-Ok-scan.found.1) (c.deref.ensures.value ∙ c.in-Ok.ensures.bytes) c.in-Ok-scan.ensures in
    (cut_is (g.D.Disk.file c.args.disk.now) (g.D.Disk.file c.shorten.new.disk) c.in-Ok-scan.found.0 c.in-Ok-scan.found.1 has (c.in-Ok-shorten.ensures.file ∙ ap (λ (l : List ℕ). take (c.in-Ok-scan.found.1 + 1) l) c.load.ensures.looks.same)).image

pub returns-clause-any_moment : goal.returns-clause-any_moment
returns-clause-any_moment g c =
    let has : HasGate (g.D.Disk.file c.args.disk.now) c.in-Ok-scan.found.0 c.in-Ok-scan.found.1 = subst (λ (l : List ℕ). HasGate l c.in-Ok-scan.found.0 c.in-Ok-scan.found.1) (c.deref.ensures.value ∙ c.in-Ok.ensures.bytes) c.in-Ok-scan.ensures in
    cut_keeps g.D.Disk.file g.D.Disk.may_leave g.D.Disk.left_since g.met.D.Disk.leaves_file g.met.D.Disk.since_now c.args.disk.now c.load.new.disk c.shorten.new.disk
    c.in-Ok-scan.found.0 c.in-Ok-scan.found.1 c.load.ensures.looks c.in-Ok.ensures.durable has c.shorten.ensures.any_moment c.shorten.ensures.moments

pub returns-clause-kept : goal.returns-clause-kept
returns-clause-kept g c =
    let has : HasGate (g.D.Disk.file c.args.disk.now) c.in-Ok-scan.found.0 c.in-Ok-scan.found.1 = subst (λ (l : List ℕ). HasGate l c.in-Ok-scan.found.0 c.in-Ok-scan.found.1) (c.deref.ensures.value ∙ c.in-Ok.ensures.bytes) c.in-Ok-scan.ensures in
    cut_file g.D.Disk.file g.D.Disk.may_leave g.D.Disk.left_since g.met.D.Disk.leaves_file g.met.D.Disk.since_now c.args.disk.now c.load.new.disk c.shorten.new.disk
    c.in-Ok-scan.found.0 c.in-Ok-scan.found.1 c.load.ensures.looks c.in-Ok.ensures.durable has c.shorten.ensures.any_moment c.shorten.ensures.moments

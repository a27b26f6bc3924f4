use Rattle.std.proofs.Common.{ap, subst}
use Rattle.std.proofs.lemmas.Result.{err_from_is_err_and}
use Rattle.mds_journal.specs.Stops.{KeepsEntries, Counts}
use Rattle.mds_journal.specs.Log.{Log}
use Rattle.mds_journal.proofs.journal.Journal.reopen.Goals as goal

pub returns-in_err-found-clause-kept : goal.returns-in_err-found-clause-kept
returns-in_err-found-clause-kept g c =
    subst (λ (d : g.row.D.Denot). KeepsEntries (g.D.Disk.file d) (g.D.Disk.file c.recover.new.disk)) (ap (λ (v : Log g.row.D.Denot). v.disk) c.self.view_is) c.recover.ensures.kept

pub returns-in_err-found-clause-moments : goal.returns-in_err-found-clause-moments
returns-in_err-found-clause-moments g c =
    subst (λ (d : g.row.D.Denot). Counts g.D.Disk.may_leave g.D.Disk.left_since d c.recover.new.disk) (ap (λ (v : Log g.row.D.Denot). v.disk) c.self.view_is) c.recover.ensures.moments

pub returns-in_err-found-clause-journal : goal.returns-in_err-found-clause-journal
returns-in_err-found-clause-journal g c = λ e.
    let p = err_from_is_err_and c.from_residual.result c.from_residual.ensures.1 in
    c.in_err-found.ensures.not_journal (cc (e, p.1, p.2)) c.self.invariant.entries c.self.invariant.journal

pub returns-clause-kept : goal.returns-clause-kept
returns-clause-kept g c =
    subst (λ (d : g.row.D.Denot). KeepsEntries (g.D.Disk.file d) (g.D.Disk.file c.recover.new.disk)) (ap (λ (v : Log g.row.D.Denot). v.disk) c.self.view_is) c.recover.ensures.kept

pub returns-clause-moments : goal.returns-clause-moments
returns-clause-moments g c =
    subst (λ (d : g.row.D.Denot). Counts g.D.Disk.may_leave g.D.Disk.left_since d c.recover.new.disk) (ap (λ (v : Log g.row.D.Denot). v.disk) c.self.view_is) c.recover.ensures.moments

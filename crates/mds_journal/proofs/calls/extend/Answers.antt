use Rattle.std.proofs.Common.{[], ◌∷◌, sym, subst, ap, ◌∙◌, ℕ, List, ◌++◌}
use Rattle.std.proofs.lemmas.Result.{on_ok_weaker}
use Rattle.io_edge.specs.Disk.{written}
use Rattle.journal_format.specs.Image.{IsImage}
use Rattle.mds_journal.proofs.Stopped.{staging, opening, appended}
use Rattle.mds_journal.proofs.calls.extend.Goals as goal

pub returns-in_err-put-clause-any_moment : goal.returns-in_err-put-clause-any_moment
returns-in_err-put-clause-any_moment g c = λ entries batch image stages.
    staging g.D.Disk.left_since (g.D.Disk.may_leave c.args.disk.now) (g.D.Disk.may_leave c.put.new.disk) c.args.disk.now c.put.new.disk (g.D.Disk.file c.args.disk.now) c.args.bytes.now c.args.gate entries batch image stages c.requires.durable c.put.ensures.any_moment

pub returns-clause-any_moment : goal.returns-clause-any_moment
returns-clause-any_moment g c = λ entries batch image stages.
    opening g.D.Disk.left_since (g.D.Disk.may_leave c.args.disk.now) (g.D.Disk.may_leave c.put.new.disk) c.args.disk.now c.put.new.disk (g.D.Disk.file c.args.disk.now) c.args.bytes.now c.args.gate entries batch image stages c.requires.durable c.put.ensures.any_moment
    c.put-2.new.disk (g.D.Disk.file c.put.new.disk) c.in_ok-put.ensures.file c.in_ok-put.ensures.durable c.put-2.ensures.any_moment

pub returns-clause-image : goal.returns-clause-image
returns-clause-image g c = on_ok_weaker c.put-2.result (λ d entries batch image stages.
    subst (λ (l : List ℕ). IsImage l (entries ++ batch)) (sym (d ∙ ap (λ (l : List ℕ). written c.args.gate (1 ∷ []) l) c.in_ok-put.ensures.file))
    (appended (g.D.Disk.file c.args.disk.now) c.args.bytes.now c.args.gate entries batch image stages)) c.put-2.ensures.file

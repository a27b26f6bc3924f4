use Rattle.std.proofs.Common.{List, ℕ, subst, sym, Bor, length, ◌-◌}
use Rattle.std.proofs.lemmas.Result.{err_from_is_err_and}
use Rattle.plain_types.specs.declared.entry.Entry.{Entry}
use Rattle.mds_journal.specs.Stops.{HasGate}
use Rattle.mds_journal.proofs.Scanned.{SoFar, one_more, ended, some_read, none_read, not_read}
use Rattle.mds_journal.proofs.scan.scan.Goals as goal

abbrev view : List Entry × Bor (List ℕ) → List Entry × List ℕ
view x = (x.0, x.1.now)

pub returns-in_err-batch : goal.returns-in_err-batch
returns-in_err-batch c =
    let p = err_from_is_err_and c.from_residual.result c.from_residual.ensures.1 in
    rw (p.1, p.2) (not_read view c.in_err-batch.field-0.0 c.args.bytes.now c.loop-entries.entries.items c.loop-entries.rest.now c.loop-entries.invariant c.in_err-batch.ensures)

pub loop-entries-preserved : goal.loop-entries-preserved
loop-entries-preserved c =
    let read = some_read view c.loop-entries.rest.now c.in_ok-batch.field-0 (c.in-Some-2.batch, c.in-Some-2.behind) c.in-Some-2.is c.in_ok-batch.ensures in
    subst (λ (l : List Entry). SoFar c.args.bytes.now l c.in-Some-2.behind.now) (sym c.in_ok-put_batch.ensures.ok)
    (one_more c.args.bytes.now c.loop-entries.entries.items c.loop-entries.rest.now c.in-Some-2.batch c.in-Some-2.behind.now c.loop-entries.invariant read.0 read.1)

pub returns : goal.returns
returns c =
    let closed = none_read view c.loop-entries.rest.now c.in_ok-batch.field-0 c.in_default-2.is c.in_ok-batch.ensures in
    subst (λ (l : List Entry). HasGate c.args.bytes.now l (length c.args.bytes.now - length c.loop-entries.rest.now)) (sym c.from_vec.ensures) (ended c.args.bytes.now c.loop-entries.entries.items c.loop-entries.rest.now c.loop-entries.invariant closed)

use Rattle.std.proofs.lemmas.Result.{err_from_is_err_and}
use Rattle.journal_format.proofs.Listed.{takes_some, one_more, ends}
use Rattle.journal_format.proofs.reading.take_entries.Goals as goal

pub returns-in_err-entry : goal.returns-in_err-entry
returns-in_err-entry c =
    let p = err_from_is_err_and c.from_residual.result c.from_residual.ensures.1 in
    rw (p.1, p.2) (ends c.in_err-entry.field-0.0 c.args.bytes.now c.loop-rest.entries c.loop-rest.rest.now c.loop-rest.invariant c.loop-rest-test.ensures c.in_err-entry.ensures)

pub loop-rest-smaller : goal.loop-rest-smaller
loop-rest-smaller c = takes_some c.loop-rest.rest.now c.in_ok-entry.entry c.in_ok-entry.after.now c.loop-rest.invariant.read.rest_fits c.in_ok-entry.ensures

pub loop-rest-preserved : goal.loop-rest-preserved
loop-rest-preserved c =
    rw c.in_ok-push.ensures.ok (one_more c.args.bytes.now c.loop-rest.entries c.loop-rest.rest.now c.in_ok-entry.entry c.in_ok-entry.after.now c.loop-rest.invariant c.in_ok-entry.ensures)

use Rattle.std.proofs.Common.{ℕ, List, subst}
use Rattle.io_edge.specs.Outside.{AppendsSome}
use Rattle.snap_run.proofs.Outcomes.{broken}
use Rattle.snap_run.proofs.run.run.Goals as goal

-- some front of the text was written
pub returns-in-Ok-clause-outcome : goal.returns-in-Ok-clause-outcome
returns-in-Ok-clause-outcome g c =
    let verdict = c.in-Ok.verdict in
    let front = subst (λ (text : List ℕ). AppendsSome (g.W.Sink.written c.args.sink.now) (g.W.Sink.written c.write_text.new.sink) text) c.deref.ensures.value c.in-Err-write_text.ensures.err in
    broken _ _ _ verdict.end c.ended-in-Err-write_text.result.end verdict.history c.ended-in-Err-write_text.result.history verdict.text.items c.in-Ok.ensures.verdict front c.in-Err-write_text.ensures.cause c.ended-in-Err-write_text.ensures.end c.ended-in-Err-write_text.ensures.history

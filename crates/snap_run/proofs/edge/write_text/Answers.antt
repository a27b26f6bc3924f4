use Rattle.std.proofs.Common.{ℕ, List, take, drop, ◌∙◌, subst, arith}
use Rattle.std.specs.Io.KnownBytes.{Appends}
use Rattle.std.proofs.Math.Seq.{take-add}
use Rattle.std.proofs.lemmas.List.{length-drop}
use Rattle.io_edge.specs.Outside.{AppendsSome}
use Rattle.snap_run.proofs.Transfers.{appends_more, appends_some, tail_is}
use Rattle.snap_run.proofs.edge.write_text.Goals as goal

-- the next bytes stand behind those before them
pub loop-done-preserved : goal.loop-done-preserved
loop-done-preserved g c =
    let text = c.args.text.now in
    let done = c.loop-done.done in
    let n = c.in-Ok.n in
    let put = subst (λ (rest : List ℕ). Appends (g.W.Sink.written c.loop-done.sink) (g.W.Sink.written c.write.new.self) (take n rest)) (tail_is done text) c.in-Ok.ensures.ok in
    record {
      bounded = omega (arith, c.in-Ok.ensures.bound, length-drop done text, c.loop-done.invariant.bounded);
      written = rw (take-add done n text) (appends_more _ _ _ (take done text) (take n (drop done text)) c.loop-done.invariant.written put);
      sound = c.in-Ok.ensures.sound (λ none. absurd (c.if-n-eq0.false none)) ∙ c.loop-done.invariant.sound;
    }

-- what a failed write leaves
pub returns-in-Err-clause-err : goal.returns-in-Err-clause-err
returns-in-Err-clause-err g c =
    let text = c.args.text.now in
    let done = c.loop-done.done in
    let put = subst (λ (rest : List ℕ). AppendsSome (g.W.Sink.written c.loop-done.sink) (g.W.Sink.written c.write.new.self) rest) (tail_is done text) c.in-Err.ensures.err in
    appends_some _ _ _ text done c.loop-done.invariant.bounded c.loop-done.invariant.written put

use Rattle.std.proofs.Common.{arith, sym, ◌∙◌}
use Rattle.script_text.proofs.Barriers.{uneven-found, uneven-more}
use Rattle.script_text.proofs.reading.Reading.uneven.Goals as goal

pub returns-then-barriers_of-first : goal.returns-then-barriers_of-first
returns-then-barriers_of-first c =
    let lines = c.args.self.now.script.lines in
    sym (uneven-found lines c.loop-client.client c.args.self.now.script.clients (omega arith) c.loop-client.invariant.even
    (λ same. c.if-barriers_of-first.true (c.barriers_of.ensures ∙ same ∙ sym c.barriers_of-first.ensures)))

pub loop-client-preserved : goal.loop-client-preserved
loop-client-preserved c =
    let lines = c.args.self.now.script.lines in
    record {
      first = c.loop-client.invariant.first;
      even = uneven-more lines c.loop-client.client c.loop-client.invariant.even (sym c.barriers_of.ensures ∙ c.if-barriers_of-first.false ∙ c.barriers_of-first.ensures);
    }

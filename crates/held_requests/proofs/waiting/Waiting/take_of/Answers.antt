use Rattle.std.proofs.Common.{length, sym, ap, ◌∙◌, arith}
use Rattle.step_table.specs.Flushes.{not_of}
use Rattle.held_requests.proofs.Steps.{none_of, one_taken, rest_left}
use Rattle.held_requests.proofs.waiting.Waiting.take_of.Goals as goal

pub returns-in_err-first-clause-left : goal.returns-in_err-first-clause-left
returns-in_err-first-clause-left c = c.in_err-first.ensures.left ∙ (none_of c.args.client c.args.self.now (sym c.in_err-first.ensures.taken)).1

pub loop-next-smaller : goal.loop-next-smaller
loop-next-smaller c = omega (arith, one_taken c.args.client c.loop-next.self c.in-Some.next (sym c.in-Some.ensures.taken), ap length c.in-Some.ensures.left)

pub loop-next-preserved : goal.loop-next-preserved
loop-next-preserved c = ap (not_of c.args.client) c.in-Some.ensures.left ∙ rest_left c.args.client c.loop-next.self ∙ c.loop-next.invariant

pub returns-clause-left : goal.returns-clause-left
returns-clause-left c =
    c.in_default.ensures.left
    ∙ (none_of c.args.client c.loop-next.self (sym c.in_default.ensures.taken)).1
    ∙ c.loop-next.invariant
    ∙ ap (not_of c.args.client) c.in_ok-first.ensures.left
    ∙ rest_left c.args.client c.args.self.now

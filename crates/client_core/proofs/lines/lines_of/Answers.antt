use Rattle.client_core.proofs.OneMore.{one_more}
use Rattle.client_core.proofs.lines.lines_of.Goals as goal

pub loop-text-preserved-in_ok-push_back : goal.loop-text-preserved-in_ok-push_back
loop-text-preserved-in_ok-push_back c =
    one_more c.args.number c.loop-text.own.items c.push_back.new.self.items c.in-Some.text.now c.in_ok-copied.field-0 c.loop-text.left.now c.in-Some.rest.now _
    c.loop-text.invariant c.in-Some.ensures.cases.0 c.if-text-number.true c.in_ok-copied.ensures c.in_ok-push_back.ensures.items

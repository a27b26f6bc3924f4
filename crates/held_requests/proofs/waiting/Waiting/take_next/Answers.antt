use Rattle.std.proofs.Common.{◌≡◌, List, filter, None, sym, ap, ◌∙◌}
use Rattle.step_table.specs.ServerState.{Asked}
use Rattle.step_table.specs.Acts.{of_client, first_of}
use Rattle.held_requests.proofs.Steps.{taken, was_first, none_taken, none_of}
use Rattle.held_requests.proofs.waiting.Waiting.take_next.Goals as goal

pub returns-in_err-key-clause-taken : goal.returns-in_err-key-clause-taken
returns-in_err-key-clause-taken c =
    let none : c.from_residual.result ≡ None = search in
    none ∙ sym (none_taken c.self.inside.asked c.self.inside.order.items c.self.inside.index c.pop_front.new.self c.args.client c.self.invariant c.args.self.now c.self.view_is (sym c.in_err-key.ensures.taken))

pub returns-in_err-key-clause-left : goal.returns-in_err-key-clause-left
returns-in_err-key-clause-left c =
    c.self.view_is
    ∙ sym (none_of c.args.client c.args.self.now (none_taken c.self.inside.asked c.self.inside.order.items c.self.inside.index c.pop_front.new.self c.args.client c.self.invariant c.args.self.now c.self.view_is (sym c.in_err-key.ensures.taken))).0

pub invariant_of-self-2 : goal.invariant_of-self-2
invariant_of-self-2 c =
    (taken c.self.inside.asked c.self.inside.order.items c.self.inside.index c.pop_front.new.self c.args.client c.self.invariant c.take_out.new.asked c.in_ok-key.key (sym c.in_ok-key.ensures.taken) c.take_out.ensures.asked c.in_ok-key.ensures.left c.args.self.now c.take_out.new.order.items c.self.view_is c.take_out.ensures.order).0

pub returns-clause-taken : goal.returns-clause-taken
returns-clause-taken c =
    c.take_out.ensures.taken
    ∙ was_first c.self.inside.asked c.self.inside.order.items c.self.inside.index c.pop_front.new.self c.args.client c.self.invariant c.take_out.new.asked c.in_ok-key.key (sym c.in_ok-key.ensures.taken) c.take_out.ensures.asked c.in_ok-key.ensures.left
    ∙ ap (λ (waiting : List Asked). first_of (filter (of_client c.args.client) waiting)) c.self.view_is

pub returns-clause-left : goal.returns-clause-left
returns-clause-left c =
    (taken c.self.inside.asked c.self.inside.order.items c.self.inside.index c.pop_front.new.self c.args.client c.self.invariant c.take_out.new.asked c.in_ok-key.key (sym c.in_ok-key.ensures.taken) c.take_out.ensures.asked c.in_ok-key.ensures.left c.args.self.now c.take_out.new.order.items c.self.view_is c.take_out.ensures.order).1

use Rattle.std.proofs.Common.{ap, length, arith, ◌∙◌}
use Rattle.slab.specs.Slab.{get}
use Rattle.held_requests.proofs.Shown.{as_many, none_left}
use Rattle.held_requests.proofs.waiting.Waiting.is_empty.Goals as goal

pub returns : goal.returns
returns c = c.is_empty.ensures ∙ none_left c.args.self.now c.self.inside.order.len (omega (arith, c.self.inside.order.ok, as_many (get c.self.inside.asked) c.self.inside.order.items c.self.invariant.there, ap length c.self.view_is))

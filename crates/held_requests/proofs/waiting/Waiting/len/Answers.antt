use Rattle.std.proofs.Common.{ap, length, arith}
use Rattle.slab.specs.Slab.{get}
use Rattle.held_requests.proofs.Shown.{as_many}
use Rattle.held_requests.proofs.waiting.Waiting.len.Goals as goal

pub returns : goal.returns
returns c = omega (arith, c.len.ensures, c.self.inside.order.ok, as_many (get c.self.inside.asked) c.self.inside.order.items c.self.invariant.there, ap length c.self.view_is)

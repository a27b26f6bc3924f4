use Rattle.std.proofs.Common.{ap, ◌∙◌}
use Rattle.std.specs.List.{list_any}
use Rattle.slab.specs.Slab.{get}
use Rattle.held_requests.specs.Kept.{is_at_barrier}
use Rattle.held_requests.specs.Waits.{waits_at}
use Rattle.held_requests.proofs.Shown.{listed_any}
use Rattle.held_requests.proofs.waiting.Waiting.waits_at.Goals as goal

pub returns : goal.returns
returns c =
    c.any_at.ensures
    ∙ ap (list_any (λ key. is_at_barrier c.args.number (get c.self.inside.asked key))) (c.of.ensures ∙ c.self.invariant.own c.args.client)
    ∙ listed_any (get c.self.inside.asked) c.args.client c.args.number c.self.inside.order.items
    ∙ ap (waits_at c.args.number c.args.client) c.self.view_is

use Rattle.std.proofs.Common.{◌≡◌, ℕ, true, subst, sym, ◌∙◌}
use Rattle.node_core.specs.Steps.{is_step_of, taken_from, takes_from_peer}
use Rattle.node_channels.specs.Channels.{Waiting}
use Rattle.node_channels.proofs.Kept.{seen_from_peer}
use Rattle.node_channels.proofs.channels.Channels.holds.Goals as goal

-- what waits comes from a node that talks with this one
pub returns-clause-from_peer : goal.returns-clause-from_peer
returns-clause-from_peer c sure = subst (λ (d : Waiting). (node : ℕ) → is_step_of d.clients node c.args.step.now ≡ true → takes_from_peer d.clients node (taken_from d.clients c.args.step.now) ≡ true) c.self.view_is
    (seen_from_peer c.self.inside.lanes c.self.invariant.0 c.args.step.now (λ message. message.now) c.first.result c.first.ensures (sym c.is_some.ensures ∙ sure))

use Rattle.std.proofs.Common.{◌≡◌, true, IfSome, subst}
use Rattle.node_core.specs.Steps.{message_fits}
use Rattle.node_channels.specs.Channels.{Waiting}
use Rattle.node_channels.proofs.Kept.{seen_fits}
use Rattle.node_channels.proofs.channels.Channels.first.Goals as goal

-- what waits fits
pub returns-clause-fits : goal.returns-clause-fits
returns-clause-fits c = subst (λ (d : Waiting). IfSome c.first.result (λ message. message_fits d.clients c.args.step.now message.now ≡ true)) c.self.view_is
    (seen_fits c.self.inside.lanes c.self.invariant.0 c.args.step.now (λ message. message.now) c.first.result c.first.ensures)

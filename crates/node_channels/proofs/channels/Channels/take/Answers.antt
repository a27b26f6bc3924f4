use Rattle.node_channels.proofs.Kept.{taken_sound}
use Rattle.node_channels.proofs.channels.Channels.take.Goals as goal

-- one message fewer waits
pub invariant_of-self-2 : goal.invariant_of-self-2
invariant_of-self-2 c = taken_sound c.self.inside.lanes c.take_first.new.self c.self.invariant.0 c.self.inside.waiting c.self.invariant.1 c.args.step.now c.in_ok-message.message c.in_ok-message.ensures.first c.in_ok-message.ensures.rest

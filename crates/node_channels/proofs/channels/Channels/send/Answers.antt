use Rattle.std.proofs.Common.{arith}
use Rattle.node_channels.proofs.Kept.{sent_sound}
use Rattle.node_channels.proofs.channels.Channels.send.Goals as goal

-- one message more waits
pub invariant_of-self-2 : goal.invariant_of-self-2
invariant_of-self-2 c = sent_sound c.self.inside.lanes c.args.self.now c.put_last.new.self c.self.view_is c.self.invariant.0 c.self.inside.waiting c.in-Some.waiting c.self.invariant.1 (omega arith) c.args.from c.args.sent c.requires c.in_ok-put_last.ensures.last

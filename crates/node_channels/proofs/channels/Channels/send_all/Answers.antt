use Rattle.std.proofs.Common.{◌∙◌}
use Rattle.node_channels.proofs.Kept.{sending_starts, sending_more, sending_well, sending_clients, sending_fails, on_err}
use Rattle.node_channels.proofs.channels.Channels.send_all.Goals as goal

pub loop-message-init : goal.loop-message-init
loop-message-init c = sending_starts c.args.self.now c.args.from c.args.sent _ (c.into_iter-message-iterator.ensures.into_iter_gives.0 ∙ c.into_vec-message-items.ensures)

pub send-requires : goal.send-requires
send-requires c = sending_well c.args.self.now c.loop-message.self c.args.from c.args.sent c.loop-message.message-iterator.rest.items c.next.new.self.rest.items c.in-Some.message c.loop-message.invariant c.in-Some.ensures.steps.0 c.requires

pub loop-message-preserved : goal.loop-message-preserved
loop-message-preserved c = sending_more c.args.self.now c.loop-message.self c.send.new.self c.args.from c.args.sent c.loop-message.message-iterator.rest.items c.next.new.self.rest.items c.in-Some.message c.loop-message.invariant c.in-Some.ensures.steps.0 c.in_ok-send.ensures.last

-- a front of the list was sent
pub returns-in_err-send-clause-some : goal.returns-in_err-send-clause-some
returns-in_err-send-clause-some c = on_err _ (sending_fails c.args.self.now c.loop-message.self c.send.new.self c.args.from c.args.sent c.loop-message.message-iterator.rest.items c.loop-message.invariant c.in_err-send.ensures.as_before)

-- there are as many clients as before
pub returns-in_err-send-clause-clients : goal.returns-in_err-send-clause-clients
returns-in_err-send-clause-clients c = c.in_err-send.ensures.clients ∙ sending_clients c.args.self.now c.loop-message.self c.args.from c.args.sent c.loop-message.message-iterator.rest.items c.loop-message.invariant

pub returns-clause-clients : goal.returns-clause-clients
returns-clause-clients c = sending_clients c.args.self.now c.loop-message.self c.args.from c.args.sent c.loop-message.message-iterator.rest.items c.loop-message.invariant

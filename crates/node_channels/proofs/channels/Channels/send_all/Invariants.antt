use Rattle.node_channels.proofs.Kept.{IsSending}
use Rattle.node_channels.proofs.channels.Channels.send_all.Given as goal

-- a front of the list is sent, and what is left is the rest
abbrev pub invariant-loop-message : goal.invariant-loop-message
invariant-loop-message l = IsSending l.fn.self l.self l.from l.fn.sent l.message-iterator.rest.items

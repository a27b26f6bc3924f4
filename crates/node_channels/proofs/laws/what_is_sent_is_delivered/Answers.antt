use Rattle.node_channels.proofs.Past.{carried_at_first, carried_more, delivered}
use Rattle.node_channels.proofs.laws.what_is_sent_is_delivered.Goals as goal

pub returns-clause-first : goal.returns-clause-first
returns-clause-first c = carried_at_first

pub returns-clause-kept : goal.returns-clause-kept
returns-clause-kept c = carried_more

pub returns-clause-delivered : goal.returns-clause-delivered
returns-clause-delivered c = delivered

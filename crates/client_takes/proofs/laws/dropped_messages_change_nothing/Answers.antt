use Rattle.client_takes.proofs.Dropped.{told_dropped, stored_dropped}
use Rattle.client_takes.proofs.laws.dropped_messages_change_nothing.Goals as goal

pub returns-clause-told : goal.returns-clause-told
returns-clause-told c = told_dropped

pub returns-clause-stored : goal.returns-clause-stored
returns-clause-stored c = stored_dropped

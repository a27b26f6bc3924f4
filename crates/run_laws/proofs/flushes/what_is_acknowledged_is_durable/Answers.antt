use Rattle.run_laws.proofs.Taking.{kept_law, acknowledged_law}
use Rattle.run_laws.proofs.flushes.what_is_acknowledged_is_durable.Goals as goal

pub returns-clause-kept : goal.returns-clause-kept
returns-clause-kept c script history legal = kept_law script history

pub returns-clause-acknowledged : goal.returns-clause-acknowledged
returns-clause-acknowledged c script history legal = acknowledged_law script history

use Rattle.run_laws.proofs.Tenured.{table_law, table_once_law, held_asked_law, deferred_asked_law}
use Rattle.run_laws.proofs.tenures.the_table_is_of_connected_clients.Goals as goal

pub returns-clause-holders : goal.returns-clause-holders
returns-clause-holders c script history legal = table_law script history

pub returns-clause-once : goal.returns-clause-once
returns-clause-once c script history legal = table_once_law script history

pub returns-clause-held : goal.returns-clause-held
returns-clause-held c script history legal = held_asked_law script history

pub returns-clause-deferred : goal.returns-clause-deferred
returns-clause-deferred c script history legal = deferred_asked_law script history

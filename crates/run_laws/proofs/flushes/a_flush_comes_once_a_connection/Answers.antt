use Rattle.run_laws.proofs.Taking.{way_law, next_law}
use Rattle.run_laws.proofs.flushes.a_flush_comes_once_a_connection.Goals as goal

pub returns-clause-way : goal.returns-clause-way
returns-clause-way c script history legal = way_law script history

pub returns-clause-next : goal.returns-clause-next
returns-clause-next c script history legal = next_law script history

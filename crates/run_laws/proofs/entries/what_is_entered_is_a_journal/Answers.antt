use Rattle.run_laws.proofs.Entered.{entered_law, durable_law}
use Rattle.run_laws.proofs.entries.what_is_entered_is_a_journal.Goals as goal

pub returns-clause-entered : goal.returns-clause-entered
returns-clause-entered c script history legal few = entered_law script history few

pub returns-clause-durable : goal.returns-clause-durable
returns-clause-durable c script history legal few = durable_law script history few

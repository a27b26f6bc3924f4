use Rattle.run_laws.proofs.Growing.{durable_stays, buffered_stays}
use Rattle.run_laws.proofs.journal.the_journal_only_grows.Goals as goal

pub returns-clause-durable : goal.returns-clause-durable
returns-clause-durable c script history later legal = durable_stays script history later

pub returns-clause-buffered : goal.returns-clause-buffered
returns-clause-buffered c script history event legal is = buffered_stays script history event is

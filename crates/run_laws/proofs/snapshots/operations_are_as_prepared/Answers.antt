use Rattle.run_laws.proofs.Operations.{prepared_law}
use Rattle.run_laws.proofs.Whose.{whose_law}
use Rattle.run_laws.proofs.snapshots.operations_are_as_prepared.Goals as goal

pub returns-clause-asked : goal.returns-clause-asked
returns-clause-asked c script history legal = prepared_law script history

pub returns-clause-whose : goal.returns-clause-whose
returns-clause-whose c script history legal a e is prepares = whose_law script history a e is prepares

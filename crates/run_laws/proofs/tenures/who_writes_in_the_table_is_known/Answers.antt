use Rattle.run_laws.proofs.Granted.{known_law}
use Rattle.run_laws.proofs.tenures.who_writes_in_the_table_is_known.Goals as goal

pub returns : goal.returns
returns c script history legal = known_law script history

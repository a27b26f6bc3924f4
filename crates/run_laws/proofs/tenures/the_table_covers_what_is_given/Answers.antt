use Rattle.run_laws.proofs.Freed.{covered_law}
use Rattle.run_laws.proofs.tenures.the_table_covers_what_is_given.Goals as goal

pub returns : goal.returns
returns c script history legal = covered_law script history

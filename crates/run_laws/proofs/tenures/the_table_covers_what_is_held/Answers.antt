use Rattle.run_laws.proofs.Covers.{covers_law}
use Rattle.run_laws.proofs.tenures.the_table_covers_what_is_held.Goals as goal

pub returns : goal.returns
returns c script history legal = covers_law script history

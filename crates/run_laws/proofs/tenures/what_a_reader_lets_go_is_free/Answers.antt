use Rattle.run_laws.proofs.Freed.{dropped_law}
use Rattle.run_laws.proofs.tenures.what_a_reader_lets_go_is_free.Goals as goal

pub returns : goal.returns
returns c script history legal = dropped_law script history

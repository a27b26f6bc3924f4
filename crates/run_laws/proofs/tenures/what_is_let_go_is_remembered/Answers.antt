use Rattle.run_laws.proofs.Freed.{remembered_law}
use Rattle.run_laws.proofs.tenures.what_is_let_go_is_remembered.Goals as goal

pub returns : goal.returns
returns c script history legal = remembered_law script history

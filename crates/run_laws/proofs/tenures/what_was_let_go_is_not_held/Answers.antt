use Rattle.run_laws.proofs.Freed.{let_go_law}
use Rattle.run_laws.proofs.tenures.what_was_let_go_is_not_held.Goals as goal

pub returns : goal.returns
returns c script history legal = let_go_law script history

use Rattle.run_laws.proofs.Exists.{made_law}
use Rattle.run_laws.proofs.tenures.what_is_asked_for_was_made.Goals as goal

pub returns : goal.returns
returns c script history legal = made_law script history

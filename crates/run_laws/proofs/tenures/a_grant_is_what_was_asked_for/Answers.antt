use Rattle.run_laws.proofs.Freed.{asked_law}
use Rattle.run_laws.proofs.tenures.a_grant_is_what_was_asked_for.Goals as goal

pub returns : goal.returns
returns c script history legal = asked_law script history

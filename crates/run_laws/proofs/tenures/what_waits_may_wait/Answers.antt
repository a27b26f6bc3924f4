use Rattle.run_laws.proofs.Waiting.{waiting_law}
use Rattle.run_laws.proofs.tenures.what_waits_may_wait.Goals as goal

pub returns : goal.returns
returns c script history legal = waiting_law script history

use Rattle.run_laws.proofs.Granted.{waits_law}
use Rattle.run_laws.proofs.tenures.who_waits_to_write_does_not_write_yet.Goals as goal

pub returns : goal.returns
returns c script history legal = waits_law script history

use Rattle.run_laws.proofs.Taking.{taken_law}
use Rattle.run_laws.proofs.flushes.no_flush_is_refused.Goals as goal

pub returns : goal.returns
returns c script history legal = taken_law script history

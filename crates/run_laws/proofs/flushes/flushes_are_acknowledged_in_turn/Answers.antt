use Rattle.run_laws.proofs.Turning.{turns_law}
use Rattle.run_laws.proofs.flushes.flushes_are_acknowledged_in_turn.Goals as goal

pub returns : goal.returns
returns c script history legal = turns_law script history

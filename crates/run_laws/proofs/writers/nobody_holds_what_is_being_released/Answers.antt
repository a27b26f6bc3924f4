use Rattle.run_laws.proofs.Leaving.{free_law}
use Rattle.run_laws.proofs.writers.nobody_holds_what_is_being_released.Goals as goal

pub returns : goal.returns
returns c script history legal = free_law script history

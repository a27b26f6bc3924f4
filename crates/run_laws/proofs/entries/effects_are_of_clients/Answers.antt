use Rattle.run_laws.proofs.Strangers.{effect_law}
use Rattle.run_laws.proofs.entries.effects_are_of_clients.Goals as goal
use Rattle.run_laws.specs.Moments.{steps_of}

pub returns : goal.returns
returns c script history legal before later e entries is = effect_law script (steps_of history) before later e entries is

use Rattle.run_laws.proofs.Buffered.{undurable_law}
use Rattle.run_laws.proofs.answers.an_effect_that_is_not_durable_is_of_the_open_request.Goals as goal

pub returns : goal.returns
returns c script history legal = undurable_law script history

use Rattle.run_laws.proofs.Answering.{asked_law}
use Rattle.run_laws.proofs.answers.an_effect_is_of_its_request.Goals as goal

pub returns : goal.returns
returns c script history legal = asked_law script history

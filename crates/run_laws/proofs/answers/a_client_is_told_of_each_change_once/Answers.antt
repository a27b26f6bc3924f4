use Rattle.run_laws.proofs.Summed.{told_law}
use Rattle.run_laws.proofs.answers.a_client_is_told_of_each_change_once.Goals as goal

pub returns : goal.returns
returns c script history legal = told_law script history legal

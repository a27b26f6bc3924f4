use Rattle.id_laws.proofs.Finals.{keeps_law, says_law}
use Rattle.id_laws.proofs.past.what_a_client_keeps_was_made.Goals as goal

pub returns-clause-keeps : goal.returns-clause-keeps
returns-clause-keeps c script history legal = keeps_law script history

pub returns-clause-says : goal.returns-clause-says
returns-clause-says c script history legal = says_law script history

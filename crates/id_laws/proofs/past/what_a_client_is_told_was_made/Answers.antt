use Rattle.id_laws.proofs.Finals.{told_law}
use Rattle.id_laws.proofs.past.what_a_client_is_told_was_made.Goals as goal

pub returns : goal.returns
returns c script history legal = told_law script history

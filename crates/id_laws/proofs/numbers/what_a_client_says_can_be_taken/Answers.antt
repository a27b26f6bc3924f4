use Rattle.id_laws.proofs.Speaking.{says_can}
use Rattle.id_laws.proofs.numbers.what_a_client_says_can_be_taken.Goals as goal

pub returns : goal.returns
returns c script history legal few = says_can script history few

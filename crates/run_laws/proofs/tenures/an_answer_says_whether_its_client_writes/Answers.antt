use Rattle.run_laws.proofs.Covers.{says_law}
use Rattle.run_laws.proofs.tenures.an_answer_says_whether_its_client_writes.Goals as goal

pub returns : goal.returns
returns c script history legal = says_law script history

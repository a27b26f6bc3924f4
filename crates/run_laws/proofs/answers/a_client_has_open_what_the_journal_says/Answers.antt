use Rattle.run_laws.proofs.Opening.{open_law}
use Rattle.run_laws.proofs.answers.a_client_has_open_what_the_journal_says.Goals as goal

pub returns : goal.returns
returns c script history legal = open_law script history

use Rattle.run_laws.proofs.Hearing.{hearing_law}
use Rattle.run_laws.proofs.stamps.what_a_client_hears_rises.Goals as goal

pub returns : goal.returns
returns c script history legal = hearing_law script history

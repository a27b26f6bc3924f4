use Rattle.run_laws.proofs.Requested.{requests_law}
use Rattle.run_laws.proofs.requests.what_is_asked_is_open.Goals as goal

pub returns : goal.returns
returns c script history legal = requests_law script history

use Rattle.server_sessions.proofs.Steps.{found_again}
use Rattle.server_sessions.proofs.laws.sessions_are_found_again.Goals as goal

pub returns : goal.returns
returns c s upto all = found_again s upto all

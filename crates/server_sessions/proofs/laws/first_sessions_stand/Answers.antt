use Rattle.server_sessions.proofs.Steps.{first_stand}
use Rattle.server_sessions.proofs.laws.first_sessions_stand.Goals as goal

pub returns : goal.returns
returns c clients = first_stand clients

use Rattle.server_sessions.proofs.Steps.{connections_lost}
use Rattle.server_sessions.proofs.laws.a_restart_loses_all_connections.Goals as goal

pub returns : goal.returns
returns c links s stands = connections_lost links s stands

use Rattle.server_sessions.proofs.Steps.{connection_taken}
use Rattle.server_sessions.proofs.laws.a_connection_is_taken.Goals as goal

pub returns : goal.returns
returns c links s client conn stands from_one upto above = connection_taken links s client conn stands from_one upto above

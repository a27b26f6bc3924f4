use Rattle.server_sessions.proofs.Steps.{session_found, sessions_len}
use Rattle.server_sessions.proofs.laws.each_client_has_a_session.Goals as goal

pub returns-clause-as_many : goal.returns-clause-as_many
returns-clause-as_many c links s stands = sessions_len links s stands

pub returns-clause-found : goal.returns-clause-found
returns-clause-found c links s client stands from_one upto = session_found links s client stands from_one upto

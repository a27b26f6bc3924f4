use Rattle.server_sessions.proofs.Steps.{same_current, same_answer}
use Rattle.server_sessions.proofs.laws.answers_are_the_tables.Goals as goal

pub returns-clause-current : goal.returns-clause-current
returns-clause-current c links s client conn stands = same_current s client conn (stands.numbered client)

pub returns-clause-kept : goal.returns-clause-kept
returns-clause-kept c s a = same_answer s a

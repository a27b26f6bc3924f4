use Rattle.server_sessions.proofs.Steps.{sessions_stay}
use Rattle.server_sessions.proofs.laws.other_entries_leave_sessions.Goals as goal

pub returns : goal.returns
returns c links s new e stands enters is no_flush none = sessions_stay s new e enters links stands no_flush none

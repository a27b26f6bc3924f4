use Rattle.run_laws.proofs.Tenured.{held_law, given_law, once_law}
use Rattle.run_laws.proofs.tenures.what_is_held_was_made.Goals as goal

pub returns-clause-held : goal.returns-clause-held
returns-clause-held c script history legal = held_law script history

pub returns-clause-once : goal.returns-clause-once
returns-clause-once c script history legal = once_law script history

pub returns-clause-given : goal.returns-clause-given
returns-clause-given c script history legal = given_law script history

use Rattle.id_laws.proofs.Fitting.{sent_law, waits_law}
use Rattle.id_laws.proofs.numbers.what_is_told_can_be_taken.Goals as goal

pub returns-clause-sent : goal.returns-clause-sent
returns-clause-sent c script history legal few = sent_law script history few

pub returns-clause-waits : goal.returns-clause-waits
returns-clause-waits c script history legal few = waits_law script history few

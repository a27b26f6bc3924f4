use Rattle.run_laws.proofs.Once.{once_law, repeats_law}
use Rattle.run_laws.proofs.requests.a_request_has_one_effect.Goals as goal

pub returns-clause-once : goal.returns-clause-once
returns-clause-once c script history legal = once_law script history

pub returns-clause-repeated : goal.returns-clause-repeated
returns-clause-repeated c script history legal = repeats_law script history

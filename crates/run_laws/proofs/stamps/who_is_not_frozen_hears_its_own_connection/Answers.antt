use Rattle.run_laws.proofs.Hearing.{own_law}
use Rattle.run_laws.proofs.stamps.who_is_not_frozen_hears_its_own_connection.Goals as goal

pub returns : goal.returns
returns c script history legal = own_law script history

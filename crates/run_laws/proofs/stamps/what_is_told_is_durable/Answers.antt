use Rattle.run_laws.proofs.Stamped.{told_law}
use Rattle.run_laws.proofs.stamps.what_is_told_is_durable.Goals as goal

pub returns : goal.returns
returns c script history event legal at = told_law script history event legal at

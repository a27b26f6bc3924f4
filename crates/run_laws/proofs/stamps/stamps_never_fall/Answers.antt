use Rattle.run_laws.proofs.Stamped.{stamps_law}
use Rattle.run_laws.proofs.stamps.stamps_never_fall.Goals as goal

pub returns : goal.returns
returns c script history legal client = stamps_law script history legal client

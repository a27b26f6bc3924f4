use Rattle.run_laws.specs.Moments.{world_after}
use Rattle.world_laws.proofs.Places.{once}
use Rattle.world_laws.proofs.waits.no_client_waits_twice.Goals as goal

pub returns : goal.returns
returns c script history legal n it here = once n (world_after script history) it (c.what_is_asked_is_open.ensures script history legal) here

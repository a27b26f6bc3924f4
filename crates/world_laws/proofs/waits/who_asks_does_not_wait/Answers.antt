use Rattle.run_laws.specs.Moments.{world_after}
use Rattle.world_laws.proofs.Places.{none}
use Rattle.world_laws.proofs.waits.who_asks_does_not_wait.Goals as goal

pub returns : goal.returns
returns c script history legal n it here conn tid asked rest next =
    none n (world_after script history) it (c.what_is_asked_is_open.ensures script history legal) here conn tid asked rest next

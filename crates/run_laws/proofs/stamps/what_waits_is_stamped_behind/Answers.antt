use Rattle.run_laws.proofs.Hearing.{will_law}
use Rattle.run_laws.proofs.stamps.what_waits_is_stamped_behind.Goals as goal

pub returns : goal.returns
returns c script history legal = will_law script history

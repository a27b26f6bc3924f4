use Rattle.journal_moments.proofs.Lives.{live_upto}
use Rattle.journal_moments.proofs.laws.live_ids_are_upto_the_last_one.Goals as goal

-- src/laws.rt
pub returns : goal.returns
returns c entries legal s live = live_upto entries legal s live

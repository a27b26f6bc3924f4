use Rattle.run_laws.proofs.Taking.{gaps_law}
use Rattle.run_laws.proofs.flushes.flush_numbers_have_no_gap.Goals as goal

pub returns : goal.returns
returns c script history legal = gaps_law script history

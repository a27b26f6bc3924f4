use Rattle.journal_moments.proofs.Moments.{above_now}
use Rattle.journal_moments.proofs.laws.above_the_last_id_is_now.Goals as goal

-- src/laws.rt
pub returns : goal.returns
returns c entries legal s above = above_now entries legal s above

use Rattle.journal_moments.proofs.Lives.{live_more}
use Rattle.journal_moments.proofs.laws.a_live_snapshot_was_live_or_is_made.Goals as goal

-- src/laws.rt
pub returns : goal.returns
returns c entries e s live = live_more entries e s live

use Rattle.journal_moments.proofs.Moments.{nosnap_asked}
use Rattle.journal_moments.proofs.laws.what_is_live_is_asked_for.Goals as goal

-- src/laws.rt
pub returns : goal.returns
returns c entries legal = nosnap_asked entries legal

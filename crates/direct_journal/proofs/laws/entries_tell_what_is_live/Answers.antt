use Rattle.direct_journal.proofs.Told.{state_told}
use Rattle.direct_journal.proofs.laws.entries_tell_what_is_live.Goals as goal

pub returns : goal.returns
returns c lines history legal n = state_told history lines legal n

use Rattle.run_laws.proofs.Purging.{purged_law}
use Rattle.run_laws.proofs.tables.what_is_purged_was_removed.Goals as goal

pub returns : goal.returns
returns c script history legal id is = purged_law script history id is

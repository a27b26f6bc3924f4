use Rattle.run_laws.proofs.Leaving.{leaving_law}
use Rattle.run_laws.proofs.tenures.what_is_flushed_is_written_in_the_table.Goals as goal

pub returns : goal.returns
returns c script history legal = leaving_law script history

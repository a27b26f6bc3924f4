use Rattle.run_laws.proofs.Taking.{sent_law}
use Rattle.run_laws.proofs.flushes.a_flush_is_written_as_it_was_sent.Goals as goal

pub returns : goal.returns
returns c script history legal = sent_law script history

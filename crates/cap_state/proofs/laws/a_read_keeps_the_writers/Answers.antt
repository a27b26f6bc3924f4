use Rattle.cap_state.proofs.Kept.{reads_keep_writers}
use Rattle.cap_state.proofs.laws.a_read_keeps_the_writers.Goals as goal

pub returns : goal.returns
returns c = λ client ino applied held file table. reads_keep_writers client ino applied held file table

use Rattle.run_laws.proofs.Clean.{clean_law}
use Rattle.run_laws.proofs.tenures.a_reader_keeps_nothing_back.Goals as goal

pub returns : goal.returns
returns c script history legal = clean_law script history

use Rattle.run_laws.proofs.Pairs.{held_once_law}
use Rattle.run_laws.proofs.writers.a_file_has_one_writer_among_the_clients.Goals as goal

pub returns : goal.returns
returns c script history legal = held_once_law script history

use Rattle.run_laws.proofs.Pairs.{alone_law}
use Rattle.run_laws.proofs.writers.a_writer_in_the_table_is_alone.Goals as goal

pub returns : goal.returns
returns c script history legal = alone_law script history

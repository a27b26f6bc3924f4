use Rattle.run_laws.proofs.Kept.{writer_law}
use Rattle.run_laws.proofs.tables.a_file_has_one_writer.Goals as goal

pub returns : goal.returns
returns c script history legal = writer_law script history

use Rattle.run_laws.proofs.Recalling.{recalled_law}
use Rattle.run_laws.proofs.tenures.who_waits_for_a_file_has_it_recalled.Goals as goal

pub returns : goal.returns
returns c script history legal = recalled_law script history

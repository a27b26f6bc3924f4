use Rattle.script_text.proofs.Fronts.{first_bytes_decide}
use Rattle.script_text.proofs.laws.the_front_decides.Goals as goal

pub returns : goal.returns
returns c = first_bytes_decide

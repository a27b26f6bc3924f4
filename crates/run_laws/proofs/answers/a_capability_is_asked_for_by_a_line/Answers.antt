use Rattle.run_laws.proofs.Belonging.{line_law}
use Rattle.run_laws.proofs.answers.a_capability_is_asked_for_by_a_line.Goals as goal

pub returns : goal.returns
returns c script history legal = line_law script history

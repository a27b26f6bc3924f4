use Rattle.run_laws.proofs.Delivered.{runs_law}
use Rattle.run_laws.proofs.runs.runs_are_legal.Goals as goal

pub returns : goal.returns
returns c script steps = runs_law script steps

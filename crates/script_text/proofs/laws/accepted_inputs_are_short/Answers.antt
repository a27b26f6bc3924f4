use Rattle.script_text.proofs.Fronts.{accepted_short}
use Rattle.script_text.proofs.laws.accepted_inputs_are_short.Goals as goal

pub returns : goal.returns
returns c = accepted_short

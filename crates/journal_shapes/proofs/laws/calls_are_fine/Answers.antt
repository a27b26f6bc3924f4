use Rattle.journal_shapes.proofs.Steps.{fine_call}
use Rattle.journal_shapes.proofs.laws.calls_are_fine.Goals as goal

-- src/laws.rt
pub returns : goal.returns
returns c entries e table legal stands = fine_call entries e legal table stands

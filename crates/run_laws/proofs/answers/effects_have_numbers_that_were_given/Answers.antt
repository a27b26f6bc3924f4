use Rattle.run_laws.proofs.Buffered.{above_law}
use Rattle.run_laws.proofs.answers.effects_have_numbers_that_were_given.Goals as goal

pub returns : goal.returns
returns c script history legal = above_law script history

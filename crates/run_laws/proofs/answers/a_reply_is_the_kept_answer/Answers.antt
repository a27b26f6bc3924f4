use Rattle.run_laws.proofs.Answering.{kept_law}
use Rattle.run_laws.proofs.answers.a_reply_is_the_kept_answer.Goals as goal

pub returns : goal.returns
returns c script history legal = kept_law script history

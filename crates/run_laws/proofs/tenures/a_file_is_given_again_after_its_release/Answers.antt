use Rattle.run_laws.proofs.Freed.{after_law}
use Rattle.run_laws.proofs.tenures.a_file_is_given_again_after_its_release.Goals as goal

pub returns : goal.returns
returns c script history legal = after_law script history

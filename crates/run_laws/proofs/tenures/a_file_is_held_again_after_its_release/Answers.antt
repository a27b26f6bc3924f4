use Rattle.run_laws.proofs.Covers.{released_law}
use Rattle.run_laws.proofs.tenures.a_file_is_held_again_after_its_release.Goals as goal

pub returns : goal.returns
returns c script history legal = released_law script history

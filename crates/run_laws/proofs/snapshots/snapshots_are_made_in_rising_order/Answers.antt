use Rattle.run_laws.proofs.Makes.{creation_law}
use Rattle.run_laws.proofs.Rises.{above_law, below_law, rising_law}
use Rattle.run_laws.proofs.snapshots.snapshots_are_made_in_rising_order.Goals as goal

pub returns-clause-prepared : goal.returns-clause-prepared
returns-clause-prepared c script history legal before later e id dir name entries is = creation_law script history before later e id dir name entries is

pub returns-clause-above : goal.returns-clause-above
returns-clause-above c script history legal before later e id dir name entries is = above_law script history before later e id dir name entries is

pub returns-clause-given : goal.returns-clause-given
returns-clause-given c script history legal before later e id dir name entries is = below_law script history before later e id dir name entries is

pub returns-clause-rising : goal.returns-clause-rising
returns-clause-rising c script history legal before between later e f id other dir to_dir name to_name entries is then = rising_law script history before between later e f id other dir to_dir name to_name entries is then

use Rattle.run_laws.proofs.Entered.{live_law}
use Rattle.run_laws.proofs.Makes.{destruction_law}
use Rattle.run_laws.proofs.snapshots.snapshots_are_removed_as_prepared.Goals as goal

pub returns-clause-prepared : goal.returns-clause-prepared
returns-clause-prepared c script history legal before later e id entries is = destruction_law script history before later e id entries is

pub returns-clause-live : goal.returns-clause-live
returns-clause-live c script history legal before later e id entries is = live_law script history before later e id entries is

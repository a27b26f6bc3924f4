use Rattle.run_laws.proofs.Rises.{snaps_law}
use Rattle.run_laws.proofs.Stamped.{stamps_law}
use Rattle.run_laws.proofs.snapshots.snapshot_stamps_never_fall.Goals as goal

pub returns : goal.returns
returns c script history legal client = snaps_law script history legal client (stamps_law script history legal client)

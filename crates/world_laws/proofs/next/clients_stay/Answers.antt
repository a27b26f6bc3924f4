use Rattle.world_laws.proofs.Clients.{stays}
use Rattle.world_laws.proofs.next.clients_stay.Goals as goal

pub returns : goal.returns
returns c script history legal = stays script history

use Rattle.run_laws.proofs.Linked.{links_law}
use Rattle.run_laws.proofs.links.links_are_in_order.Goals as goal

pub returns : goal.returns
returns c script history legal = links_law script history

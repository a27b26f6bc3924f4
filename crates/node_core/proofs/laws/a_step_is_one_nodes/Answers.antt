use Rattle.node_core.proofs.Peers.{one_node}
use Rattle.node_core.proofs.laws.a_step_is_one_nodes.Goals as goal

pub returns : goal.returns
returns c clients a b step x y = one_node clients a b step x y

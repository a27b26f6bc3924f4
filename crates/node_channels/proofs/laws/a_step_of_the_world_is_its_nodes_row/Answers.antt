use Rattle.node_channels.proofs.Rows.{server_is, client_is, store_is}
use Rattle.node_channels.proofs.laws.a_step_of_the_world_is_its_nodes_row.Goals as goal

pub returns-clause-server : goal.returns-clause-server
returns-clause-server c = server_is

pub returns-clause-client : goal.returns-clause-client
returns-clause-client c = client_is

pub returns-clause-store : goal.returns-clause-store
returns-clause-store c = store_is

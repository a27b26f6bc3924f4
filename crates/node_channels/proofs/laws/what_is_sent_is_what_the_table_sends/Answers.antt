use Rattle.node_channels.proofs.Stood.{server_sends, client_sends, store_sends}
use Rattle.node_channels.proofs.laws.what_is_sent_is_what_the_table_sends.Goals as goal

pub returns-clause-server : goal.returns-clause-server
returns-clause-server c = server_sends

pub returns-clause-client : goal.returns-clause-client
returns-clause-client c = client_sends

pub returns-clause-store : goal.returns-clause-store
returns-clause-store c = store_sends

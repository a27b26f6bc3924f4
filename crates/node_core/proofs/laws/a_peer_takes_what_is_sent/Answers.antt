use Rattle.node_core.proofs.Peers.{its_step, from_the_sender, both_ways}
use Rattle.node_core.proofs.laws.a_peer_takes_what_is_sent.Goals as goal

pub returns-clause-its_step : goal.returns-clause-its_step
returns-clause-its_step c clients a b peers = its_step clients a b peers

pub returns-clause-from_the_sender : goal.returns-clause-from_the_sender
returns-clause-from_the_sender c clients a b peers = from_the_sender clients a b peers

pub returns-clause-both_ways : goal.returns-clause-both_ways
returns-clause-both_ways c clients a b peers = both_ways clients a b peers

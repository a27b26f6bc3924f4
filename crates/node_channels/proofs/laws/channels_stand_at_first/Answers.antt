use Rattle.node_channels.proofs.Stood.{start_stands}
use Rattle.node_channels.proofs.laws.channels_stand_at_first.Goals as goal

pub returns : goal.returns
returns c = start_stands

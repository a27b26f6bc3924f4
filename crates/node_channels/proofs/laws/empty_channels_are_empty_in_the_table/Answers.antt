use Rattle.node_channels.proofs.Stood.{holds_none}
use Rattle.node_channels.proofs.laws.empty_channels_are_empty_in_the_table.Goals as goal

pub returns : goal.returns
returns c = holds_none

use Rattle.node_channels.proofs.Popped.{gives_the_same}
use Rattle.node_channels.proofs.laws.a_step_takes_what_the_table_takes.Goals as goal

pub returns : goal.returns
returns c = gives_the_same

use Rattle.node_channels.proofs.Changed.{changed_own, changed_others}
use Rattle.node_channels.proofs.laws.a_step_has_its_own_channel.Goals as goal

pub returns-clause-own : goal.returns-clause-own
returns-clause-own c = changed_own

pub returns-clause-others : goal.returns-clause-others
returns-clause-others c = changed_others

use Rattle.node_channels.proofs.Heard.{hears_the_same, same_message}
use Rattle.node_channels.proofs.laws.traces_count_by_their_contexts.Goals as goal

pub returns-clause-client : goal.returns-clause-client
returns-clause-client c = hears_the_same

pub returns-clause-others : goal.returns-clause-others
returns-clause-others c = same_message

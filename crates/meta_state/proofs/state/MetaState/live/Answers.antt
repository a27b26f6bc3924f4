use Rattle.std.proofs.Common.{◌∙◌}
use Rattle.meta_state.proofs.Finds.{live_walk}
use Rattle.meta_state.proofs.state.MetaState.live.Goals as goal

-- src/find.rt
pub returns : goal.returns
returns c entries stands = live_walk c.args.self.now entries stands c.args.names.now ∙ c.walk.ensures

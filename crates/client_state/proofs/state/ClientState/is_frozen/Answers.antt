use Rattle.std.proofs.Common.{ap}
use Rattle.step_table.specs.ClientState.{Client}
use Rattle.client_state.proofs.state.ClientState.is_frozen.Goals as goal

pub returns : goal.returns
returns c = ap (λ (s : Client). s.frozen) c.self.view_is

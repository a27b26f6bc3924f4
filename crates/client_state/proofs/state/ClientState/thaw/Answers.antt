use Rattle.std.proofs.Common.{false, ap}
use Rattle.step_table.specs.ClientState.{Client}
use Rattle.client_state.proofs.state.ClientState.thaw.Goals as goal

pub returns : goal.returns
returns c = ap (λ (s : Client). record s { frozen = false }) c.self.view_is

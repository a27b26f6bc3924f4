use Rattle.std.proofs.Common.{◌∙◌}
use Rattle.step_table.specs.ClientTakes.{is_conn}
use Rattle.client_state.proofs.state.ClientState.is_own.Goals as goal

pub returns : goal.returns
returns c = c.is_of.ensures ∙ (λ i. is_conn (c.self.view_is i).conn (c.conn_of.ensures i))

use Rattle.client_state.proofs.Rows.{told}
use Rattle.client_state.proofs.state.ClientState.tell.Goals as goal

pub returns : goal.returns
returns c = told c.telling.result c.args.self.now c.args.said c.telling.ensures

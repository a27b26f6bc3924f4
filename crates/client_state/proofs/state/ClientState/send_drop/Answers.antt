use Rattle.client_state.proofs.Linked.{drop_sent}
use Rattle.client_state.proofs.state.ClientState.send_drop.Goals as goal

pub returns : goal.returns
returns c = drop_sent c.telling.result _ _ c.args.self.now c.self.view_is c.args.ino c.in_ok-let_go.ensures c.telling.ensures

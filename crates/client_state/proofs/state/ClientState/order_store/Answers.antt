use Rattle.client_state.proofs.Rows.{ordered}
use Rattle.client_state.proofs.state.ClientState.order_store.Goals as goal

pub returns : goal.returns
returns c = ordered c.ordering.result _ c.args.self.now c.self.view_is c.args.order c.ordering.ensures

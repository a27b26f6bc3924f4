use Rattle.client_state.proofs.Rows.{store_read}
use Rattle.client_state.proofs.state.ClientState.read_from_store.Goals as goal

pub returns : goal.returns
returns c = store_read c.ordering.result _ c.args.self.now c.self.view_is c.args.number c.args.entry c.args.ino c.args.order c.ordering.ensures

use Rattle.client_state.proofs.Rows.{head_read}
use Rattle.client_state.proofs.state.ClientState.read_head.Goals as goal

pub returns : goal.returns
returns c = head_read c.ordering.result _ c.args.self.now c.self.view_is c.args.number c.args.entry c.args.ino c.size_of-size.result c.size_of-size.ensures c.ordering.ensures

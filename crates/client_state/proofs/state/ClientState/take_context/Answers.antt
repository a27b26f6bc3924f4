use Rattle.client_state.proofs.Changed.{context_taken}
use Rattle.client_state.proofs.state.ClientState.take_context.Goals as goal

pub returns : goal.returns
returns c = context_taken _ _ c.args.self.now c.self.view_is c.args.ino c.args.context _ c.in_ok-keep_mark.ensures c.in_ok-put.ensures

use Rattle.client_state.proofs.Rows.{flushed}
use Rattle.client_state.proofs.state.ClientState.send_flush.Goals as goal

pub returns : goal.returns
returns c = flushed c.telling.result _ c.args.self.now c.self.view_is c.args.flush c.in_ok-flushes.flushes _ c.in_ok-flushes.ensures c.in_ok-push.ensures.items c.telling.ensures

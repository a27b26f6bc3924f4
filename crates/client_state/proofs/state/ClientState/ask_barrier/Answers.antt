use Rattle.client_state.proofs.Rows.{barrier_asked}
use Rattle.client_state.proofs.state.ClientState.ask_barrier.Goals as goal

pub returns : goal.returns
returns c = barrier_asked c.ask.result _ c.args.self.now _ c.self.view_is c.args.number c.in_ok-barrier.barrier c.in_ok-barrier.ensures c.ask.ensures

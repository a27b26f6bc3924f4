use Rattle.client_state.proofs.Seen.{held, not_held}
use Rattle.client_state.proofs.state.ClientState.holds.Goals as goal

pub returns-in-Some : goal.returns-in-Some
returns-in-Some c = held c.args.ino _ c.args.self.now c.self.view_is _ c.in-Some.ensures.buffer

pub returns-in-None : goal.returns-in-None
returns-in-None c = not_held c.args.ino _ c.args.self.now c.self.view_is c.in-None.ensures.buffer

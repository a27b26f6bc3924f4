use Rattle.client_state.proofs.Seen.{size_is}
use Rattle.client_state.proofs.state.ClientState.size_of.Goals as goal

pub returns : goal.returns
returns c = size_is c.args.ino _ c.args.self.now c.self.view_is c.size_in.result _ c.size_in.ensures c.file.ensures.buffer

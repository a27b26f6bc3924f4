use Rattle.std.proofs.Common.{ap}
use Rattle.client_state.specs.Acts.{row_of}
use Rattle.client_state.proofs.state.ClientState.stay.Goals as goal

pub returns : goal.returns
returns c = ap (row_of c.args.self.now) c.nothing.ensures

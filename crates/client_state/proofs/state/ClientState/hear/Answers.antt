use Rattle.client_state.proofs.Changed.{is_heard}
use Rattle.client_state.proofs.state.ClientState.hear.Goals as goal

pub returns : goal.returns
returns c = is_heard _ c.args.self.now c.self.view_is c.args.told.now c.stamp_of-stamp.result c.is_own-own.result c.last_own-self-inside.result
    c.stamp_of-stamp.ensures c.is_own-own.ensures c.last_own-self-inside.ensures

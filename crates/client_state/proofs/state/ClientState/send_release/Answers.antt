use Rattle.client_state.proofs.Linked.{release_sent}
use Rattle.client_state.proofs.state.ClientState.send_release.Goals as goal

pub returns : goal.returns
returns c = release_sent c.send_flush.result _ _ c.args.self.now _ c.self.view_is c.args.ino c.args.size c.in_ok-number.number c.seq_of-follows.result
    c.in_ok-number.ensures c.seq_of-follows.ensures c.in_ok-let_go.ensures c.send_flush.ensures

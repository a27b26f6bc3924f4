use Rattle.client_state.proofs.Linked.{mark_sent}
use Rattle.client_state.proofs.state.ClientState.send_mark.Goals as goal

pub returns : goal.returns
returns c = mark_sent c.send_flush.result _ c.args.self.now _ c.self.view_is c.args.ino c.args.follows c.args.upto c.args.size c.in_ok-number.number
    c.in_ok-number.ensures c.send_flush.ensures

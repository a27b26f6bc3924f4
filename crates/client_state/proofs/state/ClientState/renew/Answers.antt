use Rattle.client_state.proofs.Changed.{passed_over, taken}
use Rattle.client_state.proofs.state.ClientState.renew.Goals as goal

pub returns-then-writes : goal.returns-then-writes
returns-then-writes c = taken c.args.self.now _ c.args.file.now c.in_ok-context.context c.writes.result c.writes.ensures c.if-writes.true
    c.in_ok-context.ensures c.in_ok-take_context.ensures

pub returns : goal.returns
returns c = passed_over c.args.self.now c.args.file.now c.writes.result c.writes.ensures c.if-writes.false

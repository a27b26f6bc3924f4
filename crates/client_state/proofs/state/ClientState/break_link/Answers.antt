use Rattle.client_state.proofs.Linked.{broken}
use Rattle.client_state.proofs.state.ClientState.break_link.Goals as goal

pub returns : goal.returns
returns c = broken c.args.self.now _ c.args.number c.in_ok-acted.acted c.in_ok-answer.answer c.in_ok-acted.ensures c.in_ok-answer.ensures

use Rattle.client_state.proofs.Rows.{replied}
use Rattle.client_state.proofs.state.ClientState.reply.Goals as goal

pub returns : goal.returns
returns c = replied c.replying.result _ c.args.self.now c.self.view_is c.args.line c.args.changed c.args.entry c.args.answer c.replying.ensures

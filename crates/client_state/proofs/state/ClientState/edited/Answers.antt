use Rattle.client_state.proofs.Rows.{is_edited}
use Rattle.client_state.proofs.state.ClientState.edited.Goals as goal

pub returns : goal.returns
returns c = is_edited c.editing.result _ c.args.self.now c.self.view_is c.args.number c.args.change c.editing.ensures

use Rattle.step_table.specs.ClientState.{edit_of}
use Rattle.client_state.proofs.Linked.{goes_on_editing, goes_on_reading}
use Rattle.client_state.proofs.state.ClientState.go_on.Goals as goal

pub returns-then-is_edit : goal.returns-then-is_edit
returns-then-is_edit c = goes_on_editing c.edit.result c.args.self.now c.edit.new.self c.args.number c.args.ino (edit_of c.args.line) c.is_edit.result
    c.is_edit.ensures c.if-is_edit.true c.edit.ensures

pub returns : goal.returns
returns c = goes_on_reading c.read_head.result c.args.self.now c.read_head.new.self c.args.number c.args.ino (edit_of c.args.line) c.is_edit.result
    c.is_edit.ensures c.if-is_edit.false c.read_head.ensures

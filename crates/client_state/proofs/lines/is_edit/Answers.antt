use Rattle.client_state.proofs.Linked.{is_no_edit}
use Rattle.client_state.proofs.lines.is_edit.Goals as goal

pub returns-in_default : goal.returns-in_default
returns-in_default c = is_no_edit c.args.line.now c.in_default.not-Write c.in_default.not-Truncate

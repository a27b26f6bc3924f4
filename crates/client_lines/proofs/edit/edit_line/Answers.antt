use Rattle.std.proofs.Common.{ap, ◌∙◌}
use Rattle.std.proofs.lemmas.Result.{IfOk-weaker}
use Rattle.step_table.specs.ClientState.{edit_of}
use Rattle.client_lines.specs.Rows.{edits_allowed}
use Rattle.client_lines.proofs.Edits.{begins_edit}
use Rattle.client_lines.proofs.edit.edit_line.Goals as goal

pub returns-in-Err : goal.returns-in-Err
returns-in-Err c = IfOk-weaker c.refuse.result _ _
    (λ acted same. same
    ∙ ap (edits_allowed c.args.client.now c.args.number c.args.line (edit_of c.args.line)) c.in-Err.ensures.file
    ∙ begins_edit c.args.client.now c.args.number c.args.line (edit_of c.args.line) c.args.reach c.requires) c.refuse.ensures

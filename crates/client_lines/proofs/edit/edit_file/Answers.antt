use Rattle.std.proofs.Common.{sym, ◌∙◌}
use Rattle.std.proofs.lemmas.Result.{IfOk-weaker}
use Rattle.step_table.specs.ClientState.{edit_of}
use Rattle.client_state.specs.Acts.{row_of}
use Rattle.client_lines.proofs.Edits.{edited}
use Rattle.client_lines.proofs.edit.edit_file.Goals as goal

pub returns-then-writes : goal.returns-then-writes
returns-then-writes c = IfOk-weaker c.edit.result _ _
    (λ acted each. edited c.args.client.now c.args.number c.args.line c.args.ino (edit_of c.args.line)
    (row_of c.edit.new.self acted) c.requires (sym c.writes.ensures ∙ c.if-writes.true) each) c.edit.ensures

use Rattle.std.proofs.Common.{ap, ◌∙◌}
use Rattle.held_files.specs.Files.{is_writer}
use Rattle.step_table.specs.ClientState.{Client}
use Rattle.client_state.proofs.state.ClientState.writes.Goals as goal

pub returns : goal.returns
returns c = c.is_writer.ensures ∙ ap (λ (s : Client). is_writer c.args.ino s.files) c.self.view_is

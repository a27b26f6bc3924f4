use Rattle.std.proofs.Common.{ap, ◌∙◌}
use Rattle.held_files.specs.Files.{is_writer}
use Rattle.step_table.specs.ClientState.{Client}
use Rattle.client_state.proofs.state.ClientState.keep_cut.Goals as goal

pub truncate-requires : goal.truncate-requires
truncate-requires c = ap (λ (s : Client). is_writer c.args.ino s.files) c.self.view_is ∙ c.requires.held

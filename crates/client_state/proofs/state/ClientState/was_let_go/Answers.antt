use Rattle.std.proofs.Common.{ap, ◌∙◌}
use Rattle.std.specs.List.{list_any}
use Rattle.held_files.specs.Files.{is_ino}
use Rattle.step_table.specs.ClientState.{Client}
use Rattle.client_state.specs.Acts.{let_go_in}
use Rattle.client_state.proofs.state.ClientState.was_let_go.Goals as goal

pub returns : goal.returns
returns c = c.was_let_go.ensures ∙ ap (λ (s : Client). list_any (is_ino c.args.ino) (let_go_in s.under)) c.self.view_is

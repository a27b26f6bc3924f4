use Rattle.std.proofs.Common.{◌∙◌}
use Rattle.held_files.specs.Due.{first_due}
use Rattle.client_state.proofs.state.ClientState.first_due.Goals as goal

pub returns : goal.returns
returns c = c.next_flush.ensures ∙ (λ i. first_due (c.reading.ensures i) (c.self.view_is i).files)

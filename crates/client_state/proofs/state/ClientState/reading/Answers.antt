use Rattle.std.proofs.Common.{ap, ◌∙◌}
use Rattle.step_table.specs.ClientState.{Client}
use Rattle.step_table.specs.ClientLines.{reading}
use Rattle.client_state.proofs.state.ClientState.reading.Goals as goal

pub returns : goal.returns
returns c = c.reading.ensures ∙ ap (λ (s : Client). reading s.under) c.self.view_is

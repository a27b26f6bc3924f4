use Rattle.std.proofs.Common.{ap, ◌∙◌}
use Rattle.held_files.specs.Due.{first_due}
use Rattle.step_table.specs.ClientState.{Client}
use Rattle.step_table.specs.ClientLines.{reading}
use Rattle.client_state.proofs.Changed.{counted}
use Rattle.client_state.proofs.state.ClientState.count_sent.Goals as goal

pub sent-requires : goal.sent-requires
sent-requires c = (reading c.args.self.now.under, ap (λ (s : Client). first_due (reading c.args.self.now.under) s.files) c.self.view_is ∙ c.requires)

pub returns : goal.returns
returns c = counted _ c.args.self.now c.self.view_is c.args.due.now _ c.sent.ensures

use Rattle.std.proofs.Common.{ap, ◌∙◌}
use Rattle.step_table.specs.ClientState.{Client, context_in}
use Rattle.client_state.proofs.state.ClientState.seq_of.Goals as goal

pub returns : goal.returns
returns c = c.seq_of.ensures ∙ ap (λ (s : Client). (context_in s.contexts c.args.ino).seq) c.self.view_is

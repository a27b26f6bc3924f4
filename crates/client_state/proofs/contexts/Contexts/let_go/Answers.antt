use Rattle.std.proofs.Common.{ap, ◌∙◌}
use Rattle.step_table.specs.ClientState.{without_context}
use Rattle.client_state.proofs.Known.{let_go}
use Rattle.client_state.proofs.contexts.Contexts.let_go.Goals as goal

pub returns : goal.returns
returns c = let_go c.args.ino c.self.inside.contexts.entries c.shift_remove.new.self.entries c.shift_remove.ensures.entries c.shift_remove.ensures.updates.1
    ∙ ap (without_context c.args.ino) c.self.view_is

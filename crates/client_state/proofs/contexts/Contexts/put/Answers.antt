use Rattle.std.proofs.Common.{ap, ◌∙◌}
use Rattle.step_table.specs.ClientState.{with_context}
use Rattle.client_state.proofs.Known.{put}
use Rattle.client_state.proofs.contexts.Contexts.put.Goals as goal

pub returns : goal.returns
returns c = c.in_ok-insert.ensures.entries
    ∙ put c.args.ino c.args.context c.self.inside.contexts.entries c.shift_remove.new.self.entries c.shift_remove.ensures.entries c.shift_remove.ensures.updates.1
    ∙ ap (with_context c.args.ino c.args.context) c.self.view_is

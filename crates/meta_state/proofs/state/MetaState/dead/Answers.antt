use Rattle.std.proofs.Common.{ap, ◌∙◌}
use Rattle.file_uses.specs.Uses.{next_dead}
use Rattle.meta_state.specs.Stands.{Tables}
use Rattle.meta_state.proofs.Unsent.{next_dead_is}
use Rattle.meta_state.proofs.state.MetaState.dead.Goals as goal

-- src/state.rt
pub returns : goal.returns
returns c entries stands =
    c.dead.ensures.dead ∙ ap (λ (t : Tables). next_dead c.args.sent.now t.uses) c.self.view_is
    ∙ next_dead_is c.args.self.now.uses entries c.args.sent.now stands.uses

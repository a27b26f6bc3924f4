use Rattle.std.proofs.Common.{ap, ◌∙◌}
use Rattle.file_uses.specs.Uses.{dead_of}
use Rattle.meta_state.specs.Stands.{Tables}
use Rattle.meta_state.proofs.Unsent.{dead_files_are}
use Rattle.meta_state.proofs.state.MetaState.dead_files.Goals as goal

pub returns : goal.returns
returns c entries stands =
    c.dead_files.ensures.dead ∙ ap (λ (t : Tables). dead_of t.uses) c.self.view_is
    ∙ dead_files_are c.args.self.now.uses entries stands.uses

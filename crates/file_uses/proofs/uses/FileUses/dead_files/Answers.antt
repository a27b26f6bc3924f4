use Rattle.std.proofs.Common.{ap, ◌∙◌}
use Rattle.file_uses.specs.Uses.{dead_of}
use Rattle.file_uses.proofs.uses.FileUses.dead_files.Goals as goal

pub returns : goal.returns
returns c = record { dead = c.deref.ensures.value ∙ c.self.invariant.dead ∙ ap dead_of c.self.view_is }

use Rattle.std.proofs.Common.{sym, ◌∙◌, ap, length}
use Rattle.object_clones.specs.Extents.{byte_in}
use Rattle.object_log.proofs.Many.{length-so_many}
use Rattle.object_clones.proofs.extents.Extents.len.Goals as goal

pub returns : goal.returns
returns c = sym (length-so_many (λ place. byte_in place c.self.inside.extents.items) c.self.inside.length) ∙ ap length c.self.view_is

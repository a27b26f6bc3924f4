use Rattle.std.proofs.Common.{List, find, ap, ◌∙◌}
use Rattle.snap_ids.specs.declared.id.Ino.{Ino}
use Rattle.file_uses.specs.Uses.{is_unsent, next_dead}
use Rattle.file_uses.proofs.Steps.{same_option}
use Rattle.file_uses.proofs.uses.FileUses.dead.Goals as goal

pub returns : goal.returns
returns c = record {
  dead =
      c.first_unsent.ensures
      ∙ same_option (find (is_unsent c.args.sent.now) c.deref.result.now)
      ∙ ap (λ (inos : List Ino). find (is_unsent c.args.sent.now) inos) (c.deref.ensures.value ∙ c.self.invariant.dead)
      ∙ ap (next_dead c.args.sent.now) c.self.view_is;
}

use Rattle.std.proofs.Common.{List, ap, ◌∙◌}
use Rattle.std.specs.List.{list_any}
use Rattle.plain_tree.specs.State.{Handle}
use Rattle.file_uses.specs.declared.handles.OpenFile.{OpenFile}
use Rattle.file_uses.specs.Handles.{is_open}
use Rattle.file_uses.specs.Kept.{keeps_open}
use Rattle.file_uses.proofs.Seen.{seen_open}
use Rattle.file_uses.proofs.handles.Handles.hold.Goals as goal

pub returns : goal.returns
returns c =
    c.is_kept_open.ensures
    ∙ ap (λ (items : List OpenFile). list_any (keeps_open c.args.ino) items) c.deref.ensures.value
    ∙ seen_open c.args.ino c.self.inside.items.items
    ∙ ap (λ (handles : List Handle). is_open handles c.args.ino.0) c.self.view_is

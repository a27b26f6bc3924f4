use Rattle.std.proofs.Common.{List, option_map, find, ap, ◌∙◌}
use Rattle.plain_tree.specs.State.{Handle}
use Rattle.plain_tree.specs.Change.{open_of}
use Rattle.file_uses.specs.declared.handles.OpenFile.{OpenFile}
use Rattle.file_uses.specs.Handles.{opened_of}
use Rattle.file_uses.specs.Kept.{is_of}
use Rattle.file_uses.proofs.Seen.{seen_opened}
use Rattle.file_uses.proofs.handles.Handles.get.Goals as goal

pub returns : goal.returns
returns c =
    c.look_up.ensures
    ∙ ap (λ (items : List OpenFile). option_map (λ (file : OpenFile). file.opened) (find (is_of c.args.client c.args.handle) items)) c.deref.ensures.value
    ∙ seen_opened c.args.client c.args.handle c.self.inside.items.items
    ∙ ap (λ (handles : List Handle). option_map opened_of (open_of handles c.args.client c.args.handle)) c.self.view_is

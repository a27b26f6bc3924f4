use Rattle.std.proofs.Common.{◌≡◌, ◌∷◌, [], List, map, None, ap, sym, subst, ◌∙◌}
use Rattle.plain_tree.specs.State.{Handle}
use Rattle.plain_tree.specs.Change.{open_of}
use Rattle.file_uses.specs.declared.handles.OpenFile.{OpenFile}
use Rattle.file_uses.specs.Handles.{AreApart}
use Rattle.file_uses.specs.Kept.{handle_of}
use Rattle.file_uses.proofs.Lists.{map_append}
use Rattle.file_uses.proofs.Apart.{apart_more}
use Rattle.file_uses.proofs.handles.Handles.push.Goals as goal

pub invariant_of-self-2 : goal.invariant_of-self-2
invariant_of-self-2 c =
    let items : List OpenFile = c.self.inside.items.items in
    let new : OpenFile = record { client = c.args.client; handle = c.args.handle; opened = record { ino = c.args.ino; writable = c.args.writable } } in
    let none : open_of (map handle_of items) c.args.client c.args.handle ≡ None = ap (λ (handles : List Handle). open_of handles c.args.client c.args.handle) c.self.view_is ∙ c.requires in
    subst (λ (kept : List OpenFile). AreApart (map handle_of kept)) (sym c.in_ok-push.ensures.items)
    (subst AreApart (sym (map_append handle_of items (new ∷ []))) (apart_more (map handle_of items) (handle_of new) none c.self.invariant))

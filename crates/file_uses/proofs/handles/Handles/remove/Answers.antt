use Rattle.std.proofs.Common.{rules, ◌≡◌, not, List, map, ap, sym, subst, ◌∙◌}
use Rattle.std.proofs.lemmas.Fn.{filter_same}
use Rattle.plain_tree.specs.State.{Handle}
use Rattle.plain_tree.specs.Change.{is_handle, open_of}
use Rattle.file_uses.specs.declared.handles.OpenFile.{OpenFile}
use Rattle.file_uses.specs.Handles.{is_open, without_handle, AreApart}
use Rattle.file_uses.specs.Kept.{handle_of, is_of}
use Rattle.file_uses.proofs.Seen.{seen_without}
use Rattle.file_uses.proofs.Apart.{apart_kept, others_open}
use Rattle.file_uses.proofs.handles.Handles.remove.Goals as goal
use Rattle.file_uses.proofs.handles.Handles.remove.Goals.{After-retain}

-- the handles that are left
left : (c : After-retain) → map handle_of c.retain.new.self.items ≡ without_handle c.args.client c.args.handle (map handle_of c.self.inside.items.items)
left c =
    ap (λ (items : List OpenFile). map handle_of items) (filter_same _ (λ (file : OpenFile). not (is_of c.args.client c.args.handle file)) _ (λ x b q k. search rules) _ _ c.retain.ensures.filtered)
    ∙ seen_without c.args.client c.args.handle c.self.inside.items.items

pub invariant_of-self : goal.invariant_of-self
invariant_of-self c =
    subst AreApart (sym (left (goal.at.invariant_of-self c).After-retain))
    (apart_kept (λ (opened : Handle). not (is_handle c.args.client c.args.handle opened)) (map handle_of c.self.inside.items.items) c.self.invariant)

pub returns-clause-closed : goal.returns-clause-closed
returns-clause-closed c = left (goal.at.returns-clause-closed c).After-retain ∙ ap (without_handle c.args.client c.args.handle) c.self.view_is

pub returns-clause-others : goal.returns-clause-others
returns-clause-others c = λ closed at ino off.
    ap (λ (handles : List Handle). is_open handles ino) (left (goal.at.returns-clause-others c).After-retain)
    ∙ others_open c.args.client c.args.handle closed ino off (map handle_of c.self.inside.items.items) c.self.invariant
    (ap (λ (handles : List Handle). open_of handles c.args.client c.args.handle) c.self.view_is ∙ at)
    ∙ ap (λ (handles : List Handle). is_open handles ino) c.self.view_is

-- What the kept handles say of those that contracts see.
use Rattle.std.proofs.Common.{◌≡◌, ℕ, not, ◌==◌, List, map, filter, find, Option, None, Some, option_map, refl, sym, ap, ◌∙◌}
use Rattle.std.specs.List.{list_any}
use Rattle.snap_ids.specs.declared.id.Ino.{Ino}
use Rattle.plain_tree.specs.State.{Handle}
use Rattle.plain_tree.specs.Change.{is_handle, open_of}
use Rattle.file_uses.specs.declared.handles.OpenFile.{OpenFile}
use Rattle.file_uses.specs.Handles.{opened_of, is_open, without_handle}
use Rattle.file_uses.specs.Kept.{handle_of, is_of, keeps_open}
use Rattle.file_uses.proofs.Lists.{find_map, filter_map_of, any_map}

same_opened : (o : Option OpenFile) → option_map (λ (file : OpenFile). file.opened) o ≡ option_map opened_of (option_map handle_of o)
same_opened None = refl
same_opened (Some file) = refl

pub seen_opened : (client handle : ℕ) (items : List OpenFile) → option_map (λ (file : OpenFile). file.opened) (find (is_of client handle) items) ≡ option_map opened_of (open_of (map handle_of items) client handle)
seen_opened client handle items = same_opened (find (is_of client handle) items) ∙ ap (option_map opened_of) (sym (find_map handle_of (is_handle client handle) items))

pub seen_open : (ino : Ino) (items : List OpenFile) → list_any (keeps_open ino) items ≡ is_open (map handle_of items) ino.0
seen_open ino items = sym (any_map handle_of (λ (opened : Handle). opened.ino.0 == ino.0) items)

pub seen_without : (client handle : ℕ) (items : List OpenFile) → map handle_of (filter (λ file. not (is_of client handle file)) items) ≡ without_handle client handle (map handle_of items)
seen_without client handle items = sym (filter_map_of handle_of (λ opened. not (is_handle client handle opened)) items)

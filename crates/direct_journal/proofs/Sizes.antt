-- No flush stands among the entries of a direct history.
use Rattle.std.proofs.Common.{◌≡◌, ℕ, List, [], ◌∷◌, ◌++◌, Option, None, Some, refl, ap, ◌∙◌}
use Rattle.std.proofs.lemmas.List.Sums.{fold-append}
use Rattle.std.specs.Prelude.{fold}
use Rattle.snap_ids.specs.declared.id.Ino.{Ino}
use Rattle.snap_ids.specs.declared.id.SnapId.{SnapId}
use Rattle.plain_types.specs.declared.change.Change.{Change}
use Rattle.plain_types.specs.declared.change.Change.TheVariants as change
use Rattle.plain_types.specs.declared.change.Effect.{Effect}
use Rattle.plain_types.specs.declared.entry.Entry.{Entry}
use Rattle.plain_types.specs.declared.entry.What.{What}
use Rattle.plain_types.specs.declared.history.Event.{Event}
use Rattle.plain_journal.specs.Settled.{size_by, settled_size}
use Rattle.direct_journal.specs.Journal.{what_of, entry_of, entries_of, line_of, entries_in, journal_of}

abbrev sizes : Ino → SnapId → ℕ → List Entry → ℕ
sizes f s size entries = fold (λ before (entry : Entry). size_by f s before entry.what) size entries

abbrev LeavesSize : Option What → Type 0
LeavesSize None = Unit {0}
LeavesSize (Some w) = (f : Ino) (s : SnapId) (size : ℕ) → size_by f s size w ≡ size

leaves_size : (made : Change) → LeavesSize (what_of made)
leaves_size (change.Mkdir dir name ino) = λ f s size. refl
leaves_size (change.Create dir name ino mode) = λ f s size. refl
leaves_size (change.Link ino dir name) = λ f s size. refl
leaves_size (change.Unlink dir name) = λ f s size. refl
leaves_size (change.Rmdir dir name) = λ f s size. refl
leaves_size (change.Rename dir name to_dir to_name) = λ f s size. refl
leaves_size (change.Chmod ino mode) = λ f s size. refl
leaves_size (change.OpenFile handle ino writable) = λ f s size. refl
leaves_size (change.CloseFile handle) = λ f s size. refl
leaves_size (change.Mksnap id dir name) = λ f s size. refl
leaves_size (change.Rmsnap id) = λ f s size. refl
leaves_size (change.WriteFile handle offset bytes) = tt
leaves_size (change.Truncate handle size) = tt

leaves_entry : (client number : ℕ) (o : Option What) → LeavesSize o → (f : Ino) (s : SnapId) (size : ℕ) → sizes f s size (entry_of client number o) ≡ size
leaves_entry client number None leaves f s size = refl
leaves_entry client number (Some w) leaves f s size = leaves f s size

sizes_append : (f : Ino) (s : SnapId) (size : ℕ) (first later : List Entry) → sizes f s size first ≡ size → sizes f s size (first ++ later) ≡ sizes f s size later
sizes_append f s size first later same =
    fold-append (λ before (entry : Entry). size_by f s before entry.what) size first later ∙ ap (λ (n : ℕ). sizes f s n later) same

leaves_effects : (number : ℕ) (effects : List Effect) (f : Ino) (s : SnapId) (size : ℕ) → sizes f s size (entries_of number effects) ≡ size
leaves_effects number [] f s size = refl
leaves_effects number (effect ∷ effects) f s size =
    sizes_append f s size (entry_of effect.client number (what_of effect.change)) (entries_of number effects) (leaves_entry effect.client number (what_of effect.change) (leaves_size effect.change) f s size)
    ∙ leaves_effects number effects f s size

leaves_events : (events : List Event) (f : Ino) (s : SnapId) (size : ℕ) → sizes f s size (journal_of events) ≡ size
leaves_events [] f s size = refl
leaves_events (event ∷ events) f s size =
    sizes_append f s size (entries_in event) (journal_of events) (leaves_effects (line_of event.replies) event.effects f s size)
    ∙ leaves_events events f s size

-- each size is 0
pub sizes_none : (history : List Event) (f : Ino) (s : SnapId) → settled_size (journal_of history) f s ≡ 0
sizes_none history f s = leaves_events history f s 0

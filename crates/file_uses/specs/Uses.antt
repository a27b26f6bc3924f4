-- Which files are in use, and what each call makes of that.
use Rattle.std.specs.Prelude.{ℕ, ◌+◌, ◌-◌, Bool, true, false, not, ◌&&◌, ◌==◌, nat_lt, List, [], ◌∷◌, ◌++◌, map, filter, find, if◌then◌else◌, Option, None, Some}
use Rattle.std.specs.List.{list_any}
use Rattle.std.specs.Map.{lookup}
use Rattle.std.specs.Ordering.{nat_cmp}
use Rattle.std.specs.BTreeMap.{is_at}
use Rattle.snap_ids.specs.declared.id.Ino.{Ino}
use Rattle.plain_tree.specs.State.{Handle}
use Rattle.file_uses.specs.declared.files.FileUse.{FileUse}
use Rattle.file_uses.specs.Handles.{is_open, without_handle}

-- the files by rising inode, each with what is known of it, and the open handles in the order in which they were opened
pub record Uses : Type 0 where
  pub files : List (ℕ × FileUse)
  pub handles : List Handle

-- no file
abbrev pub no_file : Uses
no_file = record { files = []; handles = [] }

-- what is known of a file; None where it isn't there
abbrev pub use_of : Uses → Ino → Option FileUse
use_of uses ino = lookup (is_at (nat_cmp ino.0)) uses.files

-- how many names a file has, 0 where it isn't there
abbrev pub names_in : Option FileUse → ℕ
names_in None = 0
names_in (Some file) = file.names

abbrev pub names_of : Uses → Ino → ℕ
names_of uses ino = names_in (use_of uses ino)

-- the file has neither name nor handle, and the store hasn't dropped it
abbrev pub is_dead : List Handle → ℕ × FileUse → Bool
is_dead handles file = (file.1.names == 0) && not file.1.dropped && not (is_open handles file.0)

abbrev pub ino_of : ℕ × FileUse → Ino
ino_of file = record { 0 = file.0 }

-- the dead files, rising
abbrev pub dead_of : Uses → List Ino
dead_of uses = map ino_of (filter (is_dead uses.handles) uses.files)

-- an inode is in a list
abbrev pub is_among : List Ino → Ino → Bool
is_among sent ino = list_any (λ (other : Ino). other.0 == ino.0) sent

abbrev pub is_unsent : List Ino → Ino → Bool
is_unsent sent ino = not (is_among sent ino)

-- the least dead file that isn't in a list
abbrev pub next_dead : List Ino → Uses → Option Ino
next_dead sent uses = find (is_unsent sent) (dead_of uses)

-- a new file has one name
abbrev pub new_use : FileUse
new_use = record { names = 1; dropped = false }

-- rising files and a new one, in its place
abbrev pub with_new : Ino → List (ℕ × FileUse) → List (ℕ × FileUse)
with_new ino [] = (ino.0, new_use) ∷ []
with_new ino (file ∷ files) = if nat_lt ino.0 file.0 then (ino.0, new_use) ∷ file ∷ files else file ∷ with_new ino files

-- the files, where one of them has changed
abbrev pub changed : Ino → (FileUse → FileUse) → List (ℕ × FileUse) → List (ℕ × FileUse)
changed ino change files = map (λ file. if file.0 == ino.0 then (file.0, change file.1) else file) files

abbrev pub one_more : FileUse → FileUse
one_more file = record { names = file.names + 1; dropped = file.dropped }

abbrev pub one_less : FileUse → FileUse
one_less file = record { names = file.names - 1; dropped = file.dropped }

abbrev pub as_dropped : FileUse → FileUse
as_dropped file = record { names = file.names; dropped = true }

-- a new file
abbrev pub made : Ino → Uses → Uses
made ino uses = record { files = with_new ino uses.files; handles = uses.handles }

-- a file with one more name
abbrev pub linked : Ino → Uses → Uses
linked ino uses = record { files = changed ino one_more uses.files; handles = uses.handles }

-- a file with one name less
abbrev pub unlinked : Ino → Uses → Uses
unlinked ino uses = record { files = changed ino one_less uses.files; handles = uses.handles }

-- a client has a file open
abbrev pub opened : Handle → Uses → Uses
opened handle uses = record { files = uses.files; handles = uses.handles ++ handle ∷ [] }

-- a client has a handle no more
abbrev pub closed : ℕ → ℕ → Uses → Uses
closed client handle uses = record { files = uses.files; handles = without_handle client handle uses.handles }

-- the store has dropped a file
abbrev pub dropped : Ino → Uses → Uses
dropped ino uses = record { files = changed ino as_dropped uses.files; handles = uses.handles }

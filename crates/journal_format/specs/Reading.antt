-- Reading a field from the front of bytes: its value, and the bytes behind it; None where they don't begin with one.
use Rattle.std.specs.Prelude.{◌≡◌, ℕ, zero, suc, Bool, true, false, List, [], ◌∷◌, length, take, drop, Option, Some, None, Result, Ok, Err, nat_lt, if◌then◌else◌, ◌==◌}
use Rattle.std.specs.Int.{Width, w16, w32, w64, byte_len, from_be_bytes}
use Rattle.snap_ids.specs.Name.{is_name}
use Rattle.snap_ids.specs.declared.id.Ino.{Ino}
use Rattle.snap_ids.specs.declared.id.SnapId.{SnapId}
use Rattle.plain_types.specs.declared.entry.Entry.{Entry}
use Rattle.plain_types.specs.declared.entry.What.{What}
use Rattle.plain_types.specs.declared.entry.What.TheVariants.{Mkdir, Create, Link, Unlink, Rmdir, Rename, Chmod, OpenFile, CloseFile, PrepareCreate, Mksnap, PrepareDestroy, Rmsnap, Rollback, Settle, Release, Trim, Purgedone, Deadfile, Barrier}
use Rattle.journal_format.specs.Bytes.{bytes_of_all, AreEntries}
use Rattle.journal_format.specs.declared.unread.Unread.{Unread}
use Rattle.journal_format.specs.declared.unread.Unread.TheVariants as why

-- with the value of a step, where there is one
infixl 10 ◌>>=◌
abbrev pub ◌>>=◌ : {A B : Type 0} → Option A → (A → Option B) → Option B
None >>= f = None
(Some x) >>= f = f x

-- what a function returned, seen by view, is what reading gives, unless memory ran out
abbrev pub Fails : {Y : Type 0} → Unread → Option Y → Type 0
Fails why.NoMemory read = Unit {0}
Fails why.Malformed read = read ≡ None

abbrev pub Gives : {X Y : Type 0} → (X → Y) → Result X Unread → Option Y → Type 0
Gives view (Ok x) read = read ≡ Some (view x)
Gives view (Err e) read = Fails e read

abbrev pub byte_at : List ℕ → Option (ℕ × List ℕ)
byte_at [] = None
byte_at (byte ∷ rest) = Some (byte, rest)

abbrev pub number_at : Width → List ℕ → Option (ℕ × List ℕ)
number_at w bytes = if nat_lt (length bytes) (byte_len w) then None else Some (from_be_bytes w (take (byte_len w) bytes), drop (byte_len w) bytes)

abbrev pub long_at : List ℕ → Option (ℕ × List ℕ)
long_at bytes = number_at w64 bytes

abbrev pub word_at : List ℕ → Option (ℕ × List ℕ)
word_at bytes = number_at w32 bytes

abbrev pub short_at : List ℕ → Option (ℕ × List ℕ)
short_at bytes = number_at w16 bytes

unfoldable pub flag_at : List ℕ → Option (Bool × List ℕ)
flag_at [] = None
flag_at (zero ∷ rest) = Some (false, rest)
flag_at (suc zero ∷ rest) = Some (true, rest)
flag_at (suc (suc byte) ∷ rest) = None

-- the name of so many bytes
abbrev pub name_of : ℕ → List ℕ → Option (List ℕ × List ℕ)
name_of count bytes = if nat_lt (length bytes) count then None else if is_name (take count bytes) then Some (take count bytes, drop count bytes) else None

unfoldable pub name_at : List ℕ → Option (List ℕ × List ℕ)
name_at bytes = do
  count ← byte_at bytes
  name_of count.0 count.1

-- one field, and the next
abbrev pub then_at : {A B : Type 0} → (List ℕ → Option (A × List ℕ)) → (List ℕ → Option (B × List ℕ)) → List ℕ → Option ((A × B) × List ℕ)
then_at first second bytes = first bytes >>= λ x. second x.1 >>= λ y. Some ((x.0, y.0), y.1)

-- what is made of fields
abbrev pub made_at : {A B : Type 0} → (A → B) → (List ℕ → Option (A × List ℕ)) → List ℕ → Option (B × List ℕ)
made_at make fields bytes = fields bytes >>= λ x. Some (make x.0, x.1)

abbrev pub ino : ℕ → Ino
ino n = record { 0 = n }

abbrev pub id : ℕ → SnapId
id n = record { 0 = n }

-- what an entry of one kind says
unfoldable pub mkdir_at : List ℕ → Option (What × List ℕ)
mkdir_at bytes = made_at (λ x. Mkdir (ino x.0) x.1.0 (ino x.1.1)) (then_at long_at (then_at name_at long_at)) bytes

unfoldable pub create_at : List ℕ → Option (What × List ℕ)
create_at bytes = made_at (λ x. Create (ino x.0) x.1.0 (ino x.1.1.0) x.1.1.1) (then_at long_at (then_at name_at (then_at long_at short_at))) bytes

unfoldable pub link_at : List ℕ → Option (What × List ℕ)
link_at bytes = made_at (λ x. Link (ino x.0) (ino x.1.0) x.1.1) (then_at long_at (then_at long_at name_at)) bytes

unfoldable pub unlink_at : List ℕ → Option (What × List ℕ)
unlink_at bytes = made_at (λ x. Unlink (ino x.0) x.1) (then_at long_at name_at) bytes

unfoldable pub rmdir_at : List ℕ → Option (What × List ℕ)
rmdir_at bytes = made_at (λ x. Rmdir (ino x.0) x.1) (then_at long_at name_at) bytes

unfoldable pub rename_at : List ℕ → Option (What × List ℕ)
rename_at bytes = made_at (λ x. Rename (ino x.0) x.1.0 (ino x.1.1.0) x.1.1.1) (then_at long_at (then_at name_at (then_at long_at name_at))) bytes

unfoldable pub chmod_at : List ℕ → Option (What × List ℕ)
chmod_at bytes = made_at (λ x. Chmod (ino x.0) x.1) (then_at long_at short_at) bytes

unfoldable pub open_file_at : List ℕ → Option (What × List ℕ)
open_file_at bytes = made_at (λ x. OpenFile x.0 (ino x.1.0) x.1.1) (then_at byte_at (then_at long_at flag_at)) bytes

unfoldable pub close_file_at : List ℕ → Option (What × List ℕ)
close_file_at bytes = made_at (λ x. CloseFile x) byte_at bytes

unfoldable pub mksnap_at : List ℕ → Option (What × List ℕ)
mksnap_at bytes = made_at (λ x. Mksnap (id x.0) (ino x.1.0) x.1.1) (then_at long_at (then_at long_at name_at)) bytes

unfoldable pub settle_at : List ℕ → Option (What × List ℕ)
settle_at bytes = made_at (λ x. Settle (ino x.0) (id x.1.0) (id x.1.1.0) x.1.1.1) (then_at long_at (then_at long_at (then_at long_at word_at))) bytes

unfoldable pub release_at : List ℕ → Option (What × List ℕ)
release_at bytes = made_at (λ x. Release (ino x.0) (id x.1.0) x.1.1) (then_at long_at (then_at long_at word_at)) bytes

-- what an entry of one number says
abbrev pub numbered : ℕ → ℕ → Option What
numbered kind n =
    if kind == 10 then Some (PrepareCreate (id n))
    else if kind == 12 then Some (PrepareDestroy (id n))
    else if kind == 13 then Some (Rmsnap (id n))
    else if kind == 14 then Some (Rollback (id n))
    else if kind == 17 then Some (Trim (id n))
    else if kind == 18 then Some (Purgedone (id n))
    else if kind == 19 then Some (Deadfile (ino n))
    else if kind == 20 then Some (Barrier n)
    else None

unfoldable pub one_at : ℕ → List ℕ → Option (What × List ℕ)
one_at kind bytes = do
  number ← long_at bytes
  what ← numbered kind number.0
  Some (what, number.1)

-- what an entry of this kind says
abbrev pub what_at : ℕ → List ℕ → Option (What × List ℕ)
what_at kind bytes =
    if kind == 1 then mkdir_at bytes
    else if kind == 2 then create_at bytes
    else if kind == 3 then link_at bytes
    else if kind == 4 then unlink_at bytes
    else if kind == 5 then rmdir_at bytes
    else if kind == 6 then rename_at bytes
    else if kind == 7 then chmod_at bytes
    else if kind == 8 then open_file_at bytes
    else if kind == 9 then close_file_at bytes
    else if kind == 11 then mksnap_at bytes
    else if kind == 15 then settle_at bytes
    else if kind == 16 then release_at bytes
    else one_at kind bytes

unfoldable pub entry_at : List ℕ → Option (Entry × List ℕ)
entry_at bytes = do
  kind ← byte_at bytes
  client ← byte_at kind.1
  number ← long_at client.1
  what ← what_at kind.0 number.1
  Some (record { client = client.0; number = number.0; what = what.0 }, what.1)

-- all of the bytes are read: as entries with these bytes, or as those of no list
abbrev pub Reads : List ℕ → Result (List Entry) Unread → Type 0
Reads bytes (Ok entries) = AreEntries entries × (bytes ≡ bytes_of_all entries)
Reads bytes (Err why.Malformed) = (entries : List Entry) → AreEntries entries → bytes ≡ bytes_of_all entries → ⊥
Reads bytes (Err why.NoMemory) = Unit {0}

-- What a client has to send next.
use Rattle.std.specs.Prelude.{ℕ, Bool, false, not, ◌&&◌, ◌==◌, List, [], ◌∷◌, if◌then◌else◌, Option, None, Some}
use Rattle.snap_ids.specs.declared.id.Ino.{Ino}
use Rattle.snap_ids.specs.declared.values.Mode.{Mode}
use Rattle.snap_ids.specs.declared.values.Mode.TheVariants.{Read, Write}
use Rattle.held_files.specs.declared.due.Due.{Due}
use Rattle.held_files.specs.declared.due.Due.TheVariants.{Piece, Mark, Release, DropRead}
use Rattle.held_files.specs.Files.{Item, OfPiece, OfMark, HeldFile, HeldFiles, with_file, without, item_sent, is_empty}

-- the file has an open read at the store
abbrev pub is_read : Option Ino → Ino → Bool
is_read None ino = false
is_read (Some reading) ino = reading.0 == ino.0

-- a recalled file is given back, by a writer with its size
abbrev pub given_back : Ino → ℕ → Mode → Due
given_back ino size Write = Release ino size
given_back ino size Read = DropRead ino

-- The first of what waits is due where it is a piece, or a mark whose older pieces the store has acknowledged. Where
-- nothing waits, a recalled file is due for its release, once all pieces are acknowledged and no read is open.
abbrev pub due_of : Option Ino → Ino → HeldFile → List Item → Option Due
due_of reading ino file (OfPiece piece ∷ items) = Some (Piece ino)
due_of reading ino file (OfMark mark ∷ items) =
    if is_empty file.unacked then Some (Mark ino mark.follows mark.upto mark.size) else None
due_of reading ino file [] =
    if file.recalled && is_empty file.unacked && not (is_read reading ino) then Some (given_back ino file.size file.mode) else None

abbrev pub due : Option Ino → Ino × HeldFile → Option Due
due reading f = due_of reading f.0 f.1 f.1.unsent

-- the first of two, if there is one
abbrev pub or_else : Option Due → Option Due → Option Due
or_else None other = other
or_else (Some item) other = Some item

-- the due item of the first file that has one, where `reading` is the file with an open read at the store
abbrev pub first_due : Option Ino → HeldFiles → Option Due
first_due reading [] = None
first_due reading (f ∷ files) = or_else (due reading f) (first_due reading files)

-- a due item is sent: after its release a file isn't held
abbrev pub sent : Due → HeldFiles → HeldFiles
sent (Piece ino) files = with_file ino item_sent files
sent (Mark ino follows upto size) files = with_file ino item_sent files
sent (Release ino size) files = without ino files
sent (DropRead ino) files = without ino files

-- What a client holds, and what happens to it.
use Rattle.std.specs.Prelude.{ℕ, max, Bool, true, false, not, ◌&&◌, ◌==◌, List, [], ◌∷◌, ◌++◌, map, drop, if◌then◌else◌, Option, None, Some, is_some}
use Rattle.std.specs.List.{filter_map}
use Rattle.std.specs.Map.{lookup, remove_entry}
use Rattle.snap_ids.specs.declared.id.Ino.{Ino}
use Rattle.snap_ids.specs.declared.id.SnapId.{SnapId}
use Rattle.snap_ids.specs.declared.values.Mode.{Mode}
use Rattle.snap_ids.specs.declared.values.Mode.TheVariants.{Read, Write}
use Rattle.plain_types.specs.declared.message.Claim.{Claim}
use Rattle.held_files.specs.declared.piece.Piece.{Piece}
use Rattle.held_files.specs.Buffer.{Buffer, size_after}

-- The file's context grew from one sequence id to another; the size is the file's then. The server is told.
pub record Mark : Type 0 where
  pub follows : SnapId
  pub upto : SnapId
  pub size : ℕ

-- what waits to be sent: a piece to the store, or a mark to the server
pub data Item : Type 0 where
  OfPiece : Piece → Item
  OfMark : Mark → Item

-- A file that is held: up to the id `settled` no mark of it is owed; `unacked` are the pieces that were sent and that the
-- store hasn't acknowledged, `unsent` what waits to be sent, both oldest first.
pub record HeldFile : Type 0 where
  pub mode : Mode
  pub size : ℕ
  pub settled : SnapId
  pub recalled : Bool
  pub unacked : List Piece
  pub unsent : List Item

-- the held files by their inodes, in the order in which they were held
abbrev pub HeldFiles : Type 0
HeldFiles = List (Ino × HeldFile)

-- the mode allows changes
abbrev pub is_write : Mode → Bool
is_write Write = true
is_write Read = false

-- the inode is another one's
abbrev pub is_ino : Ino → Ino → Bool
is_ino ino other = ino.0 == other.0

-- the file of an inode: the first one's, and no inode has two
abbrev pub file_of : Ino → HeldFiles → Option HeldFile
file_of ino files = lookup (is_ino ino) files

-- the files after a change of one
abbrev pub with_file : Ino → (HeldFile → HeldFile) → HeldFiles → HeldFiles
with_file ino change [] = []
with_file ino change (f ∷ files) = if is_ino ino f.0 then (f.0, change f.1) ∷ files else f ∷ with_file ino change files

-- the files but one
abbrev pub without : Ino → HeldFiles → HeldFiles
without ino files = remove_entry (is_ino ino) files

-- a file that is held newly
abbrev pub held_newly : Mode → ℕ → SnapId → HeldFile
held_newly mode size settled =
    record { mode = mode; size = size; settled = settled; recalled = false; unacked = []; unsent = [] }

-- a file that was held already: a recall stays, but for a raise to Write
abbrev pub held_again : Mode → ℕ → SnapId → HeldFile → HeldFile
held_again mode size settled file =
    record file { mode = mode; size = size; settled = settled; recalled = file.recalled && not (is_write mode) }

-- a file is held: one that was held already keeps its place, another goes last
abbrev pub hold : Ino → Mode → ℕ → SnapId → HeldFiles → HeldFiles
hold ino mode size settled [] = (ino, held_newly mode size settled) ∷ []
hold ino mode size settled (f ∷ files) =
    if is_ino ino f.0 then (f.0, held_again mode size settled f.1) ∷ files else f ∷ hold ino mode size settled files

-- a piece more, a write or a cut
abbrev pub with_piece : Piece → HeldFile → HeldFile
with_piece piece file = record file { size = size_after file.size piece; unsent = file.unsent ++ OfPiece piece ∷ [] }

-- a mark more
abbrev pub with_mark : Mark → HeldFile → HeldFile
with_mark mark file = record file { unsent = file.unsent ++ OfMark mark ∷ [] }

-- the server wants the file back
abbrev pub recalled : HeldFile → HeldFile
recalled file = record file { recalled = true }

-- the store has acknowledged the oldest piece that was sent
abbrev pub stored : HeldFile → HeldFile
stored file = record file { unacked = drop 1 file.unacked }

-- the server has acknowledged a mark up to an id
abbrev pub settled_to : SnapId → HeldFile → HeldFile
settled_to upto file = record file { settled = record { 0 = max file.settled.0 upto.0 } }

-- the first of what waits counts as sent: a piece then waits for the store, a mark is kept no more
abbrev pub first_sent : HeldFile → List Item → HeldFile
first_sent file [] = file
first_sent file (OfPiece piece ∷ items) = record file { unacked = file.unacked ++ piece ∷ []; unsent = items }
first_sent file (OfMark mark ∷ items) = record file { unsent = items }

abbrev pub item_sent : HeldFile → HeldFile
item_sent file = first_sent file file.unsent

-- what the client says that it holds
abbrev pub claim_of : Ino × HeldFile → Claim
claim_of f = record { ino = f.0; mode = f.1.mode; settled = f.1.settled }

abbrev pub claims : HeldFiles → List Claim
claims files = map claim_of files

-- the pieces among what waits
abbrev pub piece_of : Item → Option Piece
piece_of (OfPiece piece) = Some piece
piece_of (OfMark mark) = None

-- what is kept back of the file's bytes
abbrev pub buffer_of : HeldFile → Buffer
buffer_of file = record { size = file.size; unacked = file.unacked; unsent = filter_map piece_of file.unsent }

-- the inode's file is held
abbrev pub is_held : Ino → HeldFiles → Bool
is_held ino files = is_some (file_of ino files)

-- it is held for writing
abbrev pub may_write : Option HeldFile → Bool
may_write None = false
may_write (Some file) = is_write file.mode

abbrev pub is_writer : Ino → HeldFiles → Bool
is_writer ino files = may_write (file_of ino files)

-- a list has nothing
abbrev pub is_empty : {A : Type 0} → List A → Bool
is_empty [] = true
is_empty (item ∷ items) = false

-- the file is held, and nothing of it is kept back
abbrev pub is_idle : Option HeldFile → Bool
is_idle None = false
is_idle (Some file) = is_empty file.unacked && is_empty file.unsent

-- a piece of the file was sent, and isn't acknowledged
abbrev pub has_unacked : Option HeldFile → Bool
has_unacked None = false
has_unacked (Some file) = not (is_empty file.unacked)

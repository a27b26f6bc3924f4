-- The code's form of what waits for one file: its unsent pieces, and between them marks, each with the number of pieces
-- that stand between the mark before it and itself.
use Rattle.std.specs.Prelude.{ℕ, ◌+◌, ◌-◌, Bool, true, false, not, ◌||◌, ◌&&◌, List, [], ◌∷◌, ◌++◌, map, take, drop, Option, None, Some}
use Rattle.snap_ids.specs.declared.values.Mode.{Mode}
use Rattle.held_files.specs.declared.piece.Piece.{Piece}
use Rattle.held_files.specs.Buffer.{Buffer}
use Rattle.held_files.specs.Files.{Mark, Item, OfPiece, OfMark, HeldFile, is_write, is_empty}
use Rattle.cap_snap.specs.declared.held.Queued.{Queued}
use Rattle.cap_snap.specs.declared.held.First.{First}
use Rattle.cap_snap.specs.declared.held.First.TheVariants as first

abbrev pub mark_of : Queued → Mark
mark_of mark = record { follows = mark.follows; upto = mark.upto; size = mark.size }

-- pieces with marks between them
abbrev pub woven : List Queued → List Piece → List Item
woven [] pieces = map OfPiece pieces
woven (mark ∷ marks) pieces = map OfPiece (take mark.after pieces) ++ OfMark (mark_of mark) ∷ woven marks (drop mark.after pieces)

-- how many pieces stand before the last mark
abbrev pub total : List Queued → ℕ
total [] = 0
total (mark ∷ marks) = mark.after + total marks

-- what stands first
abbrev pub first_of : List Item → First
first_of [] = first.Nothing
first_of (OfPiece piece ∷ items) = first.Piece
first_of (OfMark mark ∷ items) = first.Mark mark.follows mark.upto mark.size

-- the piece that stands first
abbrev pub leading_piece : List Item → Option Piece
leading_piece [] = None
leading_piece (OfPiece piece ∷ items) = Some piece
leading_piece (OfMark mark ∷ items) = None

abbrev pub leading_in : Option HeldFile → Option Piece
leading_in None = None
leading_in (Some file) = leading_piece file.unsent

abbrev pub is_first_mark : First → Bool
is_first_mark (first.Mark follows upto size) = true
is_first_mark item = false

-- one piece fewer stands before the first mark
abbrev pub sooner : List Queued → List Queued
sooner [] = []
sooner (mark ∷ marks) = record mark { after = mark.after - 1 } ∷ marks

-- something waits, or the server wants the file back
abbrev pub waits : HeldFile → Bool
waits file = file.recalled || not (is_empty file.unsent)

-- nothing is kept back of a file that is only read
abbrev pub is_kept : Mode → Buffer → List Queued → Bool
is_kept mode buffer marks = is_write mode || (is_empty buffer.unacked && is_empty buffer.unsent && is_empty marks)

-- Small stories of what a client holds.
use Rattle.std.specs.Prelude.{ℕ, List, [], codes}
use Rattle.snap_ids.specs.declared.id.Ino.{Ino}
use Rattle.snap_ids.specs.declared.id.SnapId.{SnapId}
use Rattle.snap_ids.specs.declared.values.Mode.TheVariants.{Read, Write}
use Rattle.snap_ids.specs.Context.{Context}
use Rattle.held_files.specs.declared.piece.Piece.{Piece}
use Rattle.held_files.specs.declared.piece.Piece.TheVariants.{Put, Cut}
use Rattle.held_files.specs.Files.{Mark, HeldFiles, with_file, hold, with_piece, with_mark, recalled}

abbrev pub snap : ℕ → SnapId
snap id = record { 0 = id }

abbrev pub one : Ino
one = record { 0 = 7 }

abbrev pub other : Ino
other = record { 0 = 4 }

-- the context before any snapshot
abbrev pub at_first : Context
at_first = record { seq = snap 1; ids = [] }

abbrev pub put : ℕ → List ℕ → Piece
put offset bytes = Put offset bytes at_first

abbrev pub cut : ℕ → Piece
cut length = Cut length at_first

abbrev pub mark : ℕ → Mark
mark size = record { follows = snap 1; upto = snap 2; size = size }

-- two bytes are written, a snapshot is made, and a third byte is written
abbrev pub written_and_marked : HeldFiles
written_and_marked =
    with_file one (λ f. with_piece (put 2 (codes "c")) (with_mark (mark 2) (with_piece (put 0 (codes "ab")) f)))
    (hold one Write 0 (snap 1) [])

-- a file is held for reading and recalled
abbrev pub read_and_recalled : HeldFiles
read_and_recalled = with_file one recalled (hold one Read 5 (snap 1) [])

-- two files are held, and the second is written
abbrev pub second_written : HeldFiles
second_written = with_file other (with_piece (put 0 (codes "a"))) (hold other Write 0 (snap 1) (hold one Write 0 (snap 1) []))

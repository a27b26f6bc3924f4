-- What a client keeps back of one file's bytes.
use Rattle.std.specs.Prelude.{ℕ, ◌+◌, max, List, [], ◌∷◌, ◌++◌, length, take, drop, fold, slice_index_or}
use Rattle.held_files.specs.declared.piece.Piece.{Piece}
use Rattle.held_files.specs.declared.piece.Piece.TheVariants.{Put, Cut}
use Rattle.object_log.specs.Bytes.{so_many, laid, cut_off}

-- How large the file is, the pieces that were sent and that the store hasn't acknowledged, and those that aren't sent, all
-- oldest first.
pub record Buffer : Type 0 where
  pub size : ℕ
  pub unacked : List Piece
  pub unsent : List Piece

-- a file of this size, of which nothing is kept back
abbrev pub nothing_kept : ℕ → Buffer
nothing_kept size = record { size = size; unacked = []; unsent = [] }

-- where a piece ends
abbrev pub end_of : Piece → ℕ
end_of (Put offset bytes context) = offset + length bytes
end_of (Cut length context) = length

-- how large a file is after a piece
abbrev pub size_after : ℕ → Piece → ℕ
size_after size (Put offset bytes context) = max size (offset + length bytes)
size_after size (Cut length context) = length

-- a piece more
abbrev pub with_piece : Piece → Buffer → Buffer
with_piece piece buffer = record buffer { size = size_after buffer.size piece; unsent = buffer.unsent ++ piece ∷ [] }

-- the oldest piece that isn't sent counts as sent
abbrev pub sent : Buffer → Buffer
sent buffer = record buffer { unacked = buffer.unacked ++ take 1 buffer.unsent; unsent = drop 1 buffer.unsent }

-- the oldest piece that was sent is acknowledged, and kept no more
abbrev pub acked : Buffer → Buffer
acked buffer = record buffer { unacked = drop 1 buffer.unacked }

-- the byte at a place under one more piece
abbrev pub byte_under : ℕ → ℕ → Piece → ℕ
byte_under place byte (Put offset bytes context) = laid place offset bytes byte
byte_under place byte (Cut length context) = cut_off place length byte

-- so many bytes: the stored ones, zero where there are no more, under pieces, the oldest first
abbrev pub bytes_under : ℕ → List Piece → List ℕ → List ℕ
bytes_under size pieces stored = so_many size (λ place. fold (byte_under place) (slice_index_or stored place 0) pieces)

-- the file's bytes: the stored ones under all pieces that the store hasn't acknowledged
abbrev pub read_over : Buffer → List ℕ → List ℕ
read_over buffer stored = bytes_under buffer.size (buffer.unacked ++ buffer.unsent) stored

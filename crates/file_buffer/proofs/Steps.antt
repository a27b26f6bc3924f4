-- The pieces of one file.
use Rattle.std.proofs.Common.{◌≡◌, ℕ, ◌+◌, ◌<◌, List, ◌++◌, length, take, drop, get_or, sym, ap, subst, ◌∙◌, fold}
use Rattle.std.proofs.Math.Seq.{take-add}
use Rattle.std.proofs.lemmas.List.{drop-drop, take-append-drop}
use Rattle.object_log.proofs.Many.{is_so_many}
use Rattle.held_files.specs.declared.piece.Piece.{Piece}
use Rattle.held_files.specs.Buffer.{Buffer, sent, byte_under, read_over}

-- pieces of which the first are sent
abbrev pub of_pieces : ℕ → ℕ → List Piece → Buffer
of_pieces size count pieces = record { size = size; unacked = take count pieces; unsent = drop count pieces }

-- one more counts as sent
pub one_sent : (size count : ℕ) (pieces : List Piece) (b : Buffer) → of_pieces size count pieces ≡ b
    → of_pieces size (count + 1) pieces ≡ sent b
one_sent size count pieces b is = subst (λ (x : Buffer). of_pieces size (count + 1) pieces ≡ sent x) is
    (λ i. record { size = size; unacked = take-add count 1 pieces i; unsent = sym (drop-drop 1 count pieces) i })

-- bytes that lie under all pieces at each place
pub all_over : (bytes stored : List ℕ) (size count : ℕ) (pieces : List Piece) (b : Buffer) → of_pieces size count pieces ≡ b
    → length bytes ≡ size → ((place : ℕ) → place < size → get_or bytes place 0 ≡ fold (byte_under place) (get_or stored place 0) pieces)
    → bytes ≡ read_over b stored
all_over bytes stored size count pieces b is long at = subst (λ (x : Buffer). bytes ≡ read_over x stored) is
    (is_so_many bytes (λ place. fold (byte_under place) (get_or stored place 0) (take count pieces ++ drop count pieces)) size long
    (λ place h. at place h ∙ ap (fold (byte_under place) (get_or stored place 0)) (sym (take-append-drop count pieces))))

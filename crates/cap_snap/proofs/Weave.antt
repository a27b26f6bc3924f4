-- Pieces with marks between them.
use Rattle.std.proofs.Common.{◌≡◌, ℕ, zero, suc, ◌+◌, ◌-◌, ◌<◌, ◌≤◌, Bool, true, false, ◌&&◌, IsTrue, List, [], ◌∷◌, ◌++◌, length, map, take, drop, get_or, Option, None, Some, slice_get, refl, sym, ap, subst, ◌∙◌, arith}
use Rattle.std.proofs.lemmas.List.{append_assoc, take-append-drop, take-append-le, drop-append-le, length-drop, map-append, take_all, drop_all}
use Rattle.std.proofs.lemmas.List.Elements.{filter_map-append}
use Rattle.std.specs.List.{filter_map}
use Rattle.snap_ids.specs.declared.id.SnapId.{SnapId}
use Rattle.snap_ids.specs.declared.values.Mode.{Mode}
use Rattle.snap_ids.specs.declared.values.Mode.TheVariants.{Read, Write}
use Rattle.held_files.specs.declared.piece.Piece.{Piece}
use Rattle.held_files.specs.Buffer as buffer
use Rattle.held_files.specs.Files.{Mark, Item, OfPiece, OfMark, HeldFile, piece_of, buffer_of, with_piece, with_mark, first_sent, item_sent, is_write, is_empty}
use Rattle.cap_snap.specs.declared.held.Queued.{Queued}
use Rattle.cap_snap.specs.declared.held.First.TheVariants as first
use Rattle.cap_snap.specs.Woven.{mark_of, woven, total, first_of, is_first_mark, leading_piece, sooner, is_kept}

-- the file as contracts see it
abbrev pub shown : Mode → SnapId → Bool → buffer.Buffer → List Queued → HeldFile
shown mode settled recalled buf marks = record {
  mode = mode;
  size = buf.size;
  settled = settled;
  recalled = recalled;
  unacked = buf.unacked;
  unsent = woven marks buf.unsent;
}

pieces_of : (pieces : List Piece) → filter_map piece_of (map OfPiece pieces) ≡ pieces
pieces_of [] = refl
pieces_of (piece ∷ pieces) = ap (λ l. piece ∷ l) (pieces_of pieces)

-- the pieces among them
pub pieces_woven : (marks : List Queued) (pieces : List Piece) → filter_map piece_of (woven marks pieces) ≡ pieces
pieces_woven [] pieces = pieces_of pieces
pieces_woven (mark ∷ marks) pieces =
    filter_map-append piece_of (map OfPiece (take mark.after pieces)) (OfMark (mark_of mark) ∷ woven marks (drop mark.after pieces))
    ∙ (λ i. pieces_of (take mark.after pieces) i ++ pieces_woven marks (drop mark.after pieces) i)
    ∙ take-append-drop mark.after pieces

pub buffer_is : (mode : Mode) (settled : SnapId) (recalled : Bool) (buf : buffer.Buffer) (marks : List Queued) (file : HeldFile)
    → shown mode settled recalled buf marks ≡ file → buf ≡ buffer_of file
buffer_is mode settled recalled buf marks file is = subst (λ (f : HeldFile). buf ≡ buffer_of f) is
    (λ i. record { size = buf.size; unacked = buf.unacked; unsent = sym (pieces_woven marks buf.unsent) i })

-- one more piece stands last
pub one_piece : (marks : List Queued) (pieces : List Piece) (piece : Piece) → total marks ≤ length pieces
    → woven marks (pieces ++ piece ∷ []) ≡ woven marks pieces ++ OfPiece piece ∷ []
one_piece [] pieces piece h = map-append OfPiece pieces (piece ∷ [])
one_piece (mark ∷ marks) pieces piece h =
    (λ i. map OfPiece (take-append-le mark.after pieces (piece ∷ []) (omega arith) i) ++ OfMark (mark_of mark) ∷ woven marks (drop-append-le mark.after pieces (piece ∷ []) (omega arith) i))
    ∙ ap (λ l. map OfPiece (take mark.after pieces) ++ OfMark (mark_of mark) ∷ l) (one_piece marks (drop mark.after pieces) piece (omega (arith, length-drop mark.after pieces)))
    ∙ sym (append_assoc (map OfPiece (take mark.after pieces)) (OfMark (mark_of mark) ∷ woven marks (drop mark.after pieces)) (OfPiece piece ∷ []))

pub piece_added : (mode : Mode) (settled : SnapId) (recalled : Bool) (buf new : buffer.Buffer) (marks : List Queued) (marked : ℕ) (file : HeldFile) (piece : Piece)
    → shown mode settled recalled buf marks ≡ file → total marks ≡ marked → marked ≤ length buf.unsent → new ≡ buffer.with_piece piece buf
    → shown mode settled recalled new marks ≡ with_piece piece file
piece_added mode settled recalled buf new marks marked file piece is sum within added =
    ap (λ b. shown mode settled recalled b marks) added
    ∙ (λ i. record {
      mode = mode;
      size = buffer.size_after buf.size piece;
      settled = settled;
      recalled = recalled;
      unacked = buf.unacked;
      unsent = one_piece marks buf.unsent piece (omega arith) i;
    })
    ∙ ap (with_piece piece) is

-- one more mark stands last
pub one_mark : (marks : List Queued) (pieces : List Piece) (mark : Queued) → total marks + mark.after ≡ length pieces
    → woven (marks ++ mark ∷ []) pieces ≡ woven marks pieces ++ OfMark (mark_of mark) ∷ []
one_mark [] pieces mark h = λ i. map OfPiece (take_all mark.after pieces (omega arith) i) ++ OfMark (mark_of mark) ∷ map OfPiece (drop_all mark.after pieces (omega arith) i)
one_mark (other ∷ marks) pieces mark h =
    ap (λ l. map OfPiece (take other.after pieces) ++ OfMark (mark_of other) ∷ l) (one_mark marks (drop other.after pieces) mark (omega (arith, length-drop other.after pieces)))
    ∙ sym (append_assoc (map OfPiece (take other.after pieces)) (OfMark (mark_of other) ∷ woven marks (drop other.after pieces)) (OfMark (mark_of mark) ∷ []))

pub total_more : (marks : List Queued) (mark : Queued) → total (marks ++ mark ∷ []) ≡ total marks + mark.after
total_more [] mark = omega arith
total_more (other ∷ marks) mark = omega (arith, total_more marks mark)

pub mark_added : (mode : Mode) (settled : SnapId) (recalled : Bool) (buf : buffer.Buffer) (marks now : List Queued) (file : HeldFile) (mark : Queued)
    → shown mode settled recalled buf marks ≡ file → total marks + mark.after ≡ length buf.unsent → now ≡ marks ++ mark ∷ []
    → shown mode settled recalled buf now ≡ with_mark (mark_of mark) file
mark_added mode settled recalled buf marks now file mark is sum more =
    ap (shown mode settled recalled buf) more
    ∙ (λ i. record {
      mode = mode;
      size = buf.size;
      settled = settled;
      recalled = recalled;
      unacked = buf.unacked;
      unsent = one_mark marks buf.unsent mark sum i;
    })
    ∙ ap (with_mark (mark_of mark)) is

-- where pieces stand before the first mark, a piece stands first
first_front : (n : ℕ) (pieces : List Piece) (rest : List Item) → 0 < n → n ≤ length pieces → first.Piece ≡ first_of (map OfPiece (take n pieces) ++ rest)
first_front zero pieces rest h k = absurd (omega arith)
first_front (suc n) [] rest h k = absurd (omega arith)
first_front (suc n) (piece ∷ pieces) rest h k = refl

pub first_piece : (marks : List Queued) (pieces : List Piece) (mark : Queued) → 0 < length marks → mark ≡ get_or marks 0 mark → 0 < mark.after
    → total marks ≤ length pieces → first.Piece ≡ first_of (woven marks pieces)
first_piece [] pieces mark h is k w = absurd (omega arith)
first_piece (q ∷ marks) pieces mark h is k w =
    first_front q.after pieces (OfMark (mark_of q) ∷ woven marks (drop q.after pieces)) (subst (λ (m : Queued). 0 < m.after) is k) (omega arith)

-- a file that may be written may keep anything back
pub kept : (mode mode' : Mode) (buf : buffer.Buffer) (marks : List Queued) → mode ≡ mode' → IsTrue (is_write mode') → IsTrue (is_kept mode buf marks)
kept mode Write buf marks is h = rw is refl
kept mode Read buf marks is h = absurd (cc)

-- where a mark stands first, no piece stands before it
front_mark : (n : ℕ) (pieces : List Piece) (rest : List Item) → is_first_mark (first_of (map OfPiece (take n pieces) ++ rest)) ≡ true → n ≤ length pieces → n ≡ 0
front_mark zero pieces rest h k = refl
front_mark (suc n) [] rest h k = absurd (omega arith)
front_mark (suc n) (piece ∷ pieces) rest h k = absurd (cc)

front_none : (pieces : List Piece) → is_first_mark (first_of (map OfPiece pieces)) ≡ true → ⊥
front_none [] h = cc
front_none (piece ∷ pieces) h = cc

-- that mark counts as sent
pub mark_moved : (mode : Mode) (settled : SnapId) (recalled : Bool) (buf : buffer.Buffer) (marks now : List Queued) (file : HeldFile)
    → shown mode settled recalled buf marks ≡ file → is_first_mark (first_of file.unsent) ≡ true → total marks ≤ length buf.unsent → now ≡ drop 1 marks
    → (total now ≡ total marks) × (shown mode settled recalled buf now ≡ item_sent file)
mark_moved mode settled recalled buf [] now file is front within popped =
    absurd (front_none buf.unsent (ap (λ (f : HeldFile). is_first_mark (first_of f.unsent)) is ∙ front))
mark_moved mode settled recalled buf (q ∷ marks) now file is front within popped =
    let at : q.after ≡ 0 = front_mark q.after buf.unsent (OfMark (mark_of q) ∷ woven marks (drop q.after buf.unsent))
    (ap (λ (f : HeldFile). is_first_mark (first_of f.unsent)) is ∙ front) (omega arith) in
    let items : woven (q ∷ marks) buf.unsent ≡ OfMark (mark_of q) ∷ woven marks buf.unsent =
    ap (λ n. map OfPiece (take n buf.unsent) ++ OfMark (mark_of q) ∷ woven marks (drop n buf.unsent)) at in (
      ap total popped ∙ (let e : total marks ≡ q.after + total marks = omega arith in e),
      ap (shown mode settled recalled buf) popped ∙ sym (ap (first_sent (shown mode settled recalled buf (q ∷ marks))) items) ∙ ap item_sent is,
    )

-- a piece that stands first, and what stands behind it
abbrev Front : List Queued → List Piece → Type 0
Front marks pieces = (piece : Piece) × (rest : List Piece) × (pieces ≡ piece ∷ rest) × (woven marks pieces ≡ OfPiece piece ∷ woven (sooner marks) rest)

front_piece : (q : Queued) (marks : List Queued) (n : ℕ) → q.after ≡ n → (pieces : List Piece)
    → first_of (map OfPiece (take n pieces) ++ OfMark (mark_of q) ∷ woven marks (drop n pieces)) ≡ first.Piece → Front (q ∷ marks) pieces
front_piece q marks zero at pieces h = absurd (cc)
front_piece q marks (suc n) at [] h = absurd (cc)
front_piece q marks (suc n) at (piece ∷ pieces) h =
    let less : n ≡ q.after - 1 = omega arith in (
      piece,
      pieces,
      refl,
      ap (λ m. map OfPiece (take m (piece ∷ pieces)) ++ OfMark (mark_of q) ∷ woven marks (drop m (piece ∷ pieces))) at
          ∙ ap (λ m. OfPiece piece ∷ map OfPiece (take m pieces) ++ OfMark (mark_of q) ∷ woven marks (drop m pieces)) less,
    )

some_front : (marks : List Queued) (pieces : List Piece) → first_of (woven marks pieces) ≡ first.Piece → Front marks pieces
some_front [] [] h = absurd (cc)
some_front [] (piece ∷ pieces) h = (piece, pieces, refl, refl)
some_front (q ∷ marks) pieces h = front_piece q marks q.after refl pieces h

-- that piece counts as sent
pub piece_moved : (mode : Mode) (settled : SnapId) (recalled : Bool) (buf new : buffer.Buffer) (marks now : List Queued) (file : HeldFile)
    → shown mode settled recalled buf marks ≡ file → first_of file.unsent ≡ first.Piece → now ≡ sooner marks → new ≡ buffer.sent buf
    → shown mode settled recalled new now ≡ item_sent file
piece_moved mode settled recalled buf new marks now file is front less moved =
    let f : Front marks buf.unsent = some_front marks buf.unsent (ap (λ (f : HeldFile). first_of f.unsent) is ∙ front) in
    (λ i. shown mode settled recalled (moved i) (less i))
    ∙ (λ i. record {
      mode = mode;
      size = buf.size;
      settled = settled;
      recalled = recalled;
      unacked = buf.unacked ++ take 1 (f.2 i);
      unsent = woven (sooner marks) (drop 1 (f.2 i));
    })
    ∙ sym (ap (first_sent (shown mode settled recalled buf marks)) f.3)
    ∙ ap item_sent is

-- where nothing waits, nothing is sent
pub none_moved : (file : HeldFile) (items : List Item) → first_of items ≡ first.Nothing → first_sent file items ≡ file
none_moved file [] h = refl
none_moved file (OfPiece piece ∷ items) h = absurd (cc)
none_moved file (OfMark mark ∷ items) h = absurd (cc)

fewer : (b : Bool) (marks now : List Queued) → now ≡ drop 1 marks → IsTrue (b && is_empty marks) → IsTrue (b && is_empty now)
fewer true [] now is h = rw is refl
fewer true (mark ∷ marks) now is h = absurd (cc)
fewer false marks now is h = h

-- with one mark fewer no more is kept back
pub kept_fewer : (mode : Mode) (buf : buffer.Buffer) (marks now : List Queued) → now ≡ drop 1 marks → IsTrue (is_kept mode buf marks) → IsTrue (is_kept mode buf now)
kept_fewer Write buf marks now is h = refl
kept_fewer Read buf marks now is h = fewer (is_empty buf.unacked && is_empty buf.unsent) marks now is h

leads_before : (n : ℕ) (pieces : List Piece) (mark : Mark) (items : List Item)
    → first_of (map OfPiece (take n pieces) ++ OfMark mark ∷ items) ≡ first.Piece
    → slice_get pieces 0 ≡ leading_piece (map OfPiece (take n pieces) ++ OfMark mark ∷ items)
leads_before zero pieces mark items is = cc
leads_before (suc n) [] mark items is = cc
leads_before (suc n) (piece ∷ pieces) mark items is = refl

-- the piece that waits first is the oldest unsent one, where it stands before each mark
pub piece_leads : (marks : List Queued) (pieces : List Piece) → first_of (woven marks pieces) ≡ first.Piece
    → slice_get pieces 0 ≡ leading_piece (woven marks pieces)
piece_leads [] [] is = cc
piece_leads [] (piece ∷ pieces) is = refl
piece_leads (mark ∷ marks) pieces is = leads_before mark.after pieces (mark_of mark) (woven marks (drop mark.after pieces)) is

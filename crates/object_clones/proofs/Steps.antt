-- One more extent of a loop over extents.
use Rattle.std.proofs.Common.{◌≡◌, ℕ, ◌+◌, ◌-◌, ◌<◌, ◌≤◌, max, List, [], ◌∷◌, length, get_or, take, drop, sym, ◌∙◌, ap, subst, arith, nat_lt, if◌then◌else◌, ⊎_elim}
use Rattle.std.proofs.lemmas.List.{drop_more, drop_all}
use Rattle.std.proofs.lemmas.List.Sums.{fold_more}
use Rattle.std.proofs.lemmas.Bool.{cases_lt}
use Rattle.object_log.specs.Bytes.{laid, cut_off}
use Rattle.object_clones.specs.Extents.{Rise, byte_over, byte_in, bytes_of}
use Rattle.object_clones.specs.declared.extents.Extent.{Extent}
use Rattle.object_log.proofs.Laid.{laid_before, laid_in, laid_past, laid_rest, cut_in, cut_past}
use Rattle.object_log.proofs.Many.{get_or-so_many, get_or-so_many_past}
use Rattle.object_clones.proofs.Rises.{byte_past}

pub byte_more : (es : List Extent) (i place b : ℕ) (e : Extent) → i < length es → e ≡ get_or es i e
    → byte_over place b (take (i + 1) es) ≡ laid place e.offset e.bytes.items (byte_over place b (take i es))
byte_more es i place b e h is = fold_more (λ (c : ℕ) (x : Extent). laid place x.offset x.bytes.items c) b es i e h
    ∙ ap (λ (x : Extent). laid place x.offset x.bytes.items (byte_over place b (take i es))) (sym is)

-- what rises behind the extents so far
pub rise_more : (es : List Extent) (i m upto : ℕ) (e : Extent) → i < length es → e ≡ get_or es i e → Rise m upto (drop i es)
    → (m ≤ e.offset) × (0 < length e.bytes.items) × Rise (e.offset + length e.bytes.items) upto (drop (i + 1) es)
rise_more es i m upto e h is r =
    let R : List Extent → Type 0 = λ xs. Rise m upto xs in
    let s : Rise m upto (get_or es i e ∷ drop (i + 1) es) = subst R (drop_more es i e h) r in
    let E : Extent → Type 0 = λ x. Rise m upto (x ∷ drop (i + 1) es) in
    let t : Rise m upto (e ∷ drop (i + 1) es) = subst E (sym is) s in
    (t.0, t.1, t.2)

pub rise_none : (es : List Extent) (i m upto : ℕ) → length es ≤ i → Rise m upto (drop i es) → m ≤ upto
rise_none es i m upto h r = let R : List Extent → Type 0 = λ xs. Rise m upto xs in let s : Rise m upto [] = subst R (drop_all i es h) r in s

-- the bytes that a value of extents shows
pub byte_shown : (es : List Extent) (n place : ℕ) (bytes : List ℕ) → bytes_of n es ≡ bytes → Rise 0 n es → get_or bytes place 0 ≡ byte_in place es
byte_shown es n place bytes is r =
    let at : get_or bytes place 0 ≡ get_or (bytes_of n es) place 0 = ap (λ bs. get_or bs place 0) (sym is) in
    ⊎_elim
    (λ (p : place < n). at ∙ get_or-so_many (λ i. byte_in i es) n place 0 p)
    (λ (p : n ≤ place). at ∙ get_or-so_many_past (λ i. byte_in i es) n place 0 p ∙ sym (byte_past es 0 n place 0 r p))
    (cases_lt place n)

pub if_below : (a b x y : ℕ) → a < b → (if nat_lt a b then x else y) ≡ x
if_below a b x y h = grind arith

pub if_from : (a b x y : ℕ) → b ≤ a → (if nat_lt a b then x else y) ≡ y
if_from a b x y h = grind arith

-- a byte after what stood before a write, the write, and what stood behind it
pub written_byte : (place offset end : ℕ) (bytes : List ℕ) (es : List Extent) (k a f : ℕ) → end ≡ offset + length bytes
    → k ≡ cut_off place offset (byte_in place es) → a ≡ laid place offset bytes k
    → f ≡ (if nat_lt place end then a else byte_over place a es) → f ≡ laid place offset bytes (byte_in place es)
written_byte place offset end bytes es k a f is kept added rest = ⊎_elim
    (λ (p : place < offset). rest ∙ if_below place end a _ (omega arith) ∙ added ∙ laid_before place offset bytes k p ∙ kept
    ∙ cut_in place offset (byte_in place es) p ∙ sym (laid_before place offset bytes (byte_in place es) p))
    (λ (p : offset ≤ place). ⊎_elim
    (λ (q : place < end). rest ∙ if_below place end a _ q ∙ added ∙ laid_in place offset bytes k 0 p (omega arith)
    ∙ sym (laid_in place offset bytes (byte_in place es) 0 p (omega arith)))
    (λ (q : end ≤ place). rest ∙ if_from place end a _ q
    ∙ ap (λ b. byte_over place b es) (added ∙ laid_past place offset bytes k (omega arith) ∙ kept ∙ cut_past place offset (byte_in place es) p)
    ∙ sym (laid_past place offset bytes (byte_in place es) (omega arith)))
    (cases_lt place end))
    (cases_lt place offset)

-- a byte behind an offset, after what an extent has from there on was added, or after an extent that ends before it
pub rest_more : (place from offset skipped cur new before b0 : ℕ) (bytes : List ℕ) → skipped ≡ from - offset → skipped < length bytes
    → cur ≡ (if nat_lt place from then b0 else before) → new ≡ laid place (max offset from) (drop skipped bytes) cur
    → new ≡ (if nat_lt place from then b0 else laid place offset bytes before)
rest_more place from offset skipped cur new before b0 bytes e s was is = ⊎_elim
    (λ (p : place < from). is ∙ laid_before place (max offset from) (drop skipped bytes) cur (omega arith) ∙ was
    ∙ if_below place from b0 before p ∙ sym (if_below place from b0 (laid place offset bytes before) p))
    (λ (p : from ≤ place). is ∙ laid_rest place offset from skipped bytes cur e s p ∙ ap (laid place offset bytes) (was ∙ if_from place from b0 before p)
    ∙ sym (if_from place from b0 (laid place offset bytes before) p))
    (cases_lt place from)

pub rest_same : (place from offset cur before b0 : ℕ) (bytes : List ℕ) → length bytes ≤ from - offset
    → cur ≡ (if nat_lt place from then b0 else before) → cur ≡ (if nat_lt place from then b0 else laid place offset bytes before)
rest_same place from offset cur before b0 bytes h was = ⊎_elim
    (λ (p : place < from). was ∙ if_below place from b0 before p ∙ sym (if_below place from b0 (laid place offset bytes before) p))
    (λ (p : from ≤ place). was ∙ if_from place from b0 before p ∙ sym (⊎_elim
    (λ (q : place < offset). laid_before place offset bytes before q)
    (λ (q : offset ≤ place). laid_past place offset bytes before (omega arith))
    (cases_lt place offset))
    ∙ sym (if_from place from b0 (laid place offset bytes before) p))
    (cases_lt place from)

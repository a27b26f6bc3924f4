-- Bytes laid over others, place by place.
use Rattle.std.proofs.Common.{◌≡◌, ℕ, ◌+◌, ◌-◌, ◌<◌, ◌≤◌, min, max, List, ◌++◌, length, get_or, take, drop, sym, ◌∙◌, ap, arith, length-take, length-drop, ⊎_elim}
use Rattle.std.proofs.lemmas.List.{get_or-take, get_or-drop, get_or_past, get_or_default, get_or_append_left, get_or-append_right}
use Rattle.std.proofs.lemmas.Bool.{cases_lt}
use Rattle.object_log.specs.Bytes.{laid, cut_off}

pub laid_before : (place offset : ℕ) (bytes : List ℕ) (b : ℕ) → place < offset → laid place offset bytes b ≡ b
laid_before place offset bytes b h = grind arith

pub laid_past : (place offset : ℕ) (bytes : List ℕ) (b : ℕ) → offset + length bytes ≤ place → laid place offset bytes b ≡ b
laid_past place offset bytes b h =
    let e : get_or bytes (place - offset) b ≡ b = get_or_past bytes (place - offset) b (omega arith) in
    grind (arith, e)

pub laid_in : (place offset : ℕ) (bytes : List ℕ) (b d : ℕ) → offset ≤ place → place < offset + length bytes
    → laid place offset bytes b ≡ get_or bytes (place - offset) d
laid_in place offset bytes b d h k =
    let e : get_or bytes (place - offset) b ≡ get_or bytes (place - offset) d = get_or_default bytes (place - offset) b d (omega arith) in
    grind (arith, e)

pub cut_in : (place limit b : ℕ) → place < limit → cut_off place limit b ≡ b
cut_in place limit b h = grind arith

pub cut_past : (place limit b : ℕ) → limit ≤ place → cut_off place limit b ≡ 0
cut_past place limit b h = grind arith

-- the front of an extent, laid over what was cut off
pub laid_cut : (place offset limit count : ℕ) (bytes : List ℕ) (b : ℕ) → offset < limit → count ≡ min (length bytes) (limit - offset)
    → laid place offset (take count bytes) (cut_off place limit b) ≡ cut_off place limit (laid place offset bytes b)
laid_cut place offset limit count bytes b h e = ⊎_elim
    (λ (p : place < limit). ⊎_elim
    (λ (q : place < offset). laid_before place offset (take count bytes) _ q ∙ ap (cut_off place limit) (sym (laid_before place offset bytes b q)))
    (λ (q : offset ≤ place). rw (cut_in place limit b p, cut_in place limit (laid place offset bytes b) p) (⊎_elim
    (λ (r : place < offset + length bytes). laid_in place offset (take count bytes) b b q (omega (arith, length-take count bytes))
    ∙ get_or-take count bytes (place - offset) b (omega arith) ∙ sym (laid_in place offset bytes b b q r))
    (λ (r : offset + length bytes ≤ place). laid_past place offset (take count bytes) b (omega (arith, length-take count bytes))
    ∙ sym (laid_past place offset bytes b r))
    (cases_lt place (offset + length bytes))))
    (cases_lt place offset))
    (λ (p : limit ≤ place). laid_past place offset (take count bytes) _ (omega (arith, length-take count bytes))
    ∙ cut_past place limit b p ∙ sym (cut_past place limit (laid place offset bytes b) p))
    (cases_lt place limit)

-- an extent that begins behind the limit leaves nothing before it
pub cut_laid : (place offset limit : ℕ) (bytes : List ℕ) (b : ℕ) → limit ≤ offset
    → cut_off place limit b ≡ cut_off place limit (laid place offset bytes b)
cut_laid place offset limit bytes b h = ⊎_elim
    (λ (p : place < limit). ap (cut_off place limit) (sym (laid_before place offset bytes b (omega arith))))
    (λ (p : limit ≤ place). cut_past place limit b p ∙ sym (cut_past place limit (laid place offset bytes b) p))
    (cases_lt place limit)

-- the rest of an extent from an offset on
pub laid_rest : (place offset from skipped : ℕ) (bytes : List ℕ) (b : ℕ) → skipped ≡ from - offset → skipped < length bytes → from ≤ place
    → laid place (max offset from) (drop skipped bytes) b ≡ laid place offset bytes b
laid_rest place offset from skipped bytes b e s h = ⊎_elim
    (λ (q : place < offset). laid_before place (max offset from) (drop skipped bytes) b (omega arith) ∙ sym (laid_before place offset bytes b q))
    (λ (q : offset ≤ place). ⊎_elim
    (λ (r : place < offset + length bytes). laid_in place (max offset from) (drop skipped bytes) b b (omega arith) (omega (arith, length-drop skipped bytes))
    ∙ get_or-drop skipped bytes (place - max offset from) b
    ∙ ap (λ i. get_or bytes i b) (let e2 : skipped + (place - max offset from) ≡ place - offset = omega arith in e2)
    ∙ sym (laid_in place offset bytes b b q r))
    (λ (r : offset + length bytes ≤ place). laid_past place (max offset from) (drop skipped bytes) b (omega (arith, length-drop skipped bytes))
    ∙ sym (laid_past place offset bytes b r))
    (cases_lt place (offset + length bytes)))
    (cases_lt place offset)

-- a list with a part put in place of another of that length
pub part_laid : (xs ys bytes : List ℕ) (offset count k place : ℕ) → ys ≡ take count bytes → k ≡ count → count ≡ min (length bytes) (length xs - offset)
    → offset < length xs → place < length xs → get_or (take offset xs ++ (ys ++ drop k (drop offset xs))) place 0 ≡ laid place offset bytes (get_or xs place 0)
part_laid xs ys bytes offset count k place is same n h inside =
    let long : length ys ≡ count = omega (arith, ap length is, length-take count bytes, n) in
    let front : length (take offset xs) ≡ offset = omega (arith, length-take offset xs, h) in
    ⊎_elim
    (λ (p : place < offset). get_or_append_left (take offset xs) (ys ++ drop k (drop offset xs)) 0 place (omega arith)
    ∙ get_or-take offset xs place 0 p ∙ sym (laid_before place offset bytes (get_or xs place 0) p))
    (λ (p : offset ≤ place). get_or-append_right (take offset xs) (ys ++ drop k (drop offset xs)) offset place 0 front p ∙ ⊎_elim
    (λ (q : place < offset + count). get_or_append_left ys (drop k (drop offset xs)) 0 (place - offset) (omega arith)
    ∙ ap (λ zs. get_or zs (place - offset) 0) is ∙ get_or-take count bytes (place - offset) 0 (omega arith)
    ∙ sym (laid_in place offset bytes (get_or xs place 0) 0 p (omega arith)))
    (λ (q : offset + count ≤ place). get_or-append_right ys (drop k (drop offset xs)) count (place - offset) 0 long (omega arith)
    ∙ get_or-drop k (drop offset xs) (place - offset - count) 0 ∙ get_or-drop offset xs (k + (place - offset - count)) 0
    ∙ ap (λ i. get_or xs i 0) (let e : offset + (k + (place - offset - count)) ≡ place = omega arith in e)
    ∙ sym (laid_past place offset bytes (get_or xs place 0) (omega arith)))
    (cases_lt place (offset + count)))
    (cases_lt place offset)

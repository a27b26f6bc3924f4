-- What edits do to an object's bytes, and what the log says of it.
use Rattle.std.proofs.Common.{◌≡◌, ℕ, ◌+◌, ◌-◌, ◌<◌, ◌≤◌, min, max, Bool, true, false, nat_lt, nat_le, List, length, get_or, take, drop, Option, None, Some, if◌then◌else◌, slice_range, sym, ◌∙◌, refl, ap, arith, ⊎_elim, length-take, length-drop}
use Rattle.std.specs.Option.{option_map}
use Rattle.std.proofs.lemmas.Bool.{cases_lt}
use Rattle.std.proofs.lemmas.List.{get_or-take, get_or-drop, get_or_past}
use Rattle.snap_ids.specs.Context.{Context}
use Rattle.object_log.specs.Bytes.{laid, cut_off}
use Rattle.object_log.specs.Objects.{Touch, length_of, end_of}
use Rattle.object_clones.specs.Bytes.{written, or_empty}
use Rattle.object_clones.specs.Objects.{head_written, head_cut, head_deleted}
use Rattle.object_log.proofs.Laid.{laid_before, laid_in, laid_past, cut_in, cut_past}
use Rattle.object_log.proofs.Many.{length-so_many, get_or-so_many, get_or-so_many_past}
use Rattle.object_clones.proofs.Clones.{if_false}
use Rattle.object_clones.proofs.Decided.{lt_is, lt_not, le_is, le_not}
use Rattle.object_clones.proofs.Follows.{head_then, touch_of}

pub get_or-written : (old : List ℕ) (offset : ℕ) (bytes : List ℕ) (j : ℕ) → get_or (written old offset bytes) j 0 ≡ laid j offset bytes (get_or old j 0)
get_or-written old offset bytes j =
    let n = max (length old) (offset + length bytes) in
    let f : ℕ → ℕ = λ place. laid place offset bytes (get_or old place 0) in
    ⊎_elim (λ (p : j < n). get_or-so_many f n j 0 p)
    (λ (p : n ≤ j). get_or-so_many_past f n j 0 p ∙ sym (laid_past j offset bytes (get_or old j 0) (omega arith) ∙ get_or_past old j 0 (omega arith)))
    (cases_lt j n)

-- the part of a write that falls in an object
pub length-part : (low size offset : ℕ) (bytes : List ℕ) → max low offset < min (low + size) (offset + length bytes)
    → length (slice_range bytes (max low offset - offset) (min (low + size) (offset + length bytes) - offset)) ≡ min (low + size) (offset + length bytes) - max low offset
length-part low size offset bytes h =
    let from = max low offset in
    let upto = min (low + size) (offset + length bytes) in
    length-take (upto - offset - (from - offset)) (drop (from - offset) bytes)
    ∙ (let e : min (upto - offset - (from - offset)) (length (drop (from - offset) bytes)) ≡ upto - from = omega (arith, length-drop (from - offset) bytes) in e)

pub laid_part : (low size offset j b : ℕ) (bytes : List ℕ) → max low offset < min (low + size) (offset + length bytes) → j < size
    → laid j (max low offset - low) (slice_range bytes (max low offset - offset) (min (low + size) (offset + length bytes) - offset)) b ≡ laid (low + j) offset bytes b
laid_part low size offset j b bytes h inside =
    let from = max low offset in
    let upto = min (low + size) (offset + length bytes) in
    let part = slice_range bytes (from - offset) (upto - offset) in
    let long : length part ≡ upto - from = length-part low size offset bytes h in
    ⊎_elim
    (λ (p : low + j < offset). laid_before j (from - low) part b (omega arith) ∙ sym (laid_before (low + j) offset bytes b p))
    (λ (p : offset ≤ low + j). ⊎_elim
    (λ (q : low + j < offset + length bytes). laid_in j (from - low) part b 0 (omega arith) (omega arith)
    ∙ get_or-take (upto - offset - (from - offset)) (drop (from - offset) bytes) (j - (from - low)) 0 (omega arith)
    ∙ get_or-drop (from - offset) bytes (j - (from - low)) 0
    ∙ ap (λ i. get_or bytes i 0) (let e : from - offset + (j - (from - low)) ≡ low + j - offset = omega arith in e)
    ∙ sym (laid_in (low + j) offset bytes b 0 p q))
    (λ (q : offset + length bytes ≤ low + j). laid_past j (from - low) part b (omega arith) ∙ sym (laid_past (low + j) offset bytes b q))
    (cases_lt (low + j) (offset + length bytes)))
    (cases_lt (low + j) offset)

-- a write that has no byte in an object leaves its bytes
pub laid_apart : (low size offset j b : ℕ) (bytes : List ℕ) → min (low + size) (offset + length bytes) ≤ max low offset → j < size → b ≡ laid (low + j) offset bytes b
laid_apart low size offset j b bytes h inside = ⊎_elim
    (λ (p : low + j < offset). sym (laid_before (low + j) offset bytes b p))
    (λ (p : offset ≤ low + j). sym (laid_past (low + j) offset bytes b (omega arith)))
    (cases_lt (low + j) offset)

abbrev pub piece : ℕ → ℕ → ℕ → List ℕ → Option (List ℕ) → List ℕ
piece low size offset bytes head =
    written (or_empty head) (max low offset - low) (slice_range bytes (max low offset - offset) (min (low + size) (offset + length bytes) - offset))

written_by : (low size offset : ℕ) (bytes : List ℕ) (head : Option (List ℕ)) (j : ℕ) → j < size
    → (b : Bool) → nat_lt (max low offset) (min (low + size) (offset + length bytes)) ≡ b
    → get_or (or_empty (head_then head (if b then Some (Some (piece low size offset bytes head)) else None))) j 0 ≡ laid (low + j) offset bytes (get_or (or_empty head) j 0)
written_by low size offset bytes head j h true e =
    get_or-written (or_empty head) (max low offset - low) (slice_range bytes (max low offset - offset) (min (low + size) (offset + length bytes) - offset)) j
    ∙ laid_part low size offset j (get_or (or_empty head) j 0) bytes (lt_is _ _ e) h
written_by low size offset bytes head j h false e = laid_apart low size offset j (get_or (or_empty head) j 0) bytes (lt_not _ _ e) h

pub bytes_written : (low size offset : ℕ) (bytes : List ℕ) (head : Option (List ℕ)) (j : ℕ) → j < size
    → get_or (or_empty (head_then head (head_written low size offset bytes head))) j 0 ≡ laid (low + j) offset bytes (get_or (or_empty head) j 0)
bytes_written low size offset bytes head j h = written_by low size offset bytes head j h (nat_lt (max low offset) (min (low + size) (offset + length bytes))) refl

length_head : (head : Option (List ℕ)) → length_of (option_map length head) ≡ length (or_empty head)
length_head None = refl
length_head (Some bytes) = refl

touch_by : (low size offset : ℕ) (bytes : List ℕ) (head : Option (List ℕ)) (context : Context)
    → (b : Bool) → nat_lt (max low offset) (min (low + size) (offset + length bytes)) ≡ b
    → (if b then Some (let t : Touch = record { context = context; head = Some (max (length_of (option_map length head)) (min (low + size) (offset + length bytes) - low)) } in t) else None)
    ≡ touch_of context (if b then Some (Some (piece low size offset bytes head)) else None)
touch_by low size offset bytes head context true e =
    let from = max low offset in
    let upto = min (low + size) (offset + length bytes) in
    let lt : from < upto = lt_is from upto e in
    let part = slice_range bytes (from - offset) (upto - offset) in
    let long : length (piece low size offset bytes head) ≡ max (length_of (option_map length head)) (upto - low) =
    length-so_many (λ place. laid place (from - low) part (get_or (or_empty head) place 0)) (max (length (or_empty head)) (from - low + length part))
    ∙ (let e2 : max (length (or_empty head)) (from - low + length part) ≡ max (length_of (option_map length head)) (upto - low) =
    omega (arith, length-part low size offset bytes lt, length_head head) in e2) in
    ap (λ (n : ℕ). let t : Option Touch = Some (record { context = context; head = Some n }) in t) (sym long)
touch_by low size offset bytes head context false e = refl

pub touch_written : (low size offset : ℕ) (bytes : List ℕ) (head : Option (List ℕ)) (context : Context)
    → (if nat_lt (max low offset) (min (low + size) (offset + length bytes))
    then Some (let t : Touch = record { context = context; head = Some (max (length_of (option_map length head)) (min (low + size) (offset + length bytes) - low)) } in t) else None)
    ≡ touch_of context (head_written low size offset bytes head)
touch_written low size offset bytes head context = touch_by low size offset bytes head context (nat_lt (max low offset) (min (low + size) (offset + length bytes))) refl

cut_zero : (place limit : ℕ) → 0 ≡ cut_off place limit 0
cut_zero place limit = ⊎_elim (λ (p : place < limit). sym (cut_in place limit 0 p)) (λ (p : limit ≤ place). sym (cut_past place limit 0 p)) (cases_lt place limit)

cut_by : (low limit : ℕ) (bytes : List ℕ) (j : ℕ) → (b : Bool) → nat_lt limit (low + length bytes) ≡ b → (a : Bool) → nat_le limit low ≡ a
    → get_or (or_empty (head_then (Some bytes) (if b then Some (if a then None else Some (take (limit - low) bytes)) else None))) j 0 ≡ cut_off (low + j) limit (get_or bytes j 0)
cut_by low limit bytes j true e true d = let past : limit ≤ low = le_is limit low d in sym (cut_past (low + j) limit (get_or bytes j 0) (omega arith))
cut_by low limit bytes j true e false d = ⊎_elim
    (λ (p : j < limit - low). get_or-take (limit - low) bytes j 0 p ∙ sym (cut_in (low + j) limit (get_or bytes j 0) (omega arith)))
    (λ (p : limit - low ≤ j). let past : low < limit = le_not limit low d in
    get_or_past (take (limit - low) bytes) j 0 (omega (arith, length-take (limit - low) bytes)) ∙ sym (cut_past (low + j) limit (get_or bytes j 0) (omega arith)))
    (cases_lt j (limit - low))
cut_by low limit bytes j false e a d = let short : low + length bytes ≤ limit = lt_not limit (low + length bytes) e in ⊎_elim
    (λ (p : low + j < limit). sym (cut_in (low + j) limit (get_or bytes j 0) p))
    (λ (p : limit ≤ low + j). get_or_past bytes j 0 (omega arith) ∙ sym (cut_past (low + j) limit (get_or bytes j 0) p))
    (cases_lt (low + j) limit)

pub bytes_cut : (low limit : ℕ) (head : Option (List ℕ)) (j : ℕ)
    → get_or (or_empty (head_then head (head_cut low limit head))) j 0 ≡ cut_off (low + j) limit (get_or (or_empty head) j 0)
bytes_cut low limit None j = cut_zero (low + j) limit
bytes_cut low limit (Some bytes) j = cut_by low limit bytes j (nat_lt limit (low + length bytes)) refl (nat_le limit low) refl

touch_cut_by : (low limit : ℕ) (bytes : List ℕ) (context : Context) → (b : Bool) → nat_lt limit (low + length bytes) ≡ b → (a : Bool) → nat_le limit low ≡ a
    → (if b then Some (let t : Touch = record { context = context; head = if a then None else Some (limit - low) } in t) else None)
    ≡ touch_of context (if b then Some (if a then None else Some (take (limit - low) bytes)) else None)
touch_cut_by low limit bytes context true e true d = refl
touch_cut_by low limit bytes context true e false d =
    let lt : limit < low + length bytes = lt_is limit (low + length bytes) e in
    let long : length (take (limit - low) bytes) ≡ limit - low = omega (arith, length-take (limit - low) bytes) in
    ap (λ (n : ℕ). let t : Option Touch = Some (record { context = context; head = Some n }) in t) (sym long)
touch_cut_by low limit bytes context false e a d = refl

pub touch_cut : (low limit : ℕ) (head : Option (List ℕ)) (context : Context)
    → (if nat_lt limit (end_of low (option_map length head))
    then Some (let t : Touch = record { context = context; head = if nat_le limit low then None else Some (limit - low) } in t) else None)
    ≡ touch_of context (head_cut low limit head)
touch_cut low limit None context = let e : nat_lt limit 0 ≡ false = grind arith in if_false (nat_lt limit 0) _ None e
touch_cut low limit (Some bytes) context = touch_cut_by low limit bytes context (nat_lt limit (low + length bytes)) refl (nat_le limit low) refl

pub bytes_deleted : (head : Option (List ℕ)) (j : ℕ) → get_or (or_empty (head_then head (head_deleted head))) j 0 ≡ 0
bytes_deleted None j = refl
bytes_deleted (Some bytes) j = refl

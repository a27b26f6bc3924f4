-- Extents that rise, and the bytes outside them.
use Rattle.std.proofs.Common.{◌≡◌, ℕ, ◌+◌, ◌<◌, ◌≤◌, List, [], ◌∷◌, ◌++◌, length, ◌∙◌, refl, ap, subst, arith}
use Rattle.object_clones.specs.Extents.{Rise, byte_over}
use Rattle.object_clones.specs.declared.extents.Extent.{Extent}
use Rattle.object_log.proofs.Laid.{laid_past}

pub rise_upto : (es : List Extent) (from n m : ℕ) → Rise from n es → n ≤ m → Rise from m es
rise_upto [] from n m r h = omega arith
rise_upto (e ∷ es) from n m r h = (r.0, r.1, rise_upto es (e.offset + length e.bytes.items) n m r.2 h)

pub rise_from : (es : List Extent) (from n m : ℕ) → Rise from n es → m ≤ from → Rise m n es
rise_from [] from n m r h = omega arith
rise_from (e ∷ es) from n m r h = (omega (arith, r.0), r.1, r.2)

pub rise_push : (es : List Extent) (e : Extent) (from n m : ℕ) → Rise from n es → n ≤ e.offset → 0 < length e.bytes.items
    → e.offset + length e.bytes.items ≤ m → Rise from m (es ++ e ∷ [])
rise_push [] e from n m r h p k = (omega arith, p, k)
rise_push (f ∷ es) e from n m r h p k = (r.0, r.1, rise_push es e (f.offset + length f.bytes.items) n m r.2 h p k)

pub rise_front : (es : List Extent) (e : Extent) (from n : ℕ) → Rise from n (es ++ e ∷ [])
    → Rise from e.offset es × (0 < length e.bytes.items) × (e.offset + length e.bytes.items ≤ n)
rise_front [] e from n r = (r.0, r.1, r.2)
rise_front (f ∷ es) e from n r =
    let below : Rise (f.offset + length f.bytes.items) e.offset es × (0 < length e.bytes.items) × (e.offset + length e.bytes.items ≤ n) =
    rise_front es e (f.offset + length f.bytes.items) n r.2 in
    ((r.0, r.1, below.0), below.1, below.2)

pub rise_bound : (es : List Extent) (from n : ℕ) → Rise from n es → from ≤ n
rise_bound [] from n r = r
rise_bound (e ∷ es) from n r =
    let below : e.offset + length e.bytes.items ≤ n = rise_bound es (e.offset + length e.bytes.items) n r.2 in
    omega (arith, r.0, r.1, below)

-- the last extent grows
pub rise_grow : (es init : List Extent) (last next : Extent) (from n m : ℕ) → Rise from n es → es ≡ init ++ last ∷ []
    → next.offset ≡ last.offset → length last.bytes.items ≤ length next.bytes.items → next.offset + length next.bytes.items ≤ m
    → Rise from m (init ++ next ∷ [])
rise_grow es init last next from n m r e o l k =
    let R : List Extent → Type 0 = λ es. Rise from n es in
    let f : Rise from last.offset init × (0 < length last.bytes.items) × (last.offset + length last.bytes.items ≤ n) =
    rise_front init last from n (subst R e r) in
    rise_push init next from last.offset m f.0 (omega arith) (omega (arith, f.1)) k

-- no extent has a byte behind the end
pub byte_past : (es : List Extent) (from n place b : ℕ) → Rise from n es → n ≤ place → byte_over place b es ≡ b
byte_past [] from n place b r h = refl
byte_past (e ∷ es) from n place b r h =
    let bound : e.offset + length e.bytes.items ≤ n = rise_bound es (e.offset + length e.bytes.items) n r.2 in
    ap (λ c. byte_over place c es) (laid_past place e.offset e.bytes.items b (omega (arith, bound)))
    ∙ byte_past es (e.offset + length e.bytes.items) n place b r.2 h

-- Places in a file, and the objects that they fall in.
use Rattle.std.proofs.Common.{◌≡◌, ℕ, ◌+◌, ◌-◌, ◌*◌, ◌/◌, ◌%◌, ◌<◌, ◌≤◌, min, max, nat_lt, List, length, Option, None, Some, arith, slice_range, inl, inr, ◌⊎◌, ⊎_elim}
use Rattle.std.proofs.Math.Nat.{mul-le-mul_right, div-mul-le_self, lt-div-mul-add}
use Rattle.std.proofs.lemmas.Grind.{div_ceil_times}
use Rattle.object_clones.specs.Bytes.{written, or_empty}
use Rattle.object_clones.specs.Objects.{head_written}
use Rattle.object_clones.proofs.Clones.{if_false, not_below}

-- a write that ends before an object, or begins behind it, leaves it
pub outside_written : (low size offset : ℕ) (bytes : List ℕ) (head : Option (List ℕ))
    → (low + size ≤ offset) ⊎ (offset + length bytes ≤ low) → head_written low size offset bytes head ≡ None
outside_written low size offset bytes head h =
    let from = max low offset in
    let upto = min (low + size) (offset + length bytes) in
    let apart : upto ≤ from = ⊎_elim (λ (p : low + size ≤ offset). let e : upto ≤ from = omega arith in e) (λ (p : offset + length bytes ≤ low). let e : upto ≤ from = omega arith in e) h in
    if_false (nat_lt from upto) (Some (Some (written (or_empty head) (from - low) (slice_range bytes (from - offset) (upto - offset))))) None (not_below from upto apart)

-- the object before the first that a write touches, and the one behind the last
pub outside_range : (k size offset end : ℕ) → 0 < size → (k < offset / size) ⊎ (end / size + 1 ≤ k)
    → (k * size + size ≤ offset) ⊎ (end ≤ k * size)
outside_range k size offset end z h = ⊎_elim
    (λ (p : k < offset / size). inl (let e : (k + 1) * size ≤ offset / size * size = mul-le-mul_right size (omega arith) in
    omega (arith, e, div-mul-le_self offset size)))
    (λ (p : end / size + 1 ≤ k). inr (let e : (end / size + 1) * size ≤ k * size = mul-le-mul_right size p in
    omega (arith, e, lt-div-mul-add {a = end} {b = size} z)))
    h

-- an index below the number of objects begins within the size
pub starts_within : (i size object : ℕ) → 0 < object → i < size / object + min 1 (size % object) → i * object < size
starts_within i size object z h =
    let d = size / object + min 1 (size % object) in
    let e : (i + 1) * object ≤ d * object = mul-le-mul_right object (omega arith) in
    omega (arith, e, (div_ceil_times size object z).1)

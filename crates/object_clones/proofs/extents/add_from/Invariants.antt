use Rattle.std.proofs.Common.{◌≡◌, ℕ, max, nat_lt, if◌then◌else◌, take, drop}
use Rattle.object_clones.specs.Extents.{byte_in, byte_over, Rise}
use Rattle.object_clones.proofs.extents.add_from.Given as goal

abbrev pub invariant-loop-other : goal.invariant-loop-other
invariant-loop-other l = record {
  bytes : (place : ℕ) → byte_in place l.extents.items
      ≡ (if nat_lt place l.from then byte_in place l.initial.extents.items else byte_over place (byte_in place l.initial.extents.items) (take l.other-index l.others));
  rise : (upto : ℕ) → Rise 0 l.from l.initial.extents.items → Rise 0 upto l.others
      → (m : ℕ) × Rise 0 (max l.from m) l.extents.items × Rise m upto (drop l.other-index l.others);
}

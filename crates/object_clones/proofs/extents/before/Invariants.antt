use Rattle.std.proofs.Common.{◌≡◌, ℕ, ◌≤◌, take, drop}
use Rattle.object_log.specs.Bytes.{cut_off}
use Rattle.object_clones.specs.Extents.{byte_in, Rise}
use Rattle.object_clones.proofs.extents.before.Given as goal

abbrev pub invariant-loop-extent : goal.invariant-loop-extent
invariant-loop-extent l = record {
  bytes : (place : ℕ) → byte_in place l.kept.items ≡ cut_off place l.limit (byte_in place (take l.extent-index l.extents));
  rise : (upto : ℕ) → Rise 0 upto l.extents → (m : ℕ) × (m ≤ l.limit) × Rise 0 m l.kept.items × Rise m upto (drop l.extent-index l.extents);
}

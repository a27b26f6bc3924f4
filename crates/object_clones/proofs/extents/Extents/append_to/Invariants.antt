use Rattle.std.proofs.Common.{◌≡◌, ℕ, ◌+◌, ◌<◌, length, get_or, take}
use Rattle.object_clones.specs.Extents.{byte_in}
use Rattle.object_clones.proofs.extents.Extents.append_to.Given as goal

abbrev pub invariant-loop-extent : goal.invariant-loop-extent
invariant-loop-extent l = record {
  length : length l.out.items ≡ l.start + l.count;
  before : (place : ℕ) → place < l.start → get_or l.out.items place 0 ≡ get_or l.fn.out.items place 0;
  bytes : (place : ℕ) → place < l.count → get_or l.out.items (l.start + place) 0 ≡ byte_in place (take l.extent-index l.extent-items);
}

use Rattle.std.proofs.Common.{◌≡◌, ℕ, ◌+◌, ◌*◌, ◌<◌, ◌≤◌, length}
use Rattle.object_clones.specs.Purged.{has}
use Rattle.object_clones.specs.Objects.{change_of}
use Rattle.object_clones.specs.Files.{object_in, change_at, HasRooms}
use Rattle.object_clones.proofs.file.File.prepare_all.Given as goal

abbrev pub invariant-loop-index : goal.invariant-loop-index
invariant-loop-index l = record {
  same : (k : ℕ) → object_in l.self k ≡ object_in l.fn.self k;
  count : l.first + length l.changes.items ≡ l.index;
  changes : (k : ℕ) → l.first ≤ k → k < l.index → change_at l.first l.changes.items k
      ≡ change_of (has l.purged) (k * l.size) l.size l.edit l.context (object_in l.fn.self k);
  rooms : HasRooms l.self l.first l.changes.items;
}

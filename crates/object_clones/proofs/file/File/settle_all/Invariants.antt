use Rattle.std.proofs.Common.{◌≡◌, ℕ, ◌+◌, ◌≤◌, ◌^◌, vec_len}
use Rattle.object_clones.specs.Objects.{changed}
use Rattle.object_clones.specs.Files.{object_in, change_at, HasRooms}
use Rattle.object_clones.proofs.file.File.settle_all.Given as goal

abbrev pub invariant-loop-change : goal.invariant-loop-change
invariant-loop-change l = record {
  bound : l.first + vec_len l.changes ≤ 2 ^ 32;
  rooms : HasRooms l.self l.first l.changes.items;
  rest : (k : ℕ) → changed l.seq.0 (change_at l.first l.changes.items k) (object_in l.self k)
      ≡ changed l.seq.0 (change_at l.first l.fn.changes.items k) (object_in l.fn.self k);
}

abbrev pub decreases-loop-change : goal.decreases-loop-change
decreases-loop-change l = vec_len l.changes

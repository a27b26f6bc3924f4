use Rattle.std.proofs.Common.{◌≡◌, ℕ, ◌+◌, ◌<◌, false, None, slice_index_or}
use Rattle.std.specs.Option.{option_map}
use Rattle.snap_ids.specs.declared.id.SnapId.{SnapId}
use Rattle.object_clones.specs.Listing.{Grows, noted}
use Rattle.object_clones.specs.Objects.{IsLeft, changed, next}
use Rattle.object_clones.specs.Files.{object_in}
use Rattle.object_clones.proofs.file.File.note_all.Given as goal

abbrev pub invariant-loop-at : goal.invariant-loop-at
invariant-loop-at l = record {
  grows : Grows l.fn.listing l.listing;
  noted : (seq : ℕ) (s : SnapId) (j : ℕ) → j < l.at → noted l.listing s l.ino (l.first + j) ≡ false → IsLeft s (object_in l.self (l.first + j))
      → IsLeft s (changed seq (option_map next (slice_index_or l.changes j None)) (object_in l.self (l.first + j)));
}

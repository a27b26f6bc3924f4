use Rattle.std.proofs.Common.{◌≡◌, ℕ, false, length}
use Rattle.std.specs.BTreeSet.{contains}
use Rattle.object_clones.specs.Listing.{place_cmp}
use Rattle.object_clones.specs.Objects.{IsLeft, purged}
use Rattle.object_clones.specs.Store.{object_among}
use Rattle.object_clones.proofs.files.Files.purge_objects.Given as goal

abbrev pub invariant-loop-place : goal.invariant-loop-place
invariant-loop-place l = record {
  kept : (f k : ℕ) → purged l.s (object_among l.self f k) ≡ purged l.s (object_among l.fn.self f k);
  left : (f k : ℕ) → contains place_cmp l.places (f, k) ≡ false → IsLeft l.s (object_among l.self f k);
  listing : l.self.listing ≡ l.fn.self.listing;
}

abbrev pub decreases-loop-place : goal.decreases-loop-place
decreases-loop-place l = length l.places.keys

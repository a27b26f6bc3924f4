use Rattle.std.proofs.Common.{◌≡◌, ◌≢◌, ℕ, ◌∙◌, ap}
use Rattle.snap_ids.specs.declared.id.SnapId.{SnapId}
use Rattle.object_clones.specs.Listing.{noted}
use Rattle.object_clones.proofs.Covered.{covers_purged}
use Rattle.object_clones.proofs.files.Files.purge.Goals as goal

pub returns-in-Some-clause-covers : goal.returns-in-Some-clause-covers
returns-in-Some-clause-covers c =
    let others : (q : SnapId) (f k : ℕ) → q.0 ≢ c.args.s.0 → noted c.purge_objects.new.self.listing q f k ≡ noted c.args.self.now.listing q f k =
    λ q f k apart. ap (λ l. noted l q f k) c.purge_objects.ensures.listing ∙ c.take.ensures.others q f k apart in
    covers_purged c.args.self.now c.purge_objects.new.self c.args.s others c.purge_objects.ensures.objects c.requires

use Rattle.std.proofs.Common.{◌≡◌, true, take}
use Rattle.snap_ids.specs.declared.id.SnapId.{SnapId}
use Rattle.snap_ids.specs.Context.{is_listed}
use Rattle.object_clones.specs.Listing.{Grows, noted}
use Rattle.object_clones.proofs.listing.Listing.note_all.Given as goal

abbrev pub invariant-loop-id : goal.invariant-loop-id
invariant-loop-id l = record {
  grows : Grows l.fn.self l.self;
  noted : (s : SnapId) → is_listed s (take l.id-index l.ids) ≡ true → noted l.self s l.ino l.index ≡ true;
}

use Rattle.std.proofs.Common.{◌≡◌, ◌+◌, ◌<◌, true, List, length, get_or, take, arith}
use Rattle.std.proofs.lemmas.List.{get_or_default}
use Rattle.snap_ids.specs.declared.id.SnapId.{SnapId}
use Rattle.snap_ids.specs.Context.{is_listed}
use Rattle.object_clones.proofs.Noted.{noted_next}
use Rattle.object_clones.proofs.listing.Listing.note_all.Goals as goal

pub loop-id-preserved : goal.loop-id-preserved
loop-id-preserved c =
    let i = c.loop-id.id-index in
    let ids : List SnapId = c.args.ids.now in
    let none : SnapId = record { 0 = 0 } in
    let x : SnapId = get_or ids i none in
    let within : i < length ids = omega (arith, c.loop-id-test.true) in
    record {
      grows = λ s f k h. c.note.ensures.grows s f k (c.loop-id.invariant.grows s f k h);
      noted = λ s listed. noted_next c.note.new.self ids i c.args.ino c.args.index x s within (get_or_default ids i none x within)
          (λ was. c.note.ensures.grows s c.args.ino c.args.index (c.loop-id.invariant.noted s was)) c.in_ok-note.ensures.noted listed;
    }

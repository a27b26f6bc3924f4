use Rattle.std.proofs.Common.{ap, ◌∙◌}
use Rattle.held_files.specs.Files.{HeldFiles}
use Rattle.cap_snap.specs.Places.{places, first_due_at}
use Rattle.cap_snap.proofs.Stands.{due_is_first}
use Rattle.cap_snap.proofs.snaps.CapSnaps.next_flush.Goals as goal

pub loop-at-init : goal.loop-at-init
loop-at-init c =
    ap (first_due_at c.args.reading c.args.self.now) (c.deref-at-items.ensures.value ∙ c.self.invariant.places_are)
    ∙ ap (λ (files : HeldFiles). first_due_at c.args.reading c.args.self.now (places 0 files)) c.self.view_is
    ∙ due_is_first c.args.reading c.args.self.now

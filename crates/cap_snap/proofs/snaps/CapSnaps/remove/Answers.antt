use Rattle.std.proofs.Common.{sym, ap, subst, ◌∙◌}
use Rattle.std.specs.Vec.{vec_capacity}
use Rattle.held_files.specs.Files.{HeldFiles, without}
use Rattle.cap_snap.specs.Places.{IsKept}
use Rattle.cap_snap.proofs.Stands.{stands, not_removed, kept_without}
use Rattle.cap_snap.proofs.snaps.CapSnaps.remove.Goals as goal

pub invariant_of-self : goal.invariant_of-self
invariant_of-self c = subst (λ (files : HeldFiles). IsKept files c.move_up.new.list.items (vec_capacity c.move_up.new.list)) (sym c.shift_remove.ensures.entries)
    (kept_without c.self.inside.files.entries c.self.inside.waiting.items _ c.self.invariant c.args.ino c.in-Some.at _ _
    (stands c.args.ino c.self.inside.files.entries c.in-Some.at c.in-Some.ensures.index) c.move_up.ensures.items c.move_up.ensures.room)

pub returns-in_default : goal.returns-in_default
returns-in_default c = sym c.self.view_is ∙ not_removed c.args.ino c.self.inside.files.entries (sym c.in_default.ensures.found)
    ∙ ap (without c.args.ino) c.self.view_is

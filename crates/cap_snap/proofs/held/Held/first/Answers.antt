use Rattle.std.proofs.Common.{refl, ap, arith, ◌∙◌}
use Rattle.cap_snap.specs.Woven.{first_of}
use Rattle.cap_snap.proofs.Weave.{first_piece}
use Rattle.held_files.specs.Files.{HeldFile}
use Rattle.cap_snap.proofs.held.Held.first.Goals as goal

pub returns-in-Some-2 : goal.returns-in-Some-2
returns-in-Some-2 c =
    first_piece c.self.inside.marks.items c.self.inside.buf.unsent c.in-Some.mark.now
    (omega (arith, c.in-Some.ensures.variant.0 refl, c.self.inside.marks.ok)) c.in-Some.ensures.lookup (omega arith) (omega (arith, c.self.invariant))
    ∙ ap (λ (file : HeldFile). first_of file.unsent) c.self.view_is

use Rattle.std.proofs.Common.{◌∙◌, arith}
use Rattle.cap_snap.proofs.Weave.{mark_moved, kept_fewer}
use Rattle.cap_snap.proofs.held.Held.mark_sent.Goals as goal

pub invariant_of-self : goal.invariant_of-self
invariant_of-self c =
    let h = mark_moved c.self.inside.mode c.self.inside.settled c.self.inside.recalled c.self.inside.buf c.self.inside.marks.items c.pop_front.new.self.items c.args.self.now
    c.self.view_is c.requires (omega (arith, c.self.invariant)) c.pop_front.ensures.rest in
    (h.0 ∙ c.self.invariant.0, c.self.invariant.1, kept_fewer c.self.inside.mode c.self.inside.buf c.self.inside.marks.items c.pop_front.new.self.items c.pop_front.ensures.rest c.self.invariant.2)

pub returns : goal.returns
returns c =
    (mark_moved c.self.inside.mode c.self.inside.settled c.self.inside.recalled c.self.inside.buf c.self.inside.marks.items c.pop_front.new.self.items c.args.self.now
    c.self.view_is c.requires (omega (arith, c.self.invariant)) c.pop_front.ensures.rest).1

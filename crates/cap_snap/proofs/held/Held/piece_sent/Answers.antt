use Rattle.cap_snap.proofs.Weave.{piece_moved}
use Rattle.cap_snap.proofs.held.Held.piece_sent.Goals as goal

pub returns : goal.returns
returns c = piece_moved c.self.inside.mode c.self.inside.settled c.self.inside.recalled c.self.inside.buf c.sent.new.self c.self.inside.marks.items c.sooner.new.marks.items c.args.self.now
    c.self.view_is c.requires c.sooner.ensures.marks c.sent.ensures

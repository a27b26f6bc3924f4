use Rattle.cap_snap.proofs.Weave.{buffer_is}
use Rattle.cap_snap.proofs.held.Held.buffer.Goals as goal

pub returns : goal.returns
returns c = buffer_is c.self.inside.mode c.self.inside.settled c.self.inside.recalled c.self.inside.buf c.self.inside.marks.items c.args.self.now c.self.view_is

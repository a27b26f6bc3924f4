use Rattle.file_buffer.proofs.Steps.{one_sent}
use Rattle.file_buffer.proofs.buffer.FileBuf.sent.Goals as goal

pub returns : goal.returns
returns c = one_sent c.self.inside.size c.self.inside.sent c.self.inside.pieces.items c.args.self.now c.self.view_is

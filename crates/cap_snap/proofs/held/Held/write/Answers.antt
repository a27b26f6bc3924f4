use Rattle.std.proofs.lemmas.Result.{on_ok_weaker}
use Rattle.held_files.specs.declared.piece.Piece.TheVariants.{Put}
use Rattle.cap_snap.proofs.Weave.{piece_added}
use Rattle.cap_snap.proofs.held.Held.write.Goals as goal

pub returns-clause-added : goal.returns-clause-added
returns-clause-added c = on_ok_weaker c.write.result
    (piece_added c.self.inside.mode c.self.inside.settled c.self.inside.recalled c.self.inside.buf c.write.new.self c.self.inside.marks.items c.self.inside.marked c.args.self.now
    (Put c.args.offset c.args.bytes c.args.context) c.self.view_is c.self.invariant.0 c.self.invariant.1)
    c.write.ensures.added

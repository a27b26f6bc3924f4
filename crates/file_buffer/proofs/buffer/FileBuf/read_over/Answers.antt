use Rattle.std.proofs.Common.{◌≡◌, take, get_or, fold, ap, arith, ◌∙◌}
use Rattle.std.proofs.lemmas.List.{take_all}
use Rattle.held_files.specs.Buffer.{byte_under}
use Rattle.file_buffer.proofs.Steps.{all_over}
use Rattle.file_buffer.proofs.buffer.FileBuf.read_over.Goals as goal

pub returns : goal.returns
returns c =
    let pieces = c.self.inside.pieces.items in
    let all : take c.loop-i.i pieces ≡ pieces = take_all c.loop-i.i pieces (omega (arith, c.loop-i-test.false, c.len-i-end.ensures, c.self.inside.pieces.ok)) in
    c.from_vec.ensures
    ∙ all_over c.loop-i.bytes.items c.args.stored.now c.self.inside.size c.self.inside.sent pieces c.args.self.now c.self.view_is
    c.loop-i.invariant.length
    (λ place h. c.loop-i.invariant.bytes place h ∙ ap (fold (byte_under place) (get_or c.args.stored.now place 0)) all)

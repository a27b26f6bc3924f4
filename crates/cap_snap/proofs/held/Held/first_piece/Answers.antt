use Rattle.std.proofs.Common.{◌≡◌, sym, ap, ◌∙◌}
use Rattle.cap_snap.specs.Woven.{first_of, woven, leading_piece}
use Rattle.cap_snap.specs.declared.held.First.TheVariants as first
use Rattle.cap_snap.proofs.Weave.{piece_leads}
use Rattle.held_files.specs.Files.{HeldFile}
use Rattle.cap_snap.proofs.held.Held.first_piece.Goals as goal

pub returns-in-Piece : goal.returns-in-Piece
returns-in-Piece c =
    let marks = c.self.inside.marks.items in
    let pieces = c.self.inside.buf.unsent in
    let is : first_of (woven marks pieces) ≡ first.Piece =
    ap (λ (file : HeldFile). first_of file.unsent) c.self.view_is ∙ sym c.first.ensures ∙ c.in-Piece.is in
    c.next_piece.ensures.oldest ∙ piece_leads marks pieces is ∙ ap (λ (file : HeldFile). leading_piece file.unsent) c.self.view_is

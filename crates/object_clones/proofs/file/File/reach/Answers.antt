use Rattle.std.proofs.Common.{◌+◌, ◌*◌, ◌/◌, ◌<◌, ◌≤◌, ◌⊎◌, length, arith, ◌∙◌, ap, ⊎_elim, inl, inr}
use Rattle.object_clones.specs.declared.object.Edit.{Edit}
use Rattle.object_clones.specs.Objects.{head_after}
use Rattle.object_clones.specs.Files.{object_in}
use Rattle.object_clones.proofs.Places.{outside_written, outside_range}
use Rattle.object_clones.proofs.file.File.reach.Goals as goal

pub returns-in-Write-clause-outside : goal.returns-in-Write-clause-outside
returns-in-Write-clause-outside c = λ k h.
    let size = c.args.size in
    let bs = c.in-Write.bytes.now in
    let offset = c.in-Write.offset in
    let head = (object_in c.args.self.now k).head in
    let place : (k < offset / size) ⊎ ((offset + length bs) / size + 1 ≤ k) = ⊎_elim
    (λ (p : k < c.from.result). inl (omega (arith, c.from.ensures)))
    (λ (p : c.from-in-Write.result + 1 ≤ k). inr (omega (arith, c.from-in-Write.ensures))) h in
    ap (λ (e : Edit). head_after (k * size) size e head) c.in-Write.is
    ∙ outside_written (k * size) size offset bs head (outside_range k size offset (offset + length bs) c.requires.size place)

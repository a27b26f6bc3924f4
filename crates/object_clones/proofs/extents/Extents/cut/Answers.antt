use Rattle.std.proofs.Common.{ℕ, length, take, arith, ◌∙◌, sym, ap}
use Rattle.object_clones.specs.Extents.{byte_in}
use Rattle.object_log.proofs.Laid.{cut_in}
use Rattle.object_log.proofs.Many.{so_many_same, take-so_many, length-so_many}
use Rattle.object_clones.proofs.extents.Extents.cut.Goals as goal

pub returns : goal.returns
returns c =
    let es = c.self.inside.extents.items in
    let f : ℕ → ℕ = λ place. byte_in place es in
    so_many_same _ f c.args.size (λ i h. c.in_ok-extents.ensures.bytes i ∙ cut_in i c.args.size _ h ∙ ap (byte_in i) c.deref.ensures.value)
    ∙ sym (take-so_many f c.self.inside.length c.args.size (omega (arith, length-so_many f c.self.inside.length, ap length c.self.view_is, c.requires)))
    ∙ ap (take c.args.size) c.self.view_is

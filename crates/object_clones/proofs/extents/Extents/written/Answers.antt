use Rattle.std.proofs.Common.{◌≡◌, ℕ, ◌+◌, max, List, length, get_or, nat_lt, if◌then◌else◌, arith, ◌∙◌, sym, refl, ap}
use Rattle.object_log.specs.Bytes.{so_many, laid, cut_off}
use Rattle.object_clones.specs.Extents.{byte_in, byte_over}
use Rattle.object_clones.specs.declared.extents.Extent.{Extent}
use Rattle.object_log.proofs.Many.{so_many_same, length-so_many}
use Rattle.object_clones.proofs.Steps.{byte_shown, written_byte}
use Rattle.object_clones.proofs.extents.Extents.written.Goals as goal

pub returns : goal.returns
returns c =
    let es : List Extent = c.self.inside.extents.items in
    let f : ℕ → ℕ = λ place. byte_in place es in
    let long : length c.args.self.now ≡ c.self.inside.length = ap length (sym c.self.view_is) ∙ length-so_many f c.self.inside.length in
    let bs = c.args.bytes.now in
    let g : ℕ → ℕ = λ place. laid place c.args.offset bs (get_or c.args.self.now place 0) in
    so_many_same _ g c.max-length.result (λ i h.
    let k = byte_in i c.in_ok-extents.extents.items in
    let kept : k ≡ cut_off i c.args.offset (byte_in i es) = c.in_ok-extents.ensures.bytes i ∙ ap (λ (es : List Extent). cut_off i c.args.offset (byte_in i es)) c.deref.ensures.value in
    let a = byte_in i c.add.new.extents.items in
    written_byte i c.args.offset (c.args.offset + length bs) bs es k a _ refl kept (c.in_ok-add.ensures.laid i)
    (c.in_ok-add_from.ensures.bytes i ∙ ap (λ (es : List Extent). if nat_lt i (c.args.offset + length bs) then a else byte_over i a es) c.deref-2.ensures.value)
    ∙ ap (laid i c.args.offset bs) (sym (byte_shown es c.self.inside.length i c.args.self.now c.self.view_is c.self.invariant)))
    ∙ ap (λ n. so_many n g) (let e : c.max-length.result ≡ max (length c.args.self.now) (c.args.offset + length bs) = omega (arith, c.max-length.ensures, long) in e)

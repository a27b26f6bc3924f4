use Rattle.std.proofs.Common.{◌≡◌, ℕ, ◌+◌, ◌-◌, ◌<◌, ◌≤◌, length, get_or, take, ◌++◌, arith, ◌∙◌, sym, refl, ap, length-append, ⊎_elim}
use Rattle.std.proofs.lemmas.Bool.{cases_lt}
use Rattle.std.proofs.lemmas.List.{ext_get_or, get_or_append_left, get_or-append_right, take_all}
use Rattle.object_log.specs.Bytes.{so_many}
use Rattle.object_clones.specs.Extents.{byte_in}
use Rattle.object_log.proofs.Many.{length-so_many, get_or-so_many}
use Rattle.object_clones.proofs.Steps.{byte_shown}
use Rattle.object_clones.proofs.extents.Extents.append_to.Goals as goal

pub returns : goal.returns
returns c =
    let old = c.args.out.now.items in
    let shown : ℕ → ℕ = λ i. get_or c.args.self.now i 0 in
    let start : length old ≡ c.len-start.result = omega (arith, c.len-start.ensures, c.args.out.now.ok) in
    let all : take c.loop-extent.extent-index c.deref-extent-items.result.now ≡ c.self.inside.extents.items =
    take_all c.loop-extent.extent-index c.deref-extent-items.result.now c.loop-extent-test.false ∙ c.deref-extent-items.ensures.value in
    ext_get_or 0 c.loop-extent.out.items (old ++ so_many c.args.count shown)
    (c.loop-extent.invariant.length ∙ sym (length-append old (so_many c.args.count shown) ∙ (let e : length old + length (so_many c.args.count shown) ≡ c.len-start.result + c.args.count = omega (arith, start, length-so_many shown c.args.count) in e)))
    (λ i h. ⊎_elim
    (λ (p : i < length old). c.loop-extent.invariant.before i (omega arith) ∙ sym (get_or_append_left old (so_many c.args.count shown) 0 i p))
    (λ (p : length old ≤ i).
    let j : ℕ = i - length old in
    let within : j < c.args.count = omega (arith, c.loop-extent.invariant.length) in
    ap (λ k. get_or c.loop-extent.out.items k 0) (let e : i ≡ c.len-start.result + j = omega arith in e)
    ∙ c.loop-extent.invariant.bytes j within ∙ ap (byte_in j) all
    ∙ sym (byte_shown c.self.inside.extents.items c.self.inside.length j c.args.self.now c.self.view_is c.self.invariant)
    ∙ sym (get_or-so_many shown c.args.count j 0 within)
    ∙ sym (get_or-append_right old (so_many c.args.count shown) (length old) i 0 refl p))
    (cases_lt i (length old)))

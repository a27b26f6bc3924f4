use Rattle.std.proofs.Common.{◌≡◌, ℕ, ◌+◌, ◌-◌, ◌++◌, List, Option, get_or, replicate, arith, sym, ◌∙◌, ap}
use Rattle.std.proofs.lemmas.List.{take_all}
use Rattle.object_clones.specs.Bytes.{or_empty}
use Rattle.object_clones.specs.Objects.{bytes_shown}
use Rattle.object_clones.specs.Files.{object_in}
use Rattle.object_log.proofs.Many.{so_many_zeros}
use Rattle.object_clones.proofs.file.File.append.Goals as goal

pub returns-in_ok-resize-in-None : goal.returns-in_ok-resize-in-None
returns-in_ok-resize-in-None c = let h = c.in_ok-resize-in-None.ensures.items in
    let out = c.args.out.now.items in
    let f : ℕ → ℕ = λ i. get_or (or_empty (bytes_shown c.args.s (object_in c.args.self.now c.args.index))) i 0 in
    let zero : (i : ℕ) → f i ≡ 0 = λ i. ap (λ (o : Option (List ℕ)). get_or (or_empty o) i 0) (sym c.in-None.ensures) in
    h ∙ ap (λ xs. xs ++ replicate (c.len.result + c.args.count - c.args.out.now.len) 0) (take_all (c.len.result + c.args.count) out (omega (arith, c.args.out.now.ok, c.len.ensures)))
    ∙ ap (λ n. out ++ replicate n 0) (let e : c.len.result + c.args.count - c.args.out.now.len ≡ c.args.count = omega (arith, c.len.ensures) in e)
    ∙ ap (λ xs. out ++ xs) (so_many_zeros f c.args.count zero)

use Rattle.std.proofs.Common.{◌≡◌, ℕ, ◌+◌, ◌-◌, ◌*◌, ◌%◌, ◌<◌, ◌++◌, min, List, length, get_or, arith, sym, ◌∙◌, ap}
use Rattle.std.proofs.lemmas.Nat.{div-mul-add, mod-mul-add}
use Rattle.object_log.specs.Bytes.{so_many}
use Rattle.object_clones.specs.Bytes.{or_empty}
use Rattle.object_clones.specs.Objects.{bytes_shown}
use Rattle.object_clones.specs.Files.{object_in, byte_at}
use Rattle.object_log.proofs.Many.{so_many-append, length-so_many}
use Rattle.object_clones.proofs.Places.{starts_within}
use Rattle.object_clones.proofs.file.File.read.Goals as goal

pub append-requires : goal.append-requires
append-requires c =
    let f : ℕ → ℕ = byte_at c.args.object (λ k. or_empty (bytes_shown c.args.s (object_in c.args.self.now k))) in
    let long : length c.loop-index.out.items ≡ min (c.loop-index.index * c.args.object) c.args.size =
    ap length c.loop-index.invariant ∙ length-so_many f (min (c.loop-index.index * c.args.object) c.args.size) in
    omega (arith, long, c.loop-index.out.ok, c.min-count.ensures, c.ranges.object, c.ranges.size)

pub loop-index-preserved : goal.loop-index-preserved
loop-index-preserved c =
    let object = c.args.object in
    let size = c.args.size in
    let i = c.loop-index.index in
    let at : ℕ → List ℕ = λ k. or_empty (bytes_shown c.args.s (object_in c.args.self.now k)) in
    let f : ℕ → ℕ = byte_at object at in
    let g : ℕ → ℕ = λ j. get_or (at i) j 0 in
    let inside : i * object < size = starts_within i size object c.requires (omega (arith, c.loop-index-test.true, c.div_ceil-index-end.ensures)) in
    let count : c.min-count.result ≡ min object (size - i * object) = c.min-count.ensures in
    let next : (i + 1) * object ≡ i * object + object = omega arith in
    c.in_ok-append.ensures ∙ ap (λ xs. xs ++ so_many c.min-count.result g) c.loop-index.invariant
    ∙ so_many-append f g (min (i * object) size) c.min-count.result (min ((i + 1) * object) size) (omega arith)
    (λ j h. let j1 : j < object = omega arith in
    let a : min (i * object) size ≡ i * object = omega arith in
    sym (ap (λ n. f (n + j)) a ∙ ap (λ n. get_or (at n) ((i * object + j) % object) 0) (div-mul-add i object j j1)
    ∙ ap (λ n. get_or (at i) n 0) (mod-mul-add i object j j1)))

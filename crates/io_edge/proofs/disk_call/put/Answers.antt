use Rattle.std.proofs.Common.{◌≡◌, ◌<◌, ◌+◌, ◌++◌, List, [], ℕ, length, take, drop, ◌∙◌, ap, arith}
use Rattle.std.proofs.lemmas.List.{append-nil, take_all, drop_all}
use Rattle.std.proofs.lemmas.Bool.Decides.{nat_tests}
use Rattle.io_edge.proofs.Overwritten.{overwritten}
use Rattle.io_edge.proofs.disk_call.put.Goals as goal

pub returns-clause-ok : goal.returns-clause-ok
returns-clause-ok c =
    let place = c.args.place in
    let bytes = c.args.bytes.now in
    let grown = c.grow.new.file in
    let file = c.overwrite.new.file in
    let some : 0 < length bytes = grind (arith, nat_tests) in
    let end : c.in-Some.end ≡ place + length bytes = grind arith in
    let long : length file ≡ grown.len = omega (arith, c.overwrite.auto.file, c.deref_mut.ensures.len) in
    let none : drop (length file) grown.items ≡ [] = drop_all (length file) grown.items (omega (arith, long)) in
    ap (λ (rest : List ℕ). take grown.len (file ++ rest)) none ∙ ap (take grown.len) (append-nil file) ∙ take_all grown.len file (omega (arith, long))
    ∙ c.overwrite.ensures
    ∙ ap (λ (old : List ℕ). take place old ++ bytes ++ drop (place + length bytes) old) (c.deref_mut.ensures.value ∙ c.in_ok-grow.ensures.ok)
    ∙ overwritten place c.in-Some.end bytes c.args.file.now.items some end

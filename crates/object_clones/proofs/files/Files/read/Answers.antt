use Rattle.std.proofs.Common.{ℕ, ◌/◌, ◌%◌, Option, [], get_or, ◌∙◌, sym, ap, arith}
use Rattle.std.proofs.lemmas.List.{get_or_past}
use Rattle.object_clones.specs.declared.file.File.{File}
use Rattle.std.proofs.lemmas.Result.{IfOk-weaker}
use Rattle.object_log.proofs.Many.{so_many_zeros}
use Rattle.object_clones.specs.Bytes.{or_empty}
use Rattle.object_clones.specs.Objects.{bytes_shown}
use Rattle.object_clones.specs.Files.{byte_at}
use Rattle.object_clones.specs.Store.{object_among, object_or_blank}
use Rattle.object_clones.proofs.Changes.{blank_bytes}
use Rattle.object_clones.proofs.files.Files.read.Goals as goal

pub returns-in-None : goal.returns-in-None
returns-in-None c =
    let f : ℕ → ℕ = byte_at c.args.object (λ k. or_empty (bytes_shown c.args.s (object_among c.args.self.now c.args.ino.0 k))) in
    IfOk-weaker c.zeros.result _ _ (λ bytes h. h ∙ so_many_zeros f c.args.size (λ i.
    ap (λ (o : Option File). get_or (or_empty (bytes_shown c.args.s (object_or_blank o (i / c.args.object)))) (i % c.args.object) 0) (sym c.in-None.ensures.value)
    ∙ ap (λ bs. get_or bs (i % c.args.object) 0) (blank_bytes c.args.s) ∙ get_or_past [] (i % c.args.object) 0 (omega arith))) c.zeros.ensures

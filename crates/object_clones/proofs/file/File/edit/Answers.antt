use Rattle.std.proofs.Common.{◌≡◌, List, Option, sym, subst}
use Rattle.object_clones.specs.declared.object.Change.{Change}
use Rattle.object_clones.specs.Objects.{IsLeft, Plain, changed}
use Rattle.object_clones.specs.Files.{change_at, object_in}
use Rattle.object_clones.proofs.Covered.{not_before}
use Rattle.object_clones.proofs.file.File.edit.Goals as goal

pub returns-clause-covers : goal.returns-clause-covers
returns-clause-covers c = λ covers s k none.
    let P : Plain → Type 0 = λ o. IsLeft s o in
    let noted : IsLeft s (changed c.seq.result.0 (change_at c.reach-indexes.result.0 c.deref.result.now k) (object_in c.prepare_all.new.self k)) =
    c.in_ok-note_all.ensures.noted c.seq.result.0 s k none
    (subst P (sym (c.prepare_all.ensures.same k)) (covers s k (not_before _ _ (c.note_all.ensures.grows s c.args.ino k) none))) in
    let Q : List (Option Change) → Type 0 = λ cs. IsLeft s (changed c.seq.result.0 (change_at c.reach-indexes.result.0 cs k) (object_in c.prepare_all.new.self k)) in
    subst P (sym (c.settle_all.ensures k)) (subst Q c.deref.ensures.value noted)

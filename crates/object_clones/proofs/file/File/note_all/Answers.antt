use Rattle.std.proofs.Common.{◌≡◌, ℕ, ◌+◌, ◌-◌, ◌<◌, ◌≤◌, false, Option, None, List, length, get_or, arith, sym, ◌∙◌, ap, subst, ⊎_elim}
use Rattle.std.specs.Option.{option_map}
use Rattle.std.proofs.lemmas.Bool.{cases_lt}
use Rattle.std.proofs.lemmas.List.{get_or_read}
use Rattle.object_clones.specs.declared.object.Change.{Change}
use Rattle.object_clones.specs.Listing.{noted}
use Rattle.object_clones.specs.Objects.{IsLeft, Next, changed, next}
use Rattle.object_clones.specs.Files.{change_at, object_in}
use Rattle.object_clones.proofs.Changes.{change_at_before, change_at_from, change_at_past}
use Rattle.object_clones.proofs.Covered.{not_before}
use Rattle.object_clones.proofs.file.File.note_all.Goals as goal

pub loop-at-preserved : goal.loop-at-preserved
loop-at-preserved c =
    let i = c.loop-at.at in
    let first = c.args.first in
    let changes : List (Option Change) = c.args.changes.now in
    let got : Option Change = c.index-changes-at.result in
    let same : got ≡ get_or changes i None = get_or_read changes i got (omega (arith, c.loop-at-test.true)) c.index-changes-at.is None in
    record {
      grows = λ s f k h. c.note.ensures.grows s f k (c.loop-at.invariant.grows s f k h);
      noted = λ seq s j h none is. ⊎_elim
          (λ (p : j < i). c.loop-at.invariant.noted seq s j p (not_before _ _ (c.note.ensures.grows s c.args.ino (first + j)) none) is)
          (λ (p : i ≤ j). let e : i ≡ j = omega arith in
          let P : ℕ → Type 0 = λ n. noted c.note.new.listing s c.args.ino (first + n) ≡ false in
          let Q : ℕ → Type 0 = λ n. IsLeft s (object_in c.args.self.now (first + n)) in
          let R : ℕ → Type 0 = λ n. IsLeft s (changed seq (option_map next (get_or changes n None)) (object_in c.args.self.now (first + n))) in
          let C : Option Change → Type 0 = λ x. IsLeft s (changed seq (option_map next x) (object_in c.args.self.now (first + i))) in
          subst R e (subst C same (c.in_ok-note.ensures.noted seq s (subst P (sym e) none) (subst Q (sym e) is))))
          (cases_lt j i);
    }

pub returns-clause-noted : goal.returns-clause-noted
returns-clause-noted c = λ seq s k none is.
    let first = c.args.first in
    let changes : List (Option Change) = c.args.changes.now in
    let o = object_in c.args.self.now k in
    let P : Option Next → Type 0 = λ n. IsLeft s (changed seq n o) in
    ⊎_elim
    (λ (p : k < first). subst P (sym (change_at_before first changes k p)) is)
    (λ (p : first ≤ k). ⊎_elim
    (λ (q : k < first + length changes).
    let e : first + (k - first) ≡ k = omega arith in
    let N : ℕ → Type 0 = λ n. noted c.loop-at.listing s c.args.ino n ≡ false in
    let Q : ℕ → Type 0 = λ n. IsLeft s (object_in c.args.self.now n) in
    let R : ℕ → Type 0 = λ n. IsLeft s (changed seq (option_map next (get_or changes (k - first) None)) (object_in c.args.self.now n)) in
    subst P (sym (change_at_from first changes k p)) (subst R e (c.loop-at.invariant.noted seq s (k - first) (omega arith) (subst N (sym e) none) (subst Q (sym e) is))))
    (λ (q : first + length changes ≤ k). subst P (sym (change_at_past first changes k q)) is)
    (cases_lt k (first + length changes)))
    (cases_lt k first)

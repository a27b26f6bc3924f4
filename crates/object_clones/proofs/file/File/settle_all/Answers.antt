use Rattle.std.proofs.Common.{◌≡◌, ◌≢◌, ℕ, ◌+◌, ◌<◌, ◌≤◌, List, Option, None, length, ◌++◌, ◌∷◌, [], arith, sym, ◌∙◌, ap, subst, ⊎_elim, length-append}
use Rattle.std.specs.Option.{option_map, IsSome}
use Rattle.std.proofs.lemmas.Bool.{cases_lt}
use Rattle.object_clones.specs.declared.object.Change.{Change}
use Rattle.object_clones.specs.declared.object.Object.{Object}
use Rattle.object_clones.specs.Objects.{Next, HasRoom, next, changed}
use Rattle.object_clones.specs.Files.{object_in, plain_or_blank, change_at}
use Rattle.object_clones.proofs.Changes.{change_at_last, change_at_front, change_at_past, change_at_before}
use Rattle.object_clones.proofs.file.File.settle_all.Goals as goal

pub loop-change-preserved : goal.loop-change-preserved
loop-change-preserved c =
    let first = c.args.first in
    let seq = c.args.seq.0 in
    let old : List (Option Change) = c.loop-change.changes.items in
    let left : List (Option Change) = c.pop.new.self.items in
    let one : Option Change = c.in-Some.change in
    let items : old ≡ left ++ one ∷ [] = c.in-Some.ensures.items in
    let i : ℕ = first + c.len.result in
    let at : i ≡ first + length left = omega (arith, c.len.ensures, c.pop.new.self.ok) in
    let last : (k : ℕ) → i ≡ k → change_at first old k ≡ option_map next one =
    λ k e. ap (λ cs. change_at first cs k) items ∙ change_at_last first left one k (omega arith) in
    let long : length old ≡ length left + 1 = ap length items ∙ length-append left (one ∷ []) in
    let same : (k : ℕ) → k ≢ i → change_at first left k ≡ change_at first old k = λ k apart. ⊎_elim
    (λ (q : k < first). change_at_before first left k q ∙ sym (change_at_before first old k q))
    (λ (q : first ≤ k). ⊎_elim
    (λ (p : k < i). sym (ap (λ cs. change_at first cs k) items ∙ change_at_front first left (one ∷ []) k q (omega arith)))
    (λ (p : i ≤ k). change_at_past first left k (omega arith) ∙ sym (change_at_past first old k (omega arith)))
    (cases_lt k i))
    (cases_lt k first) in
    let stays : (k : ℕ) → k ≢ i → object_in c.settle.new.self k ≡ object_in c.loop-change.self k =
    λ k apart. ap plain_or_blank (c.settle.ensures.others k apart) in
    let S : Option Next → Type 0 = λ o. IsSome o in
    record {
      bound = omega (arith, c.loop-change.invariant.bound, c.loop-change.changes.ok, c.pop.new.self.ok);
      rooms = λ k h. ⊎_elim
          (λ (p : k < i). let apart : k ≢ i = omega arith in
          let H : Option Object → Type 0 = λ o. HasRoom o in
          subst H (sym (c.settle.ensures.others k apart)) (c.loop-change.invariant.rooms k (subst S (same k apart) h)))
          (λ (p : i ≤ k). let bad : IsSome {T = Next} None = subst S (change_at_past first left k (omega arith)) h in cc)
          (cases_lt k i);
      rest = λ k. ⊎_elim
          (λ (p : k < i). let apart : k ≢ i = omega arith in
          ap (λ n. changed seq n (object_in c.settle.new.self k)) (same k apart)
          ∙ ap (changed seq (change_at first old k)) (stays k apart) ∙ c.loop-change.invariant.rest k)
          (λ (p : i ≤ k). ⊎_elim
          (λ (q : i < k). let apart : k ≢ i = omega arith in
          ap (λ n. changed seq n (object_in c.settle.new.self k)) (same k apart)
          ∙ ap (changed seq (change_at first old k)) (stays k apart) ∙ c.loop-change.invariant.rest k)
          (λ (q : k ≤ i). let e : i ≡ k = omega arith in
          ap (λ n. changed seq n (object_in c.settle.new.self k)) (change_at_past first left k (omega arith))
          ∙ ap (object_in c.settle.new.self) (sym e) ∙ c.settle.ensures.here ∙ ap (λ n. changed seq (option_map next one) (object_in c.loop-change.self n)) e
          ∙ ap (λ n. changed seq n (object_in c.loop-change.self k)) (sym (last k e)) ∙ c.loop-change.invariant.rest k)
          (cases_lt i k))
          (cases_lt k i);
    }

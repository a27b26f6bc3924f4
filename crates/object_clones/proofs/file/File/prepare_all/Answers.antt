use Rattle.std.proofs.Common.{◌≡◌, ℕ, ◌+◌, ◌*◌, ◌<◌, ◌≤◌, List, Option, None, length, ◌++◌, ◌∷◌, [], arith, ◌∙◌, ap, subst, ⊎_elim, length-append}
use Rattle.std.specs.Option.{option_map, IsSome}
use Rattle.std.proofs.lemmas.Bool.{cases_lt}
use Rattle.object_clones.specs.declared.object.Change.{Change}
use Rattle.object_clones.specs.Purged.{has}
use Rattle.object_clones.specs.Objects.{Next, Plain, next, change_of}
use Rattle.object_clones.specs.Files.{object_in, change_at, HasRoomAt}
use Rattle.object_clones.proofs.Changes.{change_at_last, change_at_front, change_at_past, change_at_before, some_from_map}
use Rattle.object_clones.proofs.file.File.prepare_all.Goals as goal

pub loop-index-preserved : goal.loop-index-preserved
loop-index-preserved c =
    let first = c.args.indexes.0 in
    let i = c.loop-index.index in
    let old : List (Option Change) = c.loop-index.changes.items in
    let news : List (Option Change) = c.push.new.self.items in
    let one : Option Change = c.in_ok-change.change in
    let items : news ≡ old ++ one ∷ [] = c.in_ok-push.ensures.items in
    let count : first + length old ≡ i = c.loop-index.invariant.count in
    let of : ℕ → Plain → Option Next = λ k o. change_of (has c.args.purged.now) (k * c.args.size) c.args.size c.args.edit c.args.context.now o in
    let last : (k : ℕ) → i ≡ k → change_at first news k ≡ option_map next one =
    λ k e. ap (λ cs. change_at first cs k) items ∙ change_at_last first old one k (count ∙ e) in
    let front : (k : ℕ) → first ≤ k → k < i → change_at first news k ≡ change_at first old k =
    λ k l h. ap (λ cs. change_at first cs k) items ∙ change_at_front first old (one ∷ []) k l (omega arith) in
    let long : length news ≡ length old + 1 = ap length items ∙ length-append old (one ∷ []) in
    record {
      same = λ k. c.prepare.ensures.same k ∙ c.loop-index.invariant.same k;
      count = omega arith;
      changes = λ k l h. ⊎_elim
          (λ (p : k < i). front k l p ∙ c.loop-index.invariant.changes k l p)
          (λ (p : i ≤ k). let e : i ≡ k = omega arith in
          last k e ∙ c.in_ok-change.ensures.change ∙ ap (of i) (c.loop-index.invariant.same i) ∙ ap (λ n. of n (object_in c.args.self.now n)) e)
          (cases_lt k i);
      rooms = λ k h. ⊎_elim
          (λ (p : k < i). ⊎_elim
          (λ (q : k < first). let S : Option Next → Type 0 = λ o. IsSome o in let bad : IsSome {T = Next} None = subst S (change_at_before first news k q) h in cc)
          (λ (q : first ≤ k). let S : Option Next → Type 0 = λ o. IsSome o in
          c.prepare.ensures.keeps k (c.loop-index.invariant.rooms k (subst S (front k q p) h)))
          (cases_lt k first))
          (λ (p : i ≤ k). ⊎_elim
          (λ (q : i < k). let S : Option Next → Type 0 = λ o. IsSome o in
          let bad : IsSome {T = Next} None = subst S (change_at_past first news k (omega arith)) h in cc)
          (λ (q : k ≤ i). let e : i ≡ k = omega arith in
          let S : Option Next → Type 0 = λ o. IsSome o in
          let R : ℕ → Type 0 = λ n. HasRoomAt c.prepare.new.self n in
          subst R e (c.in_ok-change.ensures.room (some_from_map one (subst S (last k e) h))))
          (cases_lt i k))
          (cases_lt k i);
    }

pub returns-clause-count : goal.returns-clause-count
returns-clause-count c = omega (arith, c.loop-index.invariant.count, c.loop-index.auto.index-end c.requires.order, c.loop-index-test.false)

-- What a cut keeps while all effects are of client 1.
use Rattle.std.proofs.Common.{◌≡◌, ℕ, zero, suc, ◌-◌, max, List, [], ◌∷◌, length, take, true, false, cond, refl, ap, ◌∙◌, arith}
use Rattle.std.proofs.lemmas.Bool.Decides.{nat_tests}
use Rattle.std.specs.Prelude.{filter, nat_lt}
use Rattle.snap_ids.specs.declared.id.SnapId.{SnapId}
use Rattle.plain_types.specs.declared.change.Effect.{Effect}
use Rattle.plain_types.specs.declared.history.Event.{Event}
use Rattle.plain_tree.specs.Change.{state_after}
use Rattle.plain_tree.specs.History.{effects, is_of, before_snap, told}
use Rattle.plain_tree.specs.Cut.{keep, one_less}
use Rattle.direct_journal.specs.Cut.{is_making, mark, cut, tree}
use Rattle.direct_journal.proofs.Effects.{AllSingle, AllOfOne, all_of_one, told_is, effects-take_mark}

zero_lt_suc : (n : ℕ) → nat_lt 0 (suc n) ≡ true
zero_lt_suc n = grind (arith, nat_tests)

pred_suc : (n : ℕ) → suc n - 1 ≡ n
pred_suc n = omega arith

kept_at : (numbers : ℕ → ℕ) (effect : Effect) (more : List Effect) → effect.client ≡ 1 → ((others : ℕ → ℕ) → keep others more ≡ take (others 1) more) → (n : ℕ) → numbers 1 ≡ n → keep numbers (effect ∷ more) ≡ take n (effect ∷ more)
kept_at numbers effect more of_one rest zero is =
    let test : nat_lt 0 (numbers effect.client) ≡ false = rw (of_one, is) refl in
    let none : take (numbers 1) more ≡ [] = rw is refl in
    rw test (rest numbers ∙ none)
kept_at numbers effect more of_one rest (suc n) is =
    let test : nat_lt 0 (numbers effect.client) ≡ true = rw (of_one, is) (zero_lt_suc n) in
    let less : one_less effect.client numbers 1 ≡ n = rw (of_one, is) (pred_suc n) in
    rw test (ap (λ (l : List Effect). effect ∷ l) (rest (one_less effect.client numbers) ∙ ap (λ (m : ℕ). take m more) less))

-- of the effects of one client, its number of first ones is kept
pub keep_is : (numbers : ℕ → ℕ) (done : List Effect) → AllOfOne done → keep numbers done ≡ take (numbers 1) done
keep_is numbers [] all = elim (numbers 1) as (λ n. ◌≡◌ {A = List Effect} [] (take n [])) [ zero ↦ refl | suc n ↦ refl ]
keep_is numbers (effect ∷ done) all =
    kept_at numbers effect done all.0 (λ others. keep_is others done all.1) (numbers 1) refl

-- each of the effects before a snapshot is of client 1, as all are
filter_of_one : (done : List Effect) → AllOfOne done → filter (is_of 1) done ≡ done
filter_of_one [] all = refl
filter_of_one (effect ∷ done) all =
    let test : is_of 1 effect ≡ true = rw (all.0) refl in
    rw test (ap (λ (l : List Effect). effect ∷ l) (filter_of_one done all.1))

before_of_one : (s : SnapId) (done : List Effect) → AllOfOne done → AllOfOne (before_snap s done)
before_of_one s [] all = tt
before_of_one s (effect ∷ done) all = elim (is_making s effect) as (λ b. AllOfOne (cond b [] (effect ∷ before_snap s done))) [
  | true ↦ tt
  | false ↦ (all.0, before_of_one s done all.1)
]

-- the effects before a snapshot stand at the front
take_before : (s : SnapId) (done : List Effect) → take (length (before_snap s done)) done ≡ before_snap s done
take_before s [] = refl
take_before s (effect ∷ done) = elim (is_making s effect) as (λ b. take (length (cond b [] (effect ∷ before_snap s done))) (effect ∷ done) ≡ cond b [] (effect ∷ before_snap s done)) [
  | true ↦ refl
  | false ↦ ap (λ (l : List Effect). effect ∷ l) (take_before s done)
]

max_same : (n : ℕ) → max n n ≡ n
max_same n = omega arith

-- the tree of a snapshot is what the effects before it made
pub tree_is : (history : List Event) (s : SnapId) → AllSingle history → tree history s ≡ state_after (before_snap s (effects history))
tree_is history s all = ap state_after kept
  where
    before : List Effect
    before = before_snap s (effects history)

    here : length (filter (is_of 1) before) ≡ length before
    here = ap length (filter_of_one before (before_of_one s (effects history) (all_of_one history all)))

    told_then : told history 1 (mark history s) ≡ length before
    told_then = told_is history (mark history s) all ∙ ap length (effects-take_mark history s all)

    number : cut history s 1 ≡ length before
    number = rw (here, told_then) (max_same (length before))

    kept : keep (cut history s) (effects history) ≡ before
    kept = keep_is (cut history s) (effects history) (all_of_one history all) ∙ ap (λ (n : ℕ). take n (effects history)) number ∙ take_before s (effects history)

-- Lists without the first that passes a test.
use Rattle.std.proofs.Common.{◌≡◌, ℕ, zero, suc, ◌<◌, ◌≤◌, Bool, true, false, not, ◌||◌, ◌==◌, cond, List, [], ◌∷◌, ◌++◌, length, drop, filter, Some, refl, sym, ap, ◌∙◌, arith}
use Rattle.std.specs.List.{list_any, remove, AllByRecursion}
use Rattle.std.proofs.lemmas.Bool.{eqb-true}
use Rattle.std.proofs.lemmas.Bool.Decides.{nat_tests}
use Rattle.held_requests.specs.Keys.{cut_first, place_of, first_key, keys_of}
use Rattle.held_requests.specs.Kept.{has, Once}

pub none_true : (a b : Bool) → (a || b) ≡ false → (a ≡ false) × (b ≡ false)
none_true true b is = cc
none_true false b is = (refl, is)

pub some_same : (x y : ℕ) → Some x ≡ Some y → x ≡ y
some_same x y is = cc

module _ {X : Type 0} (p : X → Bool) where
  -- those that pass lose the first of them
  pub filter_cut : (xs : List X) → filter p (cut_first p xs) ≡ drop 1 (filter p xs)
  filter_cut [] = refl
  filter_cut (x ∷ xs) = go (p x) refl (filter_cut xs)
    where
      go : (b : Bool) → p x ≡ b → filter p (cut_first p xs) ≡ drop 1 (filter p xs) → filter p (cond b xs (x ∷ cut_first p xs)) ≡ drop 1 (cond b (x ∷ filter p xs) (filter p xs))
      go true is rest = refl
      go false is rest = ap (λ b. cond b (x ∷ filter p (cut_first p xs)) (filter p (cut_first p xs))) is ∙ rest

  -- those that pass no such test stay
  pub filter_cut_other : (q : X → Bool) → ((x : X) → p x ≡ true → q x ≡ false) → (xs : List X) → filter q (cut_first p xs) ≡ filter q xs
  filter_cut_other q apart [] = refl
  filter_cut_other q apart (x ∷ xs) = go (p x) refl (filter_cut_other q apart xs)
    where
      go : (b : Bool) → p x ≡ b → filter q (cut_first p xs) ≡ filter q xs → filter q (cond b xs (x ∷ cut_first p xs)) ≡ cond (q x) (x ∷ filter q xs) (filter q xs)
      go true is rest = sym (ap (λ b. cond b (x ∷ filter q xs) (filter q xs)) (apart x is))
      go false is rest = ap (λ ys. cond (q x) (x ∷ ys) ys) rest

  pub not_cut : (xs : List X) → filter (λ x. not (p x)) (cut_first p xs) ≡ filter (λ x. not (p x)) xs
  not_cut xs = filter_cut_other (λ x. not (p x)) (λ x is. ap not is) xs

  pub all_cut : (P : X → Type 0) (xs : List X) → AllByRecursion P xs → AllByRecursion P (cut_first p xs)
  all_cut P [] all = all
  all_cut P (x ∷ xs) all = go (p x) (all_cut P xs all.1)
    where
      go : (b : Bool) → AllByRecursion P (cut_first p xs) → AllByRecursion P (cond b xs (x ∷ cut_first p xs))
      go true rest = all.1
      go false rest = (all.0, rest)

  pub none_cut : (q : X → Bool) (xs : List X) → list_any q xs ≡ false → list_any q (cut_first p xs) ≡ false
  none_cut q [] none = none
  none_cut q (x ∷ xs) none = let l = none_true (q x) (list_any q xs) none in go (p x) l (none_cut q xs l.1)
    where
      go : (b : Bool) → (q x ≡ false) × (list_any q xs ≡ false) → list_any q (cut_first p xs) ≡ false → list_any q (cond b xs (x ∷ cut_first p xs)) ≡ false
      go true l rest = l.1
      go false l rest = λ i. (l.0 i || rest i)

  -- where none passes
  pub none_passes : (xs : List X) → filter p xs ≡ [] → (filter (λ x. not (p x)) xs ≡ xs) × (cut_first p xs ≡ xs)
  none_passes [] none = (refl, refl)
  none_passes (x ∷ xs) none = go (p x) none (none_passes xs)
    where
      go : (b : Bool) → cond b (x ∷ filter p xs) (filter p xs) ≡ [] → (filter p xs ≡ [] → (filter (λ x. not (p x)) xs ≡ xs) × (cut_first p xs ≡ xs)) → (cond (not b) (x ∷ filter (λ x. not (p x)) xs) (filter (λ x. not (p x)) xs) ≡ x ∷ xs) × (cond b xs (x ∷ cut_first p xs) ≡ x ∷ xs)
      go true none rest = cc
      go false none rest = let l = rest none in (ap (λ ys. x ∷ ys) l.0, ap (λ ys. x ∷ ys) l.1)

  -- where one does
  pub one_fewer : (xs : List X) → (filter p xs ≡ [] → ⊥) → suc (length (cut_first p xs)) ≡ length xs
  one_fewer [] some = absurd (some refl)
  one_fewer (x ∷ xs) some = go (p x) some (one_fewer xs)
    where
      go : (b : Bool) → (cond b (x ∷ filter p xs) (filter p xs) ≡ [] → ⊥) → ((filter p xs ≡ [] → ⊥) → suc (length (cut_first p xs)) ≡ length xs) → suc (length (cond b xs (x ∷ cut_first p xs))) ≡ suc (length xs)
      go true some rest = refl
      go false some rest = ap suc (rest some)

-- keys that are there once
pub once_cut : (p : ℕ → Bool) (keys : List ℕ) → Once keys → Once (cut_first p keys)
once_cut p [] once = once
once_cut p (k ∷ ks) once = go (p k) (once_cut p ks once.1)
  where
    go : (b : Bool) → Once (cut_first p ks) → Once (cond b ks (k ∷ cut_first p ks))
    go true rest = once.1
    go false rest = (none_cut p (λ next. next == k) ks once.0, rest)

-- a key that is taken out isn't there
pub gone : (key : ℕ) (keys : List ℕ) → Once keys → has key (cut_first (λ k. k == key) keys) ≡ false
gone key [] once = refl
gone key (k ∷ ks) once = go (k == key) refl (gone key ks once.1)
  where
    go : (b : Bool) → (k == key) ≡ b → has key (cut_first (λ k. k == key) ks) ≡ false → has key (cond b ks (k ∷ cut_first (λ k. k == key) ks)) ≡ false
    go true is rest = ap (λ (n : ℕ). has n ks) (sym (eqb-true k key is)) ∙ once.0
    go false is rest = λ i. (is i || rest i)

-- the first key that passes
pub first_passes : (p : ℕ → Bool) (key : ℕ) (keys : List ℕ) → first_key (filter p keys) ≡ Some key → p key ≡ true
first_passes p key [] is = cc
first_passes p key (k ∷ ks) is = go (p k) refl is (first_passes p key ks)
  where
    go : (b : Bool) → p k ≡ b → first_key (cond b (k ∷ filter p ks) (filter p ks)) ≡ Some key → (first_key (filter p ks) ≡ Some key → p key ≡ true) → p key ≡ true
    go true here is rest = ap p (sym (some_same k key is)) ∙ here
    go false here is rest = rest is

-- is taken out by its number
pub cut_key : (p : ℕ → Bool) (key : ℕ) (keys : List ℕ) → first_key (filter p keys) ≡ Some key → cut_first (λ k. k == key) keys ≡ cut_first p keys
cut_key p key [] is = cc
cut_key p key (k ∷ ks) is = go (p k) refl is (cut_key p key ks)
  where
    other : (b : Bool) → (k == key) ≡ b → p k ≡ false → p key ≡ true → b ≡ false
    other true same off on = let never : true ≡ false = sym on ∙ ap p (sym (eqb-true k key same)) ∙ off in cc
    other false same off on = refl

    go : (b : Bool) → p k ≡ b → first_key (cond b (k ∷ filter p ks) (filter p ks)) ≡ Some key → (first_key (filter p ks) ≡ Some key → cut_first (λ k. k == key) ks ≡ cut_first p ks) → cond (k == key) ks (k ∷ cut_first (λ k. k == key) ks) ≡ cond b ks (k ∷ cut_first p ks)
    go true here is rest =
        let same : (k == key) ≡ true = let e = some_same k key is in grind (arith, nat_tests) in
        ap (λ b. cond b ks (k ∷ cut_first (λ k. k == key) ks)) same
    go false here is rest =
        ap (λ b. cond b ks (k ∷ cut_first (λ k. k == key) ks)) (other (k == key) refl here (first_passes p key ks is))
        ∙ ap (λ ys. k ∷ ys) (rest is)

-- the code's removal by a place
pub removed : (key : ℕ) (keys : List ℕ) → place_of key keys < length keys → remove keys (place_of key keys) ≡ cut_first (λ k. k == key) keys
removed key [] small = absurd (omega (arith, small))
removed key (k ∷ ks) small = go (k == key) small (removed key ks)
  where
    go : (b : Bool) → cond b 0 (suc (place_of key ks)) < suc (length ks) → (place_of key ks < length ks → remove ks (place_of key ks) ≡ cut_first (λ k. k == key) ks) → remove (k ∷ ks) (cond b 0 (suc (place_of key ks))) ≡ cond b ks (k ∷ cut_first (λ k. k == key) ks)
    go true small rest = refl
    go false small rest = ap (λ ys. k ∷ ys) (rest (omega (arith, small)))

pub not_there : (key : ℕ) (keys : List ℕ) → length keys ≤ place_of key keys → keys ≡ cut_first (λ k. k == key) keys
not_there key [] large = refl
not_there key (k ∷ ks) large = go (k == key) large (not_there key ks)
  where
    go : (b : Bool) → suc (length ks) ≤ cond b 0 (suc (place_of key ks)) → (length ks ≤ place_of key ks → ks ≡ cut_first (λ k. k == key) ks) → k ∷ ks ≡ cond b ks (k ∷ cut_first (λ k. k == key) ks)
    go true large rest = absurd (omega (arith, large))
    go false large rest = ap (λ ys. k ∷ ys) (rest (omega (arith, large)))

-- one more list of no keys
pub grown : (client : ℕ) (lists : List (List ℕ)) → keys_of client (lists ++ [] ∷ []) ≡ keys_of client lists
grown zero [] = refl
grown (suc client) [] = refl
grown zero (keys ∷ lists) = refl
grown (suc client) (keys ∷ lists) = grown client lists

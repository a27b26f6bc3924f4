-- Parts of a list, and what a filter, a search and a map make of them.
use Rattle.std.proofs.Common.{◌≡◌, ℕ, ◌+◌, ◌<◌, zero, suc, Bool, true, false, ◌||◌, List, [], ◌∷◌, ◌++◌, length, take, drop, set, map, get_or, find, Some, None, refl, sym, ap, ◌∙◌, arith}
use Rattle.std.specs.List.{AllByRecursion, AllWithin, filter, list_any}
use Rattle.std.proofs.lemmas.List.{take-append-drop, take-set, drop-set, append-nil}
use Rattle.std.proofs.lemmas.List.Elements.{filter-append}
use Rattle.std.proofs.Math.Seq.{drop-cons}

-- of each up to a place
pub all_taken : {X : Type 0} (P : X → Type 0) (xs : List X) (i : ℕ) → AllWithin P xs 0 i → AllByRecursion P (take i xs)
all_taken P xs zero within = tt
all_taken P [] (suc i) within = tt
all_taken P (x ∷ xs) (suc i) within =
    (within 0 x (omega arith) (omega arith), all_taken P xs i (λ k d low high. within (suc k) d (omega arith) (omega arith)))

-- of each from a place on
pub all_dropped : {X : Type 0} (P : X → Type 0) (xs : List X) (i : ℕ) → AllWithin P xs i (length xs) → AllByRecursion P (drop i xs)
all_dropped P [] zero within = tt
all_dropped P [] (suc i) within = tt
all_dropped P (x ∷ xs) zero within =
    (within 0 x (omega arith) (omega arith), all_dropped P xs zero (λ k d low high. within (suc k) d (omega arith) (omega arith)))
all_dropped P (x ∷ xs) (suc i) within = all_dropped P xs i (λ k d low high. within (suc k) d (omega arith) (omega arith))

-- what holds of all holds of those up to a place
pub all_take : {X : Type 0} (P : X → Type 0) (xs : List X) (i : ℕ) → AllByRecursion P xs → AllByRecursion P (take i xs)
all_take P xs zero all = tt
all_take P [] (suc i) all = tt
all_take P (x ∷ xs) (suc i) all = (all.0, all_take P xs i all.1)

-- what holds of all implies what follows from it
pub all_weaker : {X : Type 0} (P Q : X → Type 0) → ((x : X) → P x → Q x) → (xs : List X) → AllByRecursion P xs → AllByRecursion Q xs
all_weaker P Q weaker [] all = tt
all_weaker P Q weaker (x ∷ xs) all = (weaker x all.0, all_weaker P Q weaker xs all.1)

-- what two facts that hold of all imply
pub all_both : {X : Type 0} (P Q R : X → Type 0) → ((x : X) → P x → Q x → R x) → (xs : List X) → AllByRecursion P xs → AllByRecursion Q xs → AllByRecursion R xs
all_both P Q R both [] all_p all_q = tt
all_both P Q R both (x ∷ xs) all_p all_q = (both x all_p.0 all_q.0, all_both P Q R both xs all_p.1 all_q.1)

-- a fact of each element, without a premise
pub all_of : {X : Type 0} (P : X → Type 0) → ((x : X) → P x) → (xs : List X) → AllByRecursion P xs
all_of P each [] = tt
all_of P each (x ∷ xs) = (each x, all_of P each xs)

-- of two parts and one element between them
pub all_join : {X : Type 0} (P : X → Type 0) (front : List X) (x : X) (back : List X) → AllByRecursion P front → P x → AllByRecursion P back → AllByRecursion P (front ++ x ∷ back)
all_join P [] x back all here later = (here, later)
all_join P (y ∷ front) x back all here later = (all.0, all_join P front x back all.1 here later)

module _ {X : Type 0} (p : X → Bool) where
  -- the first element is kept, or isn't
  pub kept_first : (x : X) (xs : List X) → p x ≡ true → filter p (x ∷ xs) ≡ x ∷ filter p xs
  kept_first x xs is = rw is refl

  pub left_out_first : (x : X) (xs : List X) → p x ≡ false → filter p (x ∷ xs) ≡ filter p xs
  left_out_first x xs is = rw is refl

  -- a test that no element passes keeps none
  pub filter_none : (xs : List X) → AllByRecursion (λ x. p x ≡ false) xs → filter p xs ≡ []
  filter_none [] none = refl
  filter_none (x ∷ xs) none = left_out_first x xs none.0 ∙ filter_none xs none.1

  -- a test that all pass keeps all
  pub filter_all : (xs : List X) → AllByRecursion (λ x. p x ≡ true) xs → filter p xs ≡ xs
  filter_all [] all = refl
  filter_all (x ∷ xs) all = kept_first x xs all.0 ∙ ap (λ ys. x ∷ ys) (filter_all xs all.1)

  -- what a test keeps has what all have, and passes the test
  all_kept : (P Q : X → Type 0) → ((x : X) → p x ≡ true → P x → Q x) → (x : X) (xs : List X) (b : Bool) → p x ≡ b → P x → AllByRecursion Q (filter p xs) → AllByRecursion Q (filter p (x ∷ xs))
  all_kept P Q both x xs true is here later = rw is (both x is here, later)
  all_kept P Q both x xs false is here later = rw is later

  pub all_filter : (P Q : X → Type 0) → ((x : X) → p x ≡ true → P x → Q x) → (xs : List X) → AllByRecursion P xs → AllByRecursion Q (filter p xs)
  all_filter P Q both [] all = tt
  all_filter P Q both (x ∷ xs) all = all_kept P Q both x xs (p x) refl all.0 (all_filter P Q both xs all.1)

  -- a test that the first ones pass and the others don't
  pub filter_front : (front rest : List X) → AllByRecursion (λ x. p x ≡ true) front → AllByRecursion (λ x. p x ≡ false) rest → filter p (front ++ rest) ≡ front
  filter_front front rest pass none = rw (filter-append p front rest, filter_all front pass, filter_none rest none) (append-nil front)

  -- a test that the last ones pass and the others don't
  pub filter_back : (front rest : List X) → AllByRecursion (λ x. p x ≡ false) front → AllByRecursion (λ x. p x ≡ true) rest → filter p (front ++ rest) ≡ rest
  filter_back front rest none pass = rw (filter-append p front rest, filter_none front none, filter_all rest pass) refl

  -- the first element that passes
  pub find_first : (front back : List X) (x : X) → AllByRecursion (λ y. p y ≡ false) front → p x ≡ true → find p (front ++ x ∷ back) ≡ Some x
  find_first [] back x none is = rw is refl
  find_first (y ∷ front) back x none is = rw none.0 (find_first front back x none.1 is)

  pub find_none : (xs : List X) → AllByRecursion (λ x. p x ≡ false) xs → find p xs ≡ None
  find_none [] none = refl
  find_none (x ∷ xs) none = rw none.0 (find_none xs none.1)

  pub any_here : (front back : List X) (x : X) → p x ≡ true → list_any p (front ++ x ∷ back) ≡ true
  any_here [] back x is = rw is refl
  any_here (y ∷ front) back x is = rw (any_here front back x is) (or_true (p y))
    where
      or_true : (b : Bool) → (b || true) ≡ true
      or_true true = refl
      or_true false = refl

  pub any_none : (xs : List X) → AllByRecursion (λ x. p x ≡ false) xs → list_any p xs ≡ false
  any_none [] none = refl
  any_none (x ∷ xs) none = rw (none.0, any_none xs none.1) refl

-- a map that changes no element
pub map_same : {X : Type 0} (f : X → X) (xs : List X) → AllByRecursion (λ x. f x ≡ x) xs → map f xs ≡ xs
map_same f [] same = refl
map_same f (x ∷ xs) same = rw (same.0, map_same f xs same.1) refl

one_more : (n : ℕ) → n + 1 ≡ suc n
one_more n = omega arith

-- a list is what stands before an element, the element, and what stands behind it
pub parted_at : {X : Type 0} (xs : List X) (i : ℕ) (d : X) → i < length xs → take i xs ++ get_or xs i d ∷ drop (suc i) xs ≡ xs
parted_at xs i d within = ap (λ ys. take i xs ++ ys) (sym (drop-cons xs i d within)) ∙ take-append-drop i xs

-- another element in its place
pub set_parts : {X : Type 0} (xs : List X) (i : ℕ) (y : X) → i < length xs → take i xs ++ y ∷ drop (suc i) xs ≡ set xs i y
set_parts xs i y within =
    ap (λ n. take i xs ++ y ∷ drop n xs) (sym (one_more i)) ∙ ap (λ ys. take i xs ++ ys) (sym (drop-set xs i y within)) ∙ ap (λ ys. ys ++ drop i (set xs i y)) (sym (take-set xs i y)) ∙ take-append-drop i (set xs i y)

-- Parts of a list, and what a filter and a search make of them.
use Rattle.std.proofs.Common.{◌≡◌, ℕ, zero, suc, Bool, true, false, List, [], ◌∷◌, ◌++◌, length, take, drop, map, filter, find, option_map, refl, ap, ◌∙◌, arith}
use Rattle.std.specs.List.{AllByRecursion, AllWithin, list_any}

-- of each up to a place
pub all_taken : {X : Type 0} (P : X → Type 0) (xs : List X) (i : ℕ) → AllWithin P xs 0 i → AllByRecursion P (take i xs)
all_taken P xs zero within = tt
all_taken P [] (suc i) within = tt
all_taken P (x ∷ xs) (suc i) within =
    (within 0 x (omega arith) (omega arith), all_taken P xs i (λ k d low high. within (suc k) d (omega arith) (omega arith)))

-- of each from a place on
pub all_dropped : {X : Type 0} (P : X → Type 0) (xs : List X) (i : ℕ) → AllWithin P xs i (length xs) → AllByRecursion P (drop i xs)
all_dropped P [] zero within = tt
all_dropped P [] (suc i) within = tt
all_dropped P (x ∷ xs) zero within =
    (within 0 x (omega arith) (omega arith), all_dropped P xs zero (λ k d low high. within (suc k) d (omega arith) (omega arith)))
all_dropped P (x ∷ xs) (suc i) within = all_dropped P xs i (λ k d low high. within (suc k) d (omega arith) (omega arith))

pub all_drop : {X : Type 0} (P : X → Type 0) (xs : List X) (i : ℕ) → AllByRecursion P xs → AllByRecursion P (drop i xs)
all_drop P xs zero all = all
all_drop P [] (suc i) all = tt
all_drop P (x ∷ xs) (suc i) all = all_drop P xs i all.1

-- what holds of all implies what follows from it
pub all_weaker : {X : Type 0} (P Q : X → Type 0) → ((x : X) → P x → Q x) → (xs : List X) → AllByRecursion P xs → AllByRecursion Q xs
all_weaker P Q weaker [] all = tt
all_weaker P Q weaker (x ∷ xs) all = (weaker x all.0, all_weaker P Q weaker xs all.1)

-- what two facts that hold of all imply
pub all_both : {X : Type 0} (P Q R : X → Type 0) → ((x : X) → P x → Q x → R x) → (xs : List X) → AllByRecursion P xs → AllByRecursion Q xs → AllByRecursion R xs
all_both P Q R both [] all_p all_q = tt
all_both P Q R both (x ∷ xs) all_p all_q = (both x all_p.0 all_q.0, all_both P Q R both xs all_p.1 all_q.1)

module _ {X : Type 0} (p : X → Bool) where
  -- the first element is kept, or isn't
  pub kept_first : (x : X) (xs : List X) → p x ≡ true → filter p (x ∷ xs) ≡ x ∷ filter p xs
  kept_first x xs is = rw is refl

  pub left_out_first : (x : X) (xs : List X) → p x ≡ false → filter p (x ∷ xs) ≡ filter p xs
  left_out_first x xs is = rw is refl

  -- a test that no element passes keeps none
  pub filter_none : (xs : List X) → AllByRecursion (λ x. p x ≡ false) xs → filter p xs ≡ []
  filter_none [] none = refl
  filter_none (x ∷ xs) none = left_out_first x xs none.0 ∙ filter_none xs none.1

  -- a test that all pass keeps all
  pub filter_all : (xs : List X) → AllByRecursion (λ x. p x ≡ true) xs → filter p xs ≡ xs
  filter_all [] all = refl
  filter_all (x ∷ xs) all = kept_first x xs all.0 ∙ ap (λ ys. x ∷ ys) (filter_all xs all.1)

-- what is looked for in a map, what is kept of it, and whether it has one that passes
module _ {X Y : Type 0} (f : X → Y) (p : Y → Bool) where
  one_found : (b : Bool) (x : X) (xs : List X) → p (f x) ≡ b → find p (map f xs) ≡ option_map f (find (λ y. p (f y)) xs) → find p (map f (x ∷ xs)) ≡ option_map f (find (λ y. p (f y)) (x ∷ xs))
  one_found true x xs is rest = rw is refl
  one_found false x xs is rest = rw is rest

  pub find_map : (xs : List X) → find p (map f xs) ≡ option_map f (find (λ x. p (f x)) xs)
  find_map [] = refl
  find_map (x ∷ xs) = one_found (p (f x)) x xs refl (find_map xs)

  one_kept : (b : Bool) (x : X) (xs : List X) → p (f x) ≡ b → filter p (map f xs) ≡ map f (filter (λ y. p (f y)) xs) → filter p (map f (x ∷ xs)) ≡ map f (filter (λ y. p (f y)) (x ∷ xs))
  one_kept true x xs is rest = rw is (ap (λ ys. f x ∷ ys) rest)
  one_kept false x xs is rest = rw is rest

  pub filter_map_of : (xs : List X) → filter p (map f xs) ≡ map f (filter (λ x. p (f x)) xs)
  filter_map_of [] = refl
  filter_map_of (x ∷ xs) = one_kept (p (f x)) x xs refl (filter_map_of xs)

  pub any_map : (xs : List X) → list_any p (map f xs) ≡ list_any (λ x. p (f x)) xs
  any_map [] = refl
  any_map (x ∷ xs) = rw (any_map xs) refl

pub map_append : {X Y : Type 0} (f : X → Y) (xs ys : List X) → map f (xs ++ ys) ≡ map f xs ++ map f ys
map_append f [] ys = refl
map_append f (x ∷ xs) ys = ap (λ zs. f x ∷ zs) (map_append f xs ys)

-- Whether one of a list passes a test.
use Rattle.std.proofs.Common.{◌≡◌, Bool, true, false, not, ◌||◌, ◌&&◌, cond, List, [], ◌∷◌, map, filter, None, Some, find, refl, sym, ap, ◌∙◌}
use Rattle.std.specs.List.{list_any, list_all}

pub or_false : (b : Bool) → (b || false) ≡ b
or_false true = refl
or_false false = refl

pub and_false : (b : Bool) → (b && false) ≡ false
and_false true = refl
and_false false = refl

pub or_left : (a b : Bool) → a ≡ true → (a || b) ≡ true
or_left true b is = refl
or_left false b is = cc

pub both_true : (a b : Bool) → (a && b) ≡ true → (a ≡ true) × (b ≡ true)
both_true true b is = (refl, is)
both_true false b is = cc

pub none_true : (a b : Bool) → (a || b) ≡ false → (a ≡ false) × (b ≡ false)
none_true true b is = cc
none_true false b is = (refl, is)

shuffled : (a b c d : Bool) → ((a || b) || (c || d)) ≡ ((a || c) || (b || d))
shuffled true b c d = refl
shuffled false true true d = refl
shuffled false true false d = refl
shuffled false false c d = refl

-- one that passes q passes r as b does
split_one : (t f b more any rest : Bool) → (t ≡ true → f ≡ b) → more ≡ (rest || (any && b)) → (f || more) ≡ (((not t && f) || rest) || ((t || any) && b))
split_one true true true more any rest same is = one rest
  where
    one : (rest : Bool) → true ≡ (rest || true)
    one true = refl
    one false = refl
split_one true true false more any rest same is = let never = same refl in cc
split_one true false true more any rest same is = let never = same refl in cc
split_one true false false more true rest same is = is
split_one true false false more false rest same is = is
split_one false true b more any rest same is = refl
split_one false false b more any rest same is = is

-- all pass where none fails
de_morgan : (a b c : Bool) → b ≡ not c → (a && b) ≡ not (not a || c)
de_morgan true b c is = is
de_morgan false b c is = refl

module _ {X : Type 0} where
  pub any_same : (p q : X → Bool) (xs : List X) → ((x : X) → p x ≡ q x) → list_any p xs ≡ list_any q xs
  any_same p q xs same = λ i. list_any (λ x. same x i) xs

  filtered : (p q : X → Bool) (x : X) (xs : List X) (b : Bool) → q x ≡ b → list_any p (filter q xs) ≡ list_any (λ y. q y && p y) xs → list_any p (cond b (x ∷ filter q xs) (filter q xs)) ≡ ((b && p x) || list_any (λ y. q y && p y) xs)
  filtered p q x xs true is rest = ap (λ b. p x || b) rest
  filtered p q x xs false is rest = rest

  pub any_filter : (p q : X → Bool) (xs : List X) → list_any p (filter q xs) ≡ list_any (λ x. q x && p x) xs
  any_filter p q [] = refl
  any_filter p q (x ∷ xs) = filtered p q x xs (q x) refl (any_filter p q xs)

  pub any_or : (p q : X → Bool) (xs : List X) → list_any (λ x. p x || q x) xs ≡ (list_any p xs || list_any q xs)
  any_or p q [] = refl
  any_or p q (x ∷ xs) = ap (λ b. (p x || q x) || b) (any_or p q xs) ∙ shuffled (p x) (q x) (list_any p xs) (list_any q xs)

  pub any_split : (p q : X → Bool) (b : Bool) (xs : List X) → ((x : X) → q x ≡ true → p x ≡ b) → list_any p xs ≡ (list_any (λ x. not (q x) && p x) xs || (list_any q xs && b))
  any_split p q b [] same = refl
  any_split p q b (x ∷ xs) same = split_one (q x) (p x) b (list_any p xs) (list_any q xs) (list_any (λ x. not (q x) && p x) xs) (same x) (any_split p q b xs same)

  -- what none passes
  pub any_apart : (p r q : X → Bool) (xs : List X) → list_any q xs ≡ false → ((x : X) → q x ≡ false → p x ≡ r x) → list_any p xs ≡ list_any r xs
  any_apart p r q [] none same = refl
  any_apart p r q (x ∷ xs) none same =
      let l = none_true (q x) (list_any q xs) none in
      λ i. (same x l.0 i || any_apart p r q xs l.1 same i)

  -- what one passes that passes another test
  pub any_more : (p q : X → Bool) (xs : List X) → ((x : X) → p x ≡ true → q x ≡ true) → list_any p xs ≡ true → list_any q xs ≡ true
  any_more p q [] more is = cc
  any_more p q (x ∷ xs) more is = go (p x) refl is (any_more p q xs more)
    where
      or_right : (a b : Bool) → b ≡ true → (a || b) ≡ true
      or_right true b is = refl
      or_right false b is = is

      go : (b : Bool) → p x ≡ b → (b || list_any p xs) ≡ true → (list_any p xs ≡ true → list_any q xs ≡ true) → (q x || list_any q xs) ≡ true
      go true here is rest = or_left (q x) (list_any q xs) (more x here)
      go false here is rest = or_right (q x) (list_any q xs) (rest is)

  pub none_more : (p q : X → Bool) (xs : List X) → ((x : X) → p x ≡ true → q x ≡ true) → list_any q xs ≡ false → list_any p xs ≡ false
  none_more p q xs more none = go (list_any p xs) refl
    where
      go : (b : Bool) → list_any p xs ≡ b → b ≡ false
      go true is = let never : true ≡ false = sym (any_more p q xs more is) ∙ none in cc
      go false is = refl

  pub any_and : (p : X → Bool) (b : Bool) (xs : List X) → list_any (λ x. p x && b) xs ≡ (list_any p xs && b)
  any_and p true xs = any_same (λ x. p x && true) p xs (λ x. and_true (p x)) ∙ sym (and_true (list_any p xs))
    where
      and_true : (a : Bool) → (a && true) ≡ a
      and_true true = refl
      and_true false = refl
  any_and p false [] = refl
  any_and p false (x ∷ xs) = ap (λ b. b || list_any (λ x. p x && false) xs) (and_false (p x)) ∙ any_and p false xs ∙ and_false (list_any p xs) ∙ sym (and_false (p x || list_any p xs))

  pub all_any : (p : X → Bool) (xs : List X) → list_all p xs ≡ not (list_any (λ x. not (p x)) xs)
  all_any p [] = refl
  all_any p (x ∷ xs) = de_morgan (p x) (list_all p xs) (list_any (λ x. not (p x)) xs) (all_any p xs)

  pub none_filter : (p : X → Bool) (xs : List X) → list_any p xs ≡ false → filter p xs ≡ []
  none_filter p [] none = refl
  none_filter p (x ∷ xs) none =
      let l = none_true (p x) (list_any p xs) none in
      ap (λ b. cond b (x ∷ filter p xs) (filter p xs)) l.0 ∙ none_filter p xs l.1

  pub none_found : (p : X → Bool) (xs : List X) → list_any p xs ≡ false → find p xs ≡ None
  none_found p [] none = refl
  none_found p (x ∷ xs) none =
      let l = none_true (p x) (list_any p xs) none in
      ap (λ b. cond b (Some x) (find p xs)) l.0 ∙ none_found p xs l.1

pub any_map : {X Y : Type 0} (p : Y → Bool) (f : X → Y) (xs : List X) → list_any p (map f xs) ≡ list_any (λ x. p (f x)) xs
any_map p f [] = refl
any_map p f (x ∷ xs) = ap (λ b. p (f x) || b) (any_map p f xs)

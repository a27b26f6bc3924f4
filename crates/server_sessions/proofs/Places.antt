-- Lists with one element for each client.
use Rattle.std.proofs.Common.{◌≡◌, ℕ, zero, suc, ◌+◌, ◌-◌, ◌≤◌, Bool, true, false, ◌==◌, List, [], ◌∷◌, ◌++◌, map, length, set, get_or, replicate, refl, sym, ap, ◌∙◌, arith}
use Rattle.std.proofs.lemmas.Bool.Decides.{nat_tests}
use Rattle.std.proofs.lemmas.List.{length-append, length-map, map-append, set-append_left, set-append_right, get_or_append_left, get_or-append_right, replicate_more}
use Rattle.step_table.specs.ServerState.{up_to}

pub as_many : (n : ℕ) → length (up_to n) ≡ n
as_many zero = refl
as_many (suc n) = length-append (up_to n) ((n + 1) ∷ []) ∙ let so_far = as_many n in omega (arith, so_far)

module _ {A : Type 0} where
  pub as_many_of : (f : ℕ → A) (n : ℕ) → length (map f (up_to n)) ≡ n
  as_many_of f n = length-map (up_to n) f ∙ as_many n

  -- one client more
  one_more : (f : ℕ → A) (n : ℕ) → map f (up_to (suc n)) ≡ map f (up_to n) ++ f (n + 1) ∷ []
  one_more f n = map-append f (up_to n) ((n + 1) ∷ [])

  -- each client's element
  pub found_at : (f : ℕ → A) (d : A) (n client : ℕ) → 1 ≤ client → client ≤ n → get_or (map f (up_to n)) (client - 1) d ≡ f client
  found_at f d zero client from_one upto = absurd (omega (arith, from_one, upto))
  found_at f d (suc n) client from_one upto = ap (λ (xs : List A). get_or xs (client - 1) d) (one_more f n) ∙ go (client == n + 1) refl (λ below. found_at f d n client from_one below)
    where
      go : (b : Bool) → (client == n + 1) ≡ b → (client ≤ n → get_or (map f (up_to n)) (client - 1) d ≡ f client) → get_or (map f (up_to n) ++ f (n + 1) ∷ []) (client - 1) d ≡ f client
      go true is before =
          let last : client ≡ n + 1 = grind (arith, nat_tests) in
          let many : length (map f (up_to n)) ≡ n = as_many_of f n in
          let place : client - 1 ≡ n = omega (arith, last) in
          let none : (client - 1) - n ≡ 0 = omega (arith, last) in
          get_or-append_right (map f (up_to n)) (f (n + 1) ∷ []) n (client - 1) d many (omega (arith, place))
          ∙ ap (λ (i : ℕ). get_or (f (n + 1) ∷ []) i d) none ∙ ap f (sym last)
      go false is before =
          let below : client ≤ n = grind (arith, nat_tests) in
          let many : length (map f (up_to n)) ≡ n = as_many_of f n in
          get_or_append_left (map f (up_to n)) (f (n + 1) ∷ []) d (client - 1) (omega (arith, many, below, from_one))
          ∙ before below

  -- what is the same for all clients
  pub same_upto : (f g : ℕ → A) (n : ℕ) → ((c : ℕ) → 1 ≤ c → c ≤ n → f c ≡ g c) → map f (up_to n) ≡ map g (up_to n)
  same_upto f g zero same = refl
  same_upto f g (suc n) same =
      one_more f n ∙ (λ i. same_upto f g n (λ c from_one upto. same c from_one (omega (arith, upto))) i ++ same (n + 1) (omega arith) (omega arith) i ∷ []) ∙ sym (one_more g n)

  pub all_one : (x : A) (n : ℕ) → replicate n x ≡ map (λ c. x) (up_to n)
  all_one x zero = refl
  all_one x (suc n) = (let next : suc n ≡ n + 1 = omega arith in ap (λ (k : ℕ). replicate k x) next) ∙ sym (replicate_more n x) ∙ ap (λ (xs : List A). xs ++ x ∷ []) (all_one x n) ∙ sym (one_more (λ c. x) n)

  pub mapped : {B : Type 0} (f : ℕ → A) (g : A → B) (xs : List ℕ) → map g (map f xs) ≡ map (λ x. g (f x)) xs
  mapped f g [] = refl
  mapped f g (x ∷ xs) = ap (λ ys. g (f x) ∷ ys) (mapped f g xs)

  -- one client's element is another one
  pub one_set : (f g : ℕ → A) (n client : ℕ) → 1 ≤ client → client ≤ n → ((c : ℕ) → (client == c) ≡ false → f c ≡ g c) → set (map f (up_to n)) (client - 1) (g client) ≡ map g (up_to n)
  one_set f g zero client from_one upto other = absurd (omega (arith, from_one, upto))
  one_set f g (suc n) client from_one upto other = ap (λ (xs : List A). set xs (client - 1) (g client)) (one_more f n) ∙ go (client == n + 1) refl (λ below. one_set f g n client from_one below other) ∙ sym (one_more g n)
    where
      go : (b : Bool) → (client == n + 1) ≡ b → (client ≤ n → set (map f (up_to n)) (client - 1) (g client) ≡ map g (up_to n)) → set (map f (up_to n) ++ f (n + 1) ∷ []) (client - 1) (g client) ≡ map g (up_to n) ++ g (n + 1) ∷ []
      go true is before =
          let last : client ≡ n + 1 = grind (arith, nat_tests) in
          let many : length (map f (up_to n)) ≡ n = as_many_of f n in
          let place : client - 1 ≡ n = omega (arith, last) in
          let none : (client - 1) - n ≡ 0 = omega (arith, last) in
          set-append_right (map f (up_to n)) (f (n + 1) ∷ []) n (client - 1) (g client) many (omega (arith, place))
          ∙ ap (λ (i : ℕ). map f (up_to n) ++ set (f (n + 1) ∷ []) i (g client)) none
          ∙ ap (λ (c : ℕ). map f (up_to n) ++ g c ∷ []) last
          ∙ ap (λ (xs : List A). xs ++ g (n + 1) ∷ []) (same_upto f g n (λ c from_one upto. other c (grind (arith, nat_tests))))
      go false is before =
          let below : client ≤ n = grind (arith, nat_tests) in
          let many : length (map f (up_to n)) ≡ n = as_many_of f n in
          set-append_left (map f (up_to n)) (f (n + 1) ∷ []) (client - 1) (g client) (omega (arith, many, below, from_one))
          ∙ λ i. before below i ++ other (n + 1) is i ∷ []

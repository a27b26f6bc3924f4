-- What is found in a list, and what is left without it.
use Rattle.std.proofs.Common.{◌≡◌, ℕ, suc, ◌+◌, List, [], ◌∷◌, filter, find, get_or, length, Bool, true, false, not, cond, Option, None, Some, refl, sym, ap, ◌∙◌, arith}
use Rattle.std.proofs.lemmas.Bool.Decides.{nat_tests}
use Rattle.std.specs.Prelude.{◌||◌, ◌<◌, ◌↔◌, IfSome, OnSome, IsSome, is_some, option_map, nat_lt, remove, position}
use Rattle.std.specs.List.{list_any, position_or_len}
use Rattle.snap_ids.specs.declared.id.Ino.{Ino}
use Rattle.cap_state.specs.Table.{Holding, is_at, mode_of}
use Rattle.step_table.specs.Acts.{first_of}
use Rattle.step_table.specs.ServerState.{Asked}

found_any : (p : Holding → Bool) (held : List Holding) → is_some (option_map (λ (h : Holding). h.1.mode) (find p held)) ≡ list_any p held
found_any p [] = refl
found_any p (h ∷ held) = go (p h) (found_any p held)
  where
    go : (b : Bool) → is_some (option_map (λ (h : Holding). h.1.mode) (find p held)) ≡ list_any p held → is_some (option_map (λ (h : Holding). h.1.mode) (cond b (Some h) (find p held))) ≡ (b || list_any p held)
    go true rest = refl
    go false rest = rest

-- a client holds a file where it holds it in some mode
pub held_at : (client : ℕ) (ino : Ino) (held : List Holding) → is_some (mode_of client ino held) ≡ list_any (is_at client ino) held
held_at client ino held = found_any (is_at client ino) held

module _ (p : Asked → Bool) where
  -- none passes
  pub none_there : (xs : List Asked) → nat_lt (position_or_len p xs) (length xs) ≡ false → (first_of (filter p xs) ≡ None) × (filter (λ x. not (p x)) xs ≡ xs)
  none_there [] is = (refl, refl)
  none_there (x ∷ xs) is = go (p x) is (none_there xs)
    where
      go : (b : Bool) → nat_lt (cond (not b) (1 + position_or_len p xs) 0) (length (x ∷ xs)) ≡ false → (nat_lt (position_or_len p xs) (length xs) ≡ false → (first_of (filter p xs) ≡ None) × (filter (λ y. not (p y)) xs ≡ xs))
          → (first_of (cond b (x ∷ filter p xs) (filter p xs)) ≡ None) × (cond (not b) (x ∷ filter (λ y. not (p y)) xs) (filter (λ y. not (p y)) xs) ≡ x ∷ xs)
      go true is rest = let never : nat_lt 0 (length (x ∷ xs)) ≡ true = grind (arith, nat_tests) in let wrong : true ≡ false = sym never ∙ is in cc
      go false is rest =
          let less : nat_lt (position_or_len p xs) (length xs) ≡ false = grind (arith, nat_tests) in
          let l = rest less in (l.0, ap (λ (ys : List Asked). x ∷ ys) l.1)

  -- the first that passes
  pub some_there : (xs : List Asked) (y : Asked) → nat_lt (position_or_len p xs) (length xs) ≡ true → y ≡ get_or xs (position_or_len p xs) y
      → (first_of (filter p xs) ≡ Some y) × (filter (λ x. not (p x)) (remove xs (position_or_len p xs)) ≡ filter (λ x. not (p x)) xs)
  some_there [] y is there = cc
  some_there (x ∷ xs) y is there = go (p x) refl is there (some_there xs y)
    where
      go : (b : Bool) → p x ≡ b → nat_lt (cond (not b) (1 + position_or_len p xs) 0) (length (x ∷ xs)) ≡ true → y ≡ get_or (x ∷ xs) (cond (not b) (1 + position_or_len p xs) 0) y
          → (nat_lt (position_or_len p xs) (length xs) ≡ true → y ≡ get_or xs (position_or_len p xs) y → (first_of (filter p xs) ≡ Some y) × (filter (λ z. not (p z)) (remove xs (position_or_len p xs)) ≡ filter (λ z. not (p z)) xs))
          → (first_of (cond b (x ∷ filter p xs) (filter p xs)) ≡ Some y) × (filter (λ z. not (p z)) (remove (x ∷ xs) (cond (not b) (1 + position_or_len p xs) 0)) ≡ cond (not b) (x ∷ filter (λ z. not (p z)) xs) (filter (λ z. not (p z)) xs))
      go true passes is there rest = (ap Some (sym there), refl)
      go false fails is there rest =
          let less : nat_lt (position_or_len p xs) (length xs) ≡ true = grind (arith, nat_tests) in
          let next : 1 + position_or_len p xs ≡ suc (position_or_len p xs) = omega arith in
          let l = rest less (there ∙ ap (λ (k : ℕ). get_or (x ∷ xs) k y) next) in (
            l.0,
            ap (λ (k : ℕ). filter (λ z. not (p z)) (remove (x ∷ xs) k)) next
                ∙ ap (λ (b : Bool). cond (not b) (x ∷ filter (λ z. not (p z)) (remove xs (position_or_len p xs))) (filter (λ z. not (p z)) (remove xs (position_or_len p xs)))) fails
                ∙ ap (λ (ys : List Asked). x ∷ ys) l.1,
          )

  none_of : (xs : List Asked) → position p xs ≡ None → nat_lt (position_or_len p xs) (length xs) ≡ false
  none_of xs is = go (nat_lt (position_or_len p xs) (length xs)) is
    where
      go : (b : Bool) → cond b (Some (position_or_len p xs)) None ≡ None → b ≡ false
      go true is = cc
      go false is = refl

  some_of : (xs : List Asked) (k : ℕ) → position p xs ≡ Some k → (nat_lt (position_or_len p xs) (length xs) ≡ true) × (position_or_len p xs ≡ k)
  some_of xs k is = go (nat_lt (position_or_len p xs) (length xs)) is
    where
      go : (b : Bool) → cond b (Some (position_or_len p xs)) None ≡ Some k → (b ≡ true) × (position_or_len p xs ≡ k)
      go true is = (refl, cc)
      go false is = cc

  -- what isn't there isn't taken
  pub none_taken : (xs : List Asked) → position p xs ≡ None → (first_of (filter p xs) ≡ None) × (filter (λ x. not (p x)) xs ≡ xs)
  none_taken xs is = none_there xs (none_of xs is)

  -- the first one is taken
  pub one_taken : (result : Option Asked) (xs left : List Asked) (k n : ℕ) → position p xs ≡ Some k → n ≡ length xs → IfSome result (λ y. y ≡ get_or xs k y) → OnSome result (left ≡ remove xs k) → (IsSome result ↔ (k < n))
      → (result ≡ first_of (filter p xs)) × (filter (λ x. not (p x)) left ≡ filter (λ x. not (p x)) xs)
  one_taken None xs left k n is many there rest variant =
      let l = some_of xs k is in
      let less : k < n = grind (arith, nat_tests, l.0, l.1, many) in
      let some = variant.1 less in cc
  one_taken (Some y) xs left k n is many there rest variant =
      let l = some_of xs k is in
      let found = some_there xs y l.0 (there ∙ ap (λ (i : ℕ). get_or xs i y) (sym l.1)) in
      (sym found.0, ap (filter (λ x. not (p x))) (rest ∙ ap (remove xs) (sym l.1)) ∙ found.1)

-- The requests under keys.
use Rattle.std.proofs.Common.{◌≡◌, ◌≢◌, ℕ, suc, Bool, true, false, ◌||◌, ◌&&◌, ◌==◌, cond, List, [], ◌∷◌, ◌++◌, length, filter, Option, None, Some, IsSome, refl, sym, ap, subst, ◌∙◌, arith}
use Rattle.std.specs.List.{list_any, filter_map, cons_option, AllByRecursion}
use Rattle.std.proofs.lemmas.Bool.{eqb-true}
use Rattle.std.proofs.lemmas.Bool.Decides.{nat_tests}
use Rattle.std.proofs.lemmas.List.{append_assoc}
use Rattle.held_files.specs.Files.{is_empty}
use Rattle.step_table.specs.ServerState.{Asked}
use Rattle.step_table.specs.Acts.{of_client, first_of}
use Rattle.step_table.specs.Background.{barrier_of, is_number}
use Rattle.held_requests.specs.Keys.{cut_first, first_key}
use Rattle.held_requests.specs.Kept.{has, is_of, is_at_barrier}
use Rattle.held_requests.specs.Waits.{clients_of}
use Rattle.held_requests.proofs.Cuts.{none_true}

-- what keys have after a change elsewhere
module _ (g h : ℕ → Option Asked) where
  abbrev pub Agree : List ℕ → Type 0
  Agree keys = AllByRecursion (λ k. h k ≡ g k) keys

  pub agree_others : (key : ℕ) → ((k : ℕ) → k ≢ key → h k ≡ g k) → (keys : List ℕ) → has key keys ≡ false → Agree keys
  agree_others key others [] none = tt
  agree_others key others (k ∷ ks) none =
      let l = none_true (k == key) (has key ks) none in
      (others k (λ same. differs same l.0), agree_others key others ks l.1)
    where
      differs : k ≡ key → (k == key) ≡ false → ⊥
      differs same off = let on : (k == key) ≡ true = grind (arith, nat_tests) in let never : true ≡ false = sym on ∙ off in cc

  pub same_listed : (keys : List ℕ) → Agree keys → filter_map h keys ≡ filter_map g keys
  same_listed [] same = refl
  same_listed (k ∷ ks) same = λ i. cons_option (same.0 i) (same_listed ks same.1 i)

  pub same_filter : (t : Option Asked → Bool) (keys : List ℕ) → Agree keys → filter (λ k. t (h k)) keys ≡ filter (λ k. t (g k)) keys
  same_filter t [] same = refl
  same_filter t (k ∷ ks) same = λ i. cond (t (same.0 i)) (k ∷ same_filter t ks same.1 i) (same_filter t ks same.1 i)

  pub same_there : (keys : List ℕ) → Agree keys → AllByRecursion (λ k. IsSome (g k)) keys → AllByRecursion (λ k. IsSome (h k)) keys
  same_there [] same there = tt
  same_there (k ∷ ks) same there = (subst IsSome (sym same.0) there.0, same_there ks same.1 there.1)

nothing : IsSome {T = Asked} None → ⊥
nothing some = cc

pub none_left : (waiting : List Asked) (n : ℕ) → n ≡ length waiting → (n == 0) ≡ is_empty waiting
none_left [] n is = grind (arith, nat_tests)
none_left (a ∷ waiting) n is = grind (arith, nat_tests)

module _ (g : ℕ → Option Asked) where
  -- a key without a request isn't among those that have one
  pub vacant : (key : ℕ) (keys : List ℕ) → g key ≡ None → AllByRecursion (λ k. IsSome (g k)) keys → has key keys ≡ false
  vacant key [] none there = refl
  vacant key (k ∷ ks) none there = λ i. (off (k == key) refl i || vacant key ks none there.1 i)
    where
      off : (b : Bool) → (k == key) ≡ b → b ≡ false
      off true same = absurd (nothing (subst IsSome (ap g (eqb-true k key same) ∙ none) there.0))
      off false same = refl

  pub as_many : (keys : List ℕ) → AllByRecursion (λ k. IsSome (g k)) keys → length (filter_map g keys) ≡ length keys
  as_many [] there = refl
  as_many (k ∷ ks) there = go (g k) there.0 (as_many ks there.1)
    where
      go : (o : Option Asked) → IsSome o → length (filter_map g ks) ≡ length ks → length (cons_option o (filter_map g ks)) ≡ suc (length ks)
      go None some rest = absurd (nothing some)
      go (Some a) some rest = ap suc rest

  abbrev pub under : Option ℕ → Option Asked
  under None = None
  under (Some key) = g key

  -- the clients, one key further
  pub one_client : (made : List ℕ) (key : ℕ) (keys : List ℕ) (whole : List ℕ) (a : Asked) → g key ≡ Some a → made ++ clients_of (filter_map g (key ∷ keys)) ≡ whole → (made ++ a.client ∷ []) ++ clients_of (filter_map g keys) ≡ whole
  one_client made key keys whole a is so_far =
      append_assoc made (a.client ∷ []) (clients_of (filter_map g keys))
      ∙ sym (ap (λ (o : Option Asked). made ++ clients_of (cons_option o (filter_map g keys))) is)
      ∙ so_far

  pub no_client : (made : List ℕ) (key : ℕ) (keys : List ℕ) (whole : List ℕ) → g key ≡ None → made ++ clients_of (filter_map g (key ∷ keys)) ≡ whole → made ++ clients_of (filter_map g keys) ≡ whole
  no_client made key keys whole is so_far = sym (ap (λ (o : Option Asked). made ++ clients_of (cons_option o (filter_map g keys))) is) ∙ so_far

  -- one client's
  module _ (client : ℕ) where
    abbrev pub own : ℕ → Bool
    own k = is_of client (g k)

    pub listed_cut : (keys : List ℕ) → filter_map g (cut_first own keys) ≡ cut_first (of_client client) (filter_map g keys)
    listed_cut [] = refl
    listed_cut (k ∷ ks) = go (g k) refl (listed_cut ks)
      where
        by_test : (a : Asked) (b : Bool) → g k ≡ Some a → filter_map g (cut_first own ks) ≡ cut_first (of_client client) (filter_map g ks) → filter_map g (cond b ks (k ∷ cut_first own ks)) ≡ cond b (filter_map g ks) (a ∷ cut_first (of_client client) (filter_map g ks))
        by_test a true is rest = refl
        by_test a false is rest = λ i. cons_option (is i) (rest i)

        go : (o : Option Asked) → g k ≡ o → filter_map g (cut_first own ks) ≡ cut_first (of_client client) (filter_map g ks) → filter_map g (cond (is_of client o) ks (k ∷ cut_first own ks)) ≡ cut_first (of_client client) (cons_option o (filter_map g ks))
        go None is rest = λ i. cons_option (is i) (rest i)
        go (Some a) is rest = by_test a (of_client client a) is rest

    pub listed_first : (keys : List ℕ) → first_of (filter (of_client client) (filter_map g keys)) ≡ under (first_key (filter own keys))
    listed_first [] = refl
    listed_first (k ∷ ks) = go (g k) refl (listed_first ks)
      where
        by_test : (a : Asked) (b : Bool) → g k ≡ Some a → first_of (filter (of_client client) (filter_map g ks)) ≡ under (first_key (filter own ks)) → first_of (cond b (a ∷ filter (of_client client) (filter_map g ks)) (filter (of_client client) (filter_map g ks))) ≡ under (first_key (cond b (k ∷ filter own ks) (filter own ks)))
        by_test a true is rest = sym is
        by_test a false is rest = rest

        go : (o : Option Asked) → g k ≡ o → first_of (filter (of_client client) (filter_map g ks)) ≡ under (first_key (filter own ks)) → first_of (filter (of_client client) (cons_option o (filter_map g ks))) ≡ under (first_key (cond (is_of client o) (k ∷ filter own ks) (filter own ks)))
        go None is rest = rest
        go (Some a) is rest = by_test a (of_client client a) is rest

    pub listed_any : (number : ℕ) (keys : List ℕ) → list_any (λ k. is_at_barrier number (g k)) (filter own keys) ≡ list_any (λ (a : Asked). of_client client a && is_number number (barrier_of a.request)) (filter_map g keys)
    listed_any number [] = refl
    listed_any number (k ∷ ks) = go (g k) refl (listed_any number ks)
      where
        by_test : (a : Asked) (b : Bool) → g k ≡ Some a → list_any (λ k. is_at_barrier number (g k)) (filter own ks) ≡ list_any (λ (a : Asked). of_client client a && is_number number (barrier_of a.request)) (filter_map g ks) → list_any (λ k. is_at_barrier number (g k)) (cond b (k ∷ filter own ks) (filter own ks)) ≡ ((b && is_number number (barrier_of a.request)) || list_any (λ (a : Asked). of_client client a && is_number number (barrier_of a.request)) (filter_map g ks))
        by_test a true is rest = λ i. (is_at_barrier number (is i) || rest i)
        by_test a false is rest = rest

        go : (o : Option Asked) → g k ≡ o → list_any (λ k. is_at_barrier number (g k)) (filter own ks) ≡ list_any (λ (a : Asked). of_client client a && is_number number (barrier_of a.request)) (filter_map g ks) → list_any (λ k. is_at_barrier number (g k)) (cond (is_of client o) (k ∷ filter own ks) (filter own ks)) ≡ list_any (λ (a : Asked). of_client client a && is_number number (barrier_of a.request)) (cons_option o (filter_map g ks))
        go None is rest = rest
        go (Some a) is rest = by_test a (of_client client a) is rest

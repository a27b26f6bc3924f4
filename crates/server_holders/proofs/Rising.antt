-- Rising lists of clients with the same members are the same.
use Rattle.std.proofs.Common.{◌≡◌, ℕ, zero, suc, ◌+◌, ◌<◌, ◌≤◌, Bool, true, false, ◌||◌, ◌&&◌, ◌==◌, cond, nat_lt, nat_le, List, [], ◌∷◌, ◌++◌, map, filter, refl, sym, ap, subst, ◌∙◌, arith}
use Rattle.std.specs.List.{list_any, AllByRecursion}
use Rattle.std.proofs.lemmas.Bool.{eqb-true}
use Rattle.std.proofs.lemmas.Bool.Decides.{nat_tests}
use Rattle.std.proofs.lemmas.List.Elements.{filter-append}
use Rattle.std.proofs.lemmas.List.Folds.{list_any-append}
use Rattle.std.proofs.lemmas.Map.Views.{any-filter_same}
use Rattle.snap_ids.specs.declared.id.Ino.{Ino}
use Rattle.cap_state.specs.Table.{Holding, is_of, MayPrecede, IsTable}
use Rattle.cap_state.proofs.Lists.{all_weaker, all_join}
use Rattle.step_table.specs.ServerState.{up_to}
use Rattle.server_holders.proofs.Any.{or_false, any_map}

-- each is below those behind it
abbrev pub Rises : List ℕ → Type 0
Rises [] = Unit {0}
Rises (x ∷ xs) = AllByRecursion (λ y. x < y) xs × Rises xs

abbrev pub has : ℕ → List ℕ → Bool
has c xs = list_any (λ x. x == c) xs

low : (x c : ℕ) (xs : List ℕ) → AllByRecursion (λ y. x < y) xs → has c xs ≡ true → x < c
low x c [] above is = cc
low x c (y ∷ ys) above is = go (y == c) refl is (low x c ys above.1)
  where
    go : (b : Bool) → (y == c) ≡ b → (b || has c ys) ≡ true → (has c ys ≡ true → x < c) → x < c
    go true same is rest = let first = above.0 in grind (arith, nat_tests)
    go false same is rest = rest is

itself : (x : ℕ) (xs : List ℕ) → has x (x ∷ xs) ≡ true
itself x xs = let same : (x == x) ≡ true = grind (arith, nat_tests) in ap (λ b. b || has x xs) same

-- the first of one is at most that of the other
at_most : (x y : ℕ) (ys : List ℕ) → AllByRecursion (λ z. y < z) ys → has x (y ∷ ys) ≡ true → y ≤ x
at_most x y ys above is = go (y == x) refl is
  where
    go : (b : Bool) → (y == x) ≡ b → (b || has x ys) ≡ true → y ≤ x
    go true same is = grind (arith, nat_tests)
    go false same is = omega (arith, low y x ys above is)

not_low : (x : ℕ) (xs : List ℕ) → AllByRecursion (λ y. x < y) xs → (b : Bool) → has x xs ≡ b → b ≡ false
not_low x xs above true is = absurd (omega (arith, low x x xs above is))
not_low x xs above false is = refl

behind : (c x : ℕ) (xs ys : List ℕ) → AllByRecursion (λ y. x < y) xs → AllByRecursion (λ y. x < y) ys → has c (x ∷ xs) ≡ has c (x ∷ ys) → has c xs ≡ has c ys
behind c x xs ys above above_too same = go (x == c) refl same
  where
    go : (b : Bool) → (x == c) ≡ b → (b || has c xs) ≡ (b || has c ys) → has c xs ≡ has c ys
    go true is same = subst (λ (n : ℕ). has n xs ≡ has n ys) (eqb-true x c is) (not_low x xs above (has x xs) refl ∙ sym (not_low x ys above_too (has x ys) refl))
    go false is same = same

pub same_rising : (xs ys : List ℕ) → Rises xs → Rises ys → ((c : ℕ) → has c xs ≡ has c ys) → xs ≡ ys
same_rising [] [] rises rises_too same = refl
same_rising [] (y ∷ ys) rises rises_too same = let never : false ≡ true = same y ∙ itself y ys in cc
same_rising (x ∷ xs) [] rises rises_too same = let never : true ≡ false = sym (itself x xs) ∙ same x in cc
same_rising (x ∷ xs) (y ∷ ys) rises rises_too same =
    let first : x ≡ y = omega (arith, at_most x y ys rises_too.0 (sym (same x) ∙ itself x xs), at_most y x xs rises.0 (same y ∙ itself y ys)) in
    let above : AllByRecursion (λ z. x < z) ys = subst (λ (n : ℕ). AllByRecursion (λ z. n < z) ys) (sym first) rises_too.0 in
    let rest : xs ≡ ys = same_rising xs ys rises.1 rises_too.1 (λ c. behind c x xs ys rises.0 above (same c ∙ ap (λ n. has c (n ∷ ys)) (sym first))) in
    λ i. first i ∷ rest i

-- the clients that pass a test
rises_end : (xs : List ℕ) (y : ℕ) → Rises xs → AllByRecursion (λ x. x < y) xs → Rises (xs ++ y ∷ [])
rises_end [] y rises below = (tt, tt)
rises_end (x ∷ xs) y rises below = (all_join (λ z. x < z) xs y [] rises.0 below.0 tt, rises_end xs y rises.1 below.1)

one_end : (xs : List ℕ) (n : ℕ) (b : Bool) → Rises xs × AllByRecursion (λ x. x ≤ n) xs → Rises (xs ++ cond b ((n + 1) ∷ []) []) × AllByRecursion (λ x. x ≤ suc n) (xs ++ cond b ((n + 1) ∷ []) [])
one_end xs n true all = (
  rises_end xs (n + 1) all.0 (all_weaker (λ x. x ≤ n) (λ x. x < n + 1) (λ x upto. omega (arith, upto)) xs all.1),
  all_join (λ x. x ≤ suc n) xs (n + 1) [] (all_weaker (λ x. x ≤ n) (λ x. x ≤ suc n) (λ x upto. omega (arith, upto)) xs all.1) (omega arith) tt,
)
one_end xs n false all =
    let none : xs ++ [] ≡ xs = nothing xs in
    subst (λ (ys : List ℕ). Rises ys × AllByRecursion (λ x. x ≤ suc n) ys) (sym none)
    (all.0, all_weaker (λ x. x ≤ n) (λ x. x ≤ suc n) (λ x upto. omega (arith, upto)) xs all.1)
  where
    nothing : (xs : List ℕ) → xs ++ [] ≡ xs
    nothing [] = refl
    nothing (x ∷ xs) = ap (λ ys. x ∷ ys) (nothing xs)

passing : (p : ℕ → Bool) (n : ℕ) → Rises (filter p (up_to n)) × AllByRecursion (λ x. x ≤ n) (filter p (up_to n))
passing p zero = (tt, tt)
passing p (suc n) =
    subst (λ (xs : List ℕ). Rises xs × AllByRecursion (λ x. x ≤ suc n) xs) (sym (filter-append p (up_to n) ((n + 1) ∷ [])))
    (one_end (filter p (up_to n)) n (p (n + 1)) (passing p n))

pub passing_rise : (p : ℕ → Bool) (n : ℕ) → Rises (filter p (up_to n))
passing_rise p n = (passing p n).0

has_upto : (c n : ℕ) → has c (up_to n) ≡ (nat_lt 0 c && nat_le c n)
has_upto c zero = none c
  where
    none : (c : ℕ) → false ≡ (nat_lt 0 c && nat_le c 0)
    none c = go (nat_lt 0 c) (nat_le c 0) refl refl
      where
        go : (a b : Bool) → nat_lt 0 c ≡ a → nat_le c 0 ≡ b → false ≡ (a && b)
        go true true l k = absurd (grind (arith, nat_tests))
        go true false l k = refl
        go false b l k = refl
has_upto c (suc n) =
    list_any-append (λ x. x == c) (up_to n) ((n + 1) ∷ [])
    ∙ (λ i. (has_upto c n i || or_false ((n + 1) == c) i))
    ∙ go (nat_lt 0 c) (nat_le c n) ((n + 1) == c) (nat_le c (suc n)) refl refl refl refl
  where
    go : (a b d e : Bool) → nat_lt 0 c ≡ a → nat_le c n ≡ b → ((n + 1) == c) ≡ d → nat_le c (suc n) ≡ e → ((a && b) || d) ≡ (a && e)
    go true true d true l k m o = refl
    go true true d false l k m o = absurd (grind (arith, nat_tests))
    go true false true true l k m o = refl
    go true false true false l k m o = absurd (grind (arith, nat_tests))
    go true false false true l k m o = absurd (grind (arith, nat_tests))
    go true false false false l k m o = refl
    go false b true e l k m o = absurd (grind (arith, nat_tests))
    go false b false e l k m o = refl

pub has_passing : (p : ℕ → Bool) (c n : ℕ) → has c (filter p (up_to n)) ≡ (p c && (nat_lt 0 c && nat_le c n))
has_passing p c n = any-filter_same (λ x. x == c) p (p c) (λ x is. ap p (eqb-true x c is)) (up_to n) ∙ ap (λ b. p c && b) (has_upto c n)

-- the clients in a table's holdings of one file
pub table_rises : (ino : Ino) (held : List Holding) → IsTable held → AllByRecursion (λ h. is_of ino h ≡ true) held → Rises (map (λ (h : Holding). h.0) held)
table_rises ino [] table all = tt
table_rises ino (h ∷ held) table all = (later h all.0 held table.0 all.1, table_rises ino held table.1 all.1)
  where
    below : (g h : Holding) → is_of ino g ≡ true → is_of ino h ≡ true → MayPrecede g h → g.0 < h.0
    below g h here here_too order = let before = order.before in grind (arith, nat_tests)

    later : (g : Holding) → is_of ino g ≡ true → (held : List Holding) → AllByRecursion (MayPrecede g) held → AllByRecursion (λ h. is_of ino h ≡ true) held → AllByRecursion (λ c. g.0 < c) (map (λ (h : Holding). h.0) held)
    later g here [] order all = tt
    later g here (h ∷ held) order all = (below g h here all.0 order.0, later g here held order.1 all.1)

pub has_client : (c : ℕ) (held : List Holding) → has c (map (λ (h : Holding). h.0) held) ≡ list_any (λ (h : Holding). h.0 == c) held
has_client c held = any_map (λ x. x == c) (λ (h : Holding). h.0) held

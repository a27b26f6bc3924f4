-- Lists of holders in which no two clash, and what is true of each of them.
use Rattle.std.proofs.Common.{◌≡◌, ℕ, List, [], ◌∷◌, ◌++◌, map, Bool, true, false, cond, refl, ◌∙◌, arith}
use Rattle.std.proofs.lemmas.List.Folds.{list_any-append}
use Rattle.std.proofs.lemmas.Bool.Decides.{nat_tests}
use Rattle.std.specs.Prelude.{◌||◌, ◌&&◌, ◌==◌, filter}
use Rattle.std.specs.List.{list_any, list_all}
use Rattle.snap_ids.specs.declared.id.Ino.{Ino}
use Rattle.snap_ids.specs.declared.id.SnapId.{SnapId}
use Rattle.snap_ids.specs.declared.values.Mode.TheVariants.{Write}
use Rattle.held_files.specs.Files.{is_write}
use Rattle.step_table.specs.ServerState.{Holder}
use Rattle.step_table.specs.Capabilities.{OneWriter, clash, is_against}
use Rattle.step_table.specs.Acts.{raised}

pub neither : (a b : Bool) → (a || b) ≡ false → (a ≡ false) × (b ≡ false)
neither true b none = cc
neither false b none = (refl, none)

pub both : (a b : Bool) → (a && b) ≡ true → (a ≡ true) × (b ≡ true)
both true b is = (refl, is)
both false b is = cc

same_sym : (m n : ℕ) → (m == n) ≡ (n == m)
same_sym m n = grind (arith, nat_tests)

or_sym : (a b c : Bool) → (a || b || c) ≡ (b || a || c)
or_sym true true c = refl
or_sym true false c = refl
or_sym false true c = refl
or_sym false false c = refl

clash_sym : (g h : Holder) → clash g h ≡ clash h g
clash_sym g h = rw (same_sym g.ino.0 h.ino.0, same_sym g.client h.client, or_sym (is_write g.mode) (is_write h.mode) (h.client == g.client)) refl

pub one_append : (holders : List Holder) (h : Holder) → OneWriter holders → list_any (clash h) holders ≡ false → OneWriter (holders ++ h ∷ [])
one_append [] h one none = (refl, tt)
one_append (g ∷ holders) h one none =
    let parts : (clash h g ≡ false) × (list_any (clash h) holders ≡ false) = neither (clash h g) (list_any (clash h) holders) none in
    let with_new : list_any (clash g) (holders ++ h ∷ []) ≡ false = list_any-append (clash g) holders (h ∷ []) ∙ rw (one.0, clash_sym g h, parts.0) refl in
    (with_new, one_append holders h one.1 parts.1)

any_filter : (test p : Holder → Bool) (holders : List Holder) → list_any p holders ≡ false → list_any p (filter test holders) ≡ false
any_filter test p [] none = refl
any_filter test p (h ∷ holders) none =
    let parts : (p h ≡ false) × (list_any p holders ≡ false) = neither (p h) (list_any p holders) none in
    let rest : list_any p (filter test holders) ≡ false = any_filter test p holders parts.1 in
    elim (test h) as (λ b. list_any p (cond b (h ∷ filter test holders) (filter test holders)) ≡ false) [ true ↦ rw (parts.0, rest) refl | false ↦ rest ]

pub one_filter : (test : Holder → Bool) (holders : List Holder) → OneWriter holders → OneWriter (filter test holders)
one_filter test [] one = tt
one_filter test (h ∷ holders) one = elim (test h) as (λ b. OneWriter (cond b (h ∷ filter test holders) (filter test holders))) [
  | true ↦ (any_filter test (clash h) holders one.0, one_filter test holders one.1)
  | false ↦ one_filter test holders one.1
]

-- holders are changed so that two that didn't clash don't clash, if none of them is r
abbrev Harmless : (Holder → Holder) → (Holder → Bool) → Type 0
Harmless f r = (h g : Holder) → r h ≡ false → r g ≡ false → clash h g ≡ false → clash (f h) (f g) ≡ false

any_map : (f : Holder → Holder) (r : Holder → Bool) → Harmless f r → (h : Holder) (holders : List Holder) → r h ≡ false → list_any r holders ≡ false → list_any (clash h) holders ≡ false → list_any (clash (f h)) (map f holders) ≡ false
any_map f r harmless h [] not_h no_r none = refl
any_map f r harmless h (g ∷ holders) not_h no_r none =
    let rs : (r g ≡ false) × (list_any r holders ≡ false) = neither (r g) (list_any r holders) no_r in
    let parts : (clash h g ≡ false) × (list_any (clash h) holders ≡ false) = neither (clash h g) (list_any (clash h) holders) none in
    rw (harmless h g not_h rs.0 parts.0) (any_map f r harmless h holders not_h rs.1 parts.1)

one_map : (f : Holder → Holder) (r : Holder → Bool) → Harmless f r → (holders : List Holder) → list_any r holders ≡ false → OneWriter holders → OneWriter (map f holders)
one_map f r harmless [] no_r one = tt
one_map f r harmless (h ∷ holders) no_r one =
    let rs : (r h ≡ false) × (list_any r holders ≡ false) = neither (r h) (list_any r holders) no_r in
    (any_map f r harmless h holders rs.0 rs.1 one.0, one_map f r harmless holders rs.1 one.1)

any_none : (holders : List Holder) → list_any (λ (h : Holder). false) holders ≡ false
any_none [] = refl
any_none (h ∷ holders) = any_none holders

-- a change of what no clash looks at
pub one_same : (f : Holder → Holder) → ((h g : Holder) → clash (f h) (f g) ≡ clash h g) → (holders : List Holder) → OneWriter holders → OneWriter (map f holders)
one_same f same holders one = one_map f (λ (h : Holder). false) (λ h g _ _ none. same h g ∙ none) holders (any_none holders) one

-- of two holders of which none is against the raise, none clashes after it
raise_harmless : (c : ℕ) (ino : Ino) (upto : SnapId) → Harmless (raised c ino upto) (is_against c ino Write)
raise_harmless c ino upto h g not_h not_g none = grind (arith, nat_tests)

pub one_raised : (client : ℕ) (ino : Ino) (upto : SnapId) (holders : List Holder) → list_any (is_against client ino Write) holders ≡ false → OneWriter holders → OneWriter (map (raised client ino upto) holders)
one_raised client ino upto holders none one = one_map (raised client ino upto) (is_against client ino Write) (raise_harmless client ino upto) holders none one

-- what is true of each
pub all_append : (p : Holder → Bool) (holders : List Holder) (h : Holder) → list_all p holders ≡ true → p h ≡ true → list_all p (holders ++ h ∷ []) ≡ true
all_append p [] h all is = rw is refl
all_append p (g ∷ holders) h all is = let l = both (p g) (list_all p holders) all in rw (l.0, all_append p holders h l.1 is) refl

pub all_filter : (p test : Holder → Bool) (holders : List Holder) → list_all p holders ≡ true → list_all p (filter test holders) ≡ true
all_filter p test [] all = refl
all_filter p test (h ∷ holders) all =
    let l = both (p h) (list_all p holders) all in
    let rest : list_all p (filter test holders) ≡ true = all_filter p test holders l.1 in
    elim (test h) as (λ b. list_all p (cond b (h ∷ filter test holders) (filter test holders)) ≡ true) [ true ↦ rw (l.0, rest) refl | false ↦ rest ]

pub all_map : (p : Holder → Bool) (f : Holder → Holder) → ((h : Holder) → p (f h) ≡ p h) → (holders : List Holder) → list_all p holders ≡ true → list_all p (map f holders) ≡ true
all_map p f same [] all = refl
all_map p f same (h ∷ holders) all = let l = both (p h) (list_all p holders) all in rw (same h, l.0, all_map p f same holders l.1) refl

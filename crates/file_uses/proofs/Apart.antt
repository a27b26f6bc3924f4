-- Handles stay apart, and what a handle less or one more leaves open.
use Rattle.std.proofs.Common.{◌≡◌, ℕ, Bool, true, false, not, ◌==◌, ◌&&◌, ◌||◌, List, [], ◌∷◌, ◌++◌, filter, find, None, Some, refl, sym, ap, subst, ◌∙◌, arith}
use Rattle.std.proofs.lemmas.Bool.Decides.{nat_tests}
use Rattle.plain_tree.specs.State.{Handle}
use Rattle.plain_tree.specs.Change.{is_handle, open_of}
use Rattle.file_uses.specs.Handles.{is_open, without_handle, AreApart}

-- a search among more
module _ {X : Type 0} (p : X → Bool) where
  last_found : (b : Bool) (y : X) (xs : List X) (x : X) → p y ≡ b → find p (y ∷ xs) ≡ None → p x ≡ false → (find p xs ≡ None → find p (xs ++ x ∷ []) ≡ None) → find p (y ∷ (xs ++ x ∷ [])) ≡ None
  last_found true y xs x is none off rest = absurd (let no : Some y ≡ None = sym (rw is refl) ∙ none in cc)
  last_found false y xs x is none off rest = rw is (rest (sym (rw is refl) ∙ none))

  none_more : (xs : List X) (x : X) → find p xs ≡ None → p x ≡ false → find p (xs ++ x ∷ []) ≡ None
  none_more [] x none off = rw off refl
  none_more (y ∷ xs) x none off = last_found (p y) y xs x refl none off (λ h. none_more xs x h off)

  -- a search that fails fails among those that a filter keeps
  kept_none : (q : X → Bool) (a b : Bool) (y : X) (xs : List X) → p y ≡ a → q y ≡ b → find p (y ∷ xs) ≡ None → (find p xs ≡ None → find p (filter q xs) ≡ None) → find p (filter q (y ∷ xs)) ≡ None
  kept_none q true b y xs is keeps none rest = absurd (let no : Some y ≡ None = sym (rw is refl) ∙ none in cc)
  kept_none q false true y xs is keeps none rest = rw keeps (rw is (rest (sym (rw is refl) ∙ none)))
  kept_none q false false y xs is keeps none rest = rw keeps (rest (sym (rw is refl) ∙ none))

  pub none_kept : (q : X → Bool) (xs : List X) → find p xs ≡ None → find p (filter q xs) ≡ None
  none_kept q [] none = refl
  none_kept q (y ∷ xs) none = kept_none q (p y) (q y) y xs refl refl none (λ h. none_kept q xs h)

  -- where a search fails, what doesn't pass is all
  all_stay : (b : Bool) (y : X) (xs : List X) → p y ≡ b → find p (y ∷ xs) ≡ None → (find p xs ≡ None → filter (λ x. not (p x)) xs ≡ xs) → filter (λ x. not (p x)) (y ∷ xs) ≡ y ∷ xs
  all_stay true y xs is none rest = absurd (let no : Some y ≡ None = sym (rw is refl) ∙ none in cc)
  all_stay false y xs is none rest = rw is (ap (λ ys. y ∷ ys) (rest (sym (rw is refl) ∙ none)))

  pub none_passes : (xs : List X) → find p xs ≡ None → filter (λ x. not (p x)) xs ≡ xs
  none_passes [] none = refl
  none_passes (y ∷ xs) none = all_stay (p y) y xs refl none (λ h. none_passes xs h)

  -- where a search fails, the first doesn't pass
  first_off : (b : Bool) (y : X) (xs : List X) → p y ≡ b → find p (y ∷ xs) ≡ None → (p y ≡ false) × (find p xs ≡ None)
  first_off true y xs is none = absurd (let no : Some y ≡ None = sym (rw is refl) ∙ none in cc)
  first_off false y xs is none = (is, sym (rw is refl) ∙ none)

  pub none_first : (y : X) (xs : List X) → find p (y ∷ xs) ≡ None → (p y ≡ false) × (find p xs ≡ None)
  none_first y xs none = first_off (p y) y xs refl none

-- the same handle, seen from the other one
turned : (a b c d : ℕ) → ((a == c) && (b == d)) ≡ false → ((c == a) && (d == b)) ≡ false
turned a b c d off = grind (arith, nat_tests)

-- one more handle stays apart from the others
pub apart_more : (handles : List Handle) (new : Handle) → open_of handles new.client new.handle ≡ None → AreApart handles → AreApart (handles ++ new ∷ [])
apart_more [] new none apart = (refl, tt)
apart_more (opened ∷ handles) new none apart =
    let off = none_first (is_handle new.client new.handle) opened handles none in
    (none_more (is_handle opened.client opened.handle) handles new apart.0 (turned opened.client opened.handle new.client new.handle off.0), apart_more handles new off.1 apart.1)

-- so do those that a filter keeps
one_apart : (q : Handle → Bool) (b : Bool) (opened : Handle) (handles : List Handle) → q opened ≡ b → open_of handles opened.client opened.handle ≡ None → AreApart (filter q handles) → AreApart (filter q (opened ∷ handles))
one_apart q true opened handles keeps none rest = rw keeps (none_kept (is_handle opened.client opened.handle) q handles none, rest)
one_apart q false opened handles keeps none rest = rw keeps rest

pub apart_kept : (q : Handle → Bool) (handles : List Handle) → AreApart handles → AreApart (filter q handles)
apart_kept q [] apart = tt
apart_kept q (opened ∷ handles) apart = one_apart q (q opened) opened handles refl apart.0 (apart_kept q handles apart.1)

-- files other than the one of the new handle stay as they were, and that one is open
pub open_more : (handles : List Handle) (new : Handle) (ino : ℕ) → (new.ino.0 == ino) ≡ false → is_open (handles ++ new ∷ []) ino ≡ is_open handles ino
open_more [] new ino off = rw off refl
open_more (opened ∷ handles) new ino off = ap (λ b. (opened.ino.0 == ino) || b) (open_more handles new ino off)

or_true : (a b : Bool) → b ≡ true → (a || b) ≡ true
or_true true b is = refl
or_true false b is = is

itself : (n : ℕ) → (n == n) ≡ true
itself n = grind arith

pub open_new : (handles : List Handle) (new : Handle) → is_open (handles ++ new ∷ []) new.ino.0 ≡ true
open_new [] new = rw (itself new.ino.0) refl
open_new (opened ∷ handles) new = or_true (opened.ino.0 == new.ino.0) _ (open_new handles new)

-- a file under a handle is open
found_open : (b : Bool) (p : Handle → Bool) (opened : Handle) (handles : List Handle) (found : Handle) → p opened ≡ b → find p (opened ∷ handles) ≡ Some found → (find p handles ≡ Some found → is_open handles found.ino.0 ≡ true) → is_open (opened ∷ handles) found.ino.0 ≡ true
found_open true p opened handles found is at rest =
    let same : opened ≡ found = let some : Some opened ≡ Some found = sym (rw is refl) ∙ at in cc in
    subst (λ (h : Handle). is_open (opened ∷ handles) h.ino.0 ≡ true) same (rw (itself opened.ino.0) refl)
found_open false p opened handles found is at rest = or_true (opened.ino.0 == found.ino.0) _ (rest (sym (rw is refl) ∙ at))

pub open_found : (p : Handle → Bool) (handles : List Handle) (found : Handle) → find p handles ≡ Some found → is_open handles found.ino.0 ≡ true
open_found p [] found at = cc
open_found p (opened ∷ handles) found at = found_open (p opened) p opened handles found refl at (λ h. open_found p handles found h)

-- files other than the one of the closed handle stay as they were
parts : (client handle : ℕ) (opened : Handle) → is_handle client handle opened ≡ true → (opened.client ≡ client) × (opened.handle ≡ handle)
parts client handle opened is = (grind (arith, nat_tests), grind (arith, nat_tests))

pub swapped : (a b : ℕ) → (a == b) ≡ false → (b == a) ≡ false
swapped a b off = grind (arith, nat_tests)

module _ (client handle : ℕ) (closed : Handle) (ino : ℕ) (off : (ino == closed.ino.0) ≡ false) where
  one_closed : (b : Bool) (opened : Handle) (handles : List Handle) → is_handle client handle opened ≡ b → AreApart (opened ∷ handles) → open_of (opened ∷ handles) client handle ≡ Some closed → (open_of handles client handle ≡ Some closed → is_open (without_handle client handle handles) ino ≡ is_open handles ino) → is_open (without_handle client handle (opened ∷ handles)) ino ≡ is_open (opened ∷ handles) ino
  one_closed true opened handles is apart at rest =
      let same : opened ≡ closed = let some : Some opened ≡ Some closed = sym (rw is refl) ∙ at in cc in
      let it = parts client handle opened is in
      let none : open_of handles client handle ≡ None = subst (λ c. open_of handles c handle ≡ None) it.0 (subst (λ h. open_of handles opened.client h ≡ None) it.1 apart.0) in
      let away : (opened.ino.0 == ino) ≡ false = swapped ino opened.ino.0 (subst (λ (h : Handle). (ino == h.ino.0) ≡ false) (sym same) off) in
      let first : without_handle client handle (opened ∷ handles) ≡ without_handle client handle handles = rw is refl in
      ap (λ hs. is_open hs ino) (first ∙ none_passes (is_handle client handle) handles none) ∙ ap (λ b. b || is_open handles ino) (sym away)
  one_closed false opened handles is apart at rest =
      let first : without_handle client handle (opened ∷ handles) ≡ opened ∷ without_handle client handle handles = rw is refl in
      ap (λ hs. is_open hs ino) first ∙ ap (λ b. (opened.ino.0 == ino) || b) (rest (sym (rw is refl) ∙ at))

  pub others_open : (handles : List Handle) → AreApart handles → open_of handles client handle ≡ Some closed → is_open (without_handle client handle handles) ino ≡ is_open handles ino
  others_open [] apart at = refl
  others_open (opened ∷ handles) apart at = one_closed (is_handle client handle opened) opened handles refl apart at (λ h. others_open handles apart.1 h)

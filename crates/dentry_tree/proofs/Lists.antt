-- What holds of each element of a part of a list.
use Rattle.std.proofs.Common.{ℕ, zero, suc, List, [], ◌∷◌, ◌++◌, length, take, drop, slice_get, ◌≡◌, refl, arith}
use Rattle.std.specs.List.{AllByRecursion, AllWithin}

-- of each up to a place
pub all_taken : {X : Type 0} (P : X → Type 0) (xs : List X) (i : ℕ) → AllWithin P xs 0 i → AllByRecursion P (take i xs)
all_taken P xs zero within = tt
all_taken P [] (suc i) within = tt
all_taken P (x ∷ xs) (suc i) within =
    (within 0 x (omega arith) (omega arith), all_taken P xs i (λ k d low high. within (suc k) d (omega arith) (omega arith)))

-- of each from a place on
pub all_dropped : {X : Type 0} (P : X → Type 0) (xs : List X) (i : ℕ) → AllWithin P xs i (length xs) → AllByRecursion P (drop i xs)
all_dropped P [] zero within = tt
all_dropped P [] (suc i) within = tt
all_dropped P (x ∷ xs) zero within =
    (within 0 x (omega arith) (omega arith), all_dropped P xs zero (λ k d low high. within (suc k) d (omega arith) (omega arith)))
all_dropped P (x ∷ xs) (suc i) within = all_dropped P xs i (λ k d low high. within (suc k) d (omega arith) (omega arith))

-- what holds of all holds of those from a place on
pub all_drop : {X : Type 0} (P : X → Type 0) (xs : List X) (i : ℕ) → AllByRecursion P xs → AllByRecursion P (drop i xs)
all_drop P xs zero all = all
all_drop P [] (suc i) all = tt
all_drop P (x ∷ xs) (suc i) all = all_drop P xs i all.1

-- what holds of all implies what follows from it
pub all_weaker : {X : Type 0} (P Q : X → Type 0) → ((x : X) → P x → Q x) → (xs : List X) → AllByRecursion P xs → AllByRecursion Q xs
all_weaker P Q weaker [] all = tt
all_weaker P Q weaker (x ∷ xs) all = (weaker x all.0, all_weaker P Q weaker xs all.1)

-- one more element between two parts
pub all_inserted : {X : Type 0} (P : X → Type 0) (front : List X) (x : X) (back : List X) → P x → AllByRecursion P (front ++ back) → AllByRecursion P (front ++ x ∷ back)
all_inserted P [] x back here all = (here, all)
all_inserted P (y ∷ front) x back here all = (all.0, all_inserted P front x back here all.1)

-- the element at a place is the first from there on
pub slice_get-drop : {X : Type 0} (xs : List X) (i : ℕ) → slice_get xs i ≡ slice_get (drop i xs) 0
slice_get-drop xs zero = refl
slice_get-drop [] (suc i) = refl
slice_get-drop (x ∷ xs) (suc i) = slice_get-drop xs i

-- what holds of all holds of those up to a place
pub all_take : {X : Type 0} (P : X → Type 0) (xs : List X) (i : ℕ) → AllByRecursion P xs → AllByRecursion P (take i xs)
all_take P xs zero all = tt
all_take P [] (suc i) all = tt
all_take P (x ∷ xs) (suc i) all = (all.0, all_take P xs i all.1)

-- what two facts that hold of all imply
pub all_both : {X : Type 0} (P Q R : X → Type 0) → ((x : X) → P x → Q x → R x) → (xs : List X) → AllByRecursion P xs → AllByRecursion Q xs → AllByRecursion R xs
all_both P Q R both [] all_p all_q = tt
all_both P Q R both (x ∷ xs) all_p all_q = (both x all_p.0 all_q.0, all_both P Q R both xs all_p.1 all_q.1)

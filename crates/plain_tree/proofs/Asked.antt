-- What a request is said to come to succeeds.
use Rattle.std.proofs.Common.{◌≡◌, ℕ, zero, suc, ◌-◌, List, [], ◌∷◌, length, take, Bool, true, false, Option, None, Some, Result, Ok, Err, refl, ap, ◌∙◌, subst, arith}
use Rattle.std.specs.Prelude.{◌||◌, ◌==◌, slice_get, if◌then◌else◌}
use Rattle.std.specs.List.{list_any}
use Rattle.std.proofs.lemmas.Bool.Decides.{nat_tests}
use Rattle.snap_ids.specs.declared.id.Ino.{Ino}
use Rattle.snap_ids.specs.declared.values.Kind.{Kind}
use Rattle.snap_ids.specs.declared.values.Kind.TheVariants.{Dir, File}
use Rattle.plain_types.specs.declared.answer.Refusal.{Refusal}
use Rattle.plain_types.specs.declared.answer.Refusal.TheVariants as refusal
use Rattle.plain_tree.specs.State.{Entry, same_ino, is_there, lookup, is_at}
use Rattle.plain_tree.specs.Walk.{walk}

pub same_number : (n : ℕ) → (n == n) ≡ true
same_number n = grind (arith, nat_tests)

pub or_true : (b : Bool) → (b || true) ≡ true
or_true true = refl
or_true false = refl

named_by : (e : Entry) (entries : List Entry) (dir : Ino) (name : List ℕ) (ino : Ino) → (lookup entries dir name ≡ Some ino → list_any (λ (x : Entry). same_ino x.ino ino) entries ≡ true) → (b : Bool) → (if b then Some e.ino else lookup entries dir name) ≡ Some ino → list_any (λ (x : Entry). same_ino x.ino ino) (e ∷ entries) ≡ true
named_by e entries dir name ino later true found = let same : e.ino ≡ ino = cc in rw (same, same_number ino.0) refl
named_by e entries dir name ino later false found = rw (later found) (or_true (same_ino e.ino ino))

-- an inode that a name has is there
named : (entries : List Entry) (dir : Ino) (name : List ℕ) (ino : Ino) → lookup entries dir name ≡ Some ino → list_any (λ (e : Entry). same_ino e.ino ino) entries ≡ true
named [] dir name ino is = cc
named (e ∷ entries) dir name ino is = named_by e entries dir name ino (named entries dir name ino) (is_at dir name e) is

pub named_there : (entries : List Entry) (dir : Ino) (name : List ℕ) (ino : Ino) → lookup entries dir name ≡ Some ino → is_there entries ino ≡ true
named_there entries dir name ino is = rw (named entries dir name ino is) (or_true _)

-- one step of a walk, with what is done at the inode that it leads to
abbrev after_step : Kind → Option Ino → (Ino → Result Ino Refusal) → Result Ino Refusal
after_step k found go_on = elim k [ File ↦ Err refusal.NotDir | Dir ↦ elim found [ None ↦ Err refusal.NoEntry | Some next ↦ go_on next ] ]

step : (kind : Ino → Kind) (entries : List Entry) (names : List (List ℕ)) (ino : Ino) (dir : Ino) (name : List ℕ) → ((next : Ino) → walk kind entries next names ≡ Ok ino → is_there entries next ≡ true → is_there entries ino ≡ true) → (k : Kind) (found : Option Ino) → lookup entries dir name ≡ found → after_step k found (λ next. walk kind entries next names) ≡ Ok ino → is_there entries ino ≡ true
step kind entries names ino dir name rest File found is walked = cc
step kind entries names ino dir name rest Dir None is walked = cc
step kind entries names ino dir name rest Dir (Some next) is walked = rest next walked (named_there entries dir name next is)

-- what a walk ends at is there, if it began at what is
pub walk_there : (kind : Ino → Kind) (entries : List Entry) (start : Ino) (names : List (List ℕ)) (ino : Ino) → walk kind entries start names ≡ Ok ino → is_there entries start ≡ true → is_there entries ino ≡ true
walk_there kind entries start [] ino walked there = let same : start ≡ ino = cc in subst (λ (x : Ino). is_there entries x ≡ true) same there
walk_there kind entries start (name ∷ names) ino walked there =
    step kind entries names ino start name (λ next. walk_there kind entries next names ino) (kind start) (lookup entries start name) refl walked

-- the last name of a walk is looked up in the directory to which the others lead
last_step : (kind : Ino → Kind) (entries : List Entry) (dir ino start : Ino) (name : List ℕ) → (k : Kind) (found : Option Ino) → lookup entries start name ≡ found → start ≡ dir → after_step k found (λ next. Ok next) ≡ Ok ino → lookup entries dir name ≡ Some ino
last_step kind entries dir ino start name File found is here walked = cc
last_step kind entries dir ino start name Dir None is here walked = cc
last_step kind entries dir ino start name Dir (Some next) is here walked = let same : next ≡ ino = cc in subst (λ (d : Ino). lookup entries d name ≡ Some ino) here (is ∙ ap Some same)

both_steps : (kind : Ino → Kind) (entries : List Entry) (front names : List (List ℕ)) (dir ino : Ino) (P : Type 0) → ((next : Ino) → walk kind entries next front ≡ Ok dir → walk kind entries next names ≡ Ok ino → P) → (k : Kind) (found : Option Ino) → after_step k found (λ next. walk kind entries next front) ≡ Ok dir → after_step k found (λ next. walk kind entries next names) ≡ Ok ino → P
both_steps kind entries front names dir ino P rest File found a b = cc
both_steps kind entries front names dir ino P rest Dir None a b = cc
both_steps kind entries front names dir ino P rest Dir (Some next) a b = rest next a b

last_at : (kind : Ino → Kind) (entries : List Entry) (start : Ino) (path : List (List ℕ)) (n : ℕ) (name : List ℕ) (dir ino : Ino) → length path ≡ suc n → slice_get path n ≡ Some name → walk kind entries start (take n path) ≡ Ok dir → walk kind entries start path ≡ Ok ino → lookup entries dir name ≡ Some ino
last_at kind entries start [] n name dir ino long is parent whole = absurd (omega (arith, long))
last_at kind entries start (only ∷ []) zero name dir ino long is parent whole =
    let this : only ≡ name = cc in let here : start ≡ dir = cc in
    last_step kind entries dir ino start name (kind start) (lookup entries start name) refl here (subst (λ (n : List ℕ). walk kind entries start (n ∷ []) ≡ Ok ino) this whole)
last_at kind entries start (only ∷ []) (suc n) name dir ino long is parent whole = absurd (omega (arith, long))
last_at kind entries start (first ∷ next ∷ more) zero name dir ino long is parent whole = absurd (omega (arith, long))
last_at kind entries start (first ∷ next ∷ more) (suc n) name dir ino long is parent whole =
    both_steps kind entries (take n (next ∷ more)) (next ∷ more) dir ino (lookup entries dir name ≡ Some ino)
    (λ there. last_at kind entries there (next ∷ more) n name dir ino (omega (arith, long)) is)
    (kind start) (lookup entries start first) parent whole

pub last_of_walk : (kind : Ino → Kind) (entries : List Entry) (start : Ino) (path : List (List ℕ)) (name : List ℕ) (dir ino : Ino) → slice_get path (length path - 1) ≡ Some name → walk kind entries start (take (length path - 1) path) ≡ Ok dir → walk kind entries start path ≡ Ok ino → lookup entries dir name ≡ Some ino
last_of_walk kind entries start [] name dir ino is parent whole = cc
last_of_walk kind entries start (first ∷ more) name dir ino is parent whole =
    last_at kind entries start (first ∷ more) (length (first ∷ more) - 1) name dir ino (omega arith) is parent whole

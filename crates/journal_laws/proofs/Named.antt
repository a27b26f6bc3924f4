-- How many names an inode has after a change.
use Rattle.std.proofs.Common.{◌≡◌, ℕ, ◌+◌, ◌≤◌, List, [], ◌∷◌, length, Bool, true, false, cond, Option, None, Some, refl, ap, ◌∙◌, arith}
use Rattle.std.specs.Prelude.{not, ◌==◌, if◌then◌else◌}
use Rattle.std.proofs.lemmas.Bool.{eqb-true}
use Rattle.std.proofs.lemmas.Bool.Decides.{nat_tests}
use Rattle.snap_ids.specs.declared.id.Ino.{Ino}
use Rattle.plain_tree.specs.State.{Entry, same_ino, lookup, is_at, add, precedes}
use Rattle.plain_tree.specs.Walk.{names_of}
use Rattle.plain_tree.specs.Change.{entry, without, renamed}

-- how many names an inode has
abbrev pub count : List Entry → Ino → ℕ
count entries x = length (names_of entries x)

same_number : (n : ℕ) → (n == n) ≡ true
same_number n = grind (arith, nat_tests)

-- one more where the test holds
abbrev pub one_if : Bool → ℕ
one_if b = if b then 1 else 0

count_more : (e : Entry) (entries : List Entry) (x : Ino) → count (e ∷ entries) x ≡ one_if (same_ino e.ino x) + count entries x
count_more e entries x = by_test (same_ino e.ino x)
  where
    by_test : (b : Bool) → length (cond b (e ∷ names_of entries x) (names_of entries x)) ≡ one_if b + count entries x
    by_test true = omega arith
    by_test false = omega arith

module _ (new e : Entry) (entries : List Entry) (x : Ino) (rest : count (add new entries) x ≡ one_if (same_ino new.ino x) + count entries x) where
  added : (b : Bool) → count (if b then new ∷ e ∷ entries else e ∷ add new entries) x ≡ one_if (same_ino new.ino x) + count (e ∷ entries) x
  added true = count_more new (e ∷ entries) x
  added false = omega (arith, count_more e (add new entries) x, count_more e entries x, rest)

-- an entry more is a name more of its inode
pub count_add : (new : Entry) (entries : List Entry) (x : Ino) → count (add new entries) x ≡ one_if (same_ino new.ino x) + count entries x
count_add new [] x = count_more new [] x
count_add new (e ∷ entries) x = added new e entries x (count_add new entries x) (precedes new e)

module _ (dir : Ino) (name : List ℕ) (e : Entry) (entries : List Entry) (x : Ino) where
  fewer : count (without dir name entries) x ≤ count entries x → (b : Bool) → count (cond (not b) (e ∷ without dir name entries) (without dir name entries)) x ≤ count (e ∷ entries) x
  fewer rest true = omega (arith, rest, count_more e entries x)
  fewer rest false = omega (arith, rest, count_more e entries x, count_more e (without dir name entries) x)

  taken : (lookup entries dir name ≡ Some x → 1 + count (without dir name entries) x ≤ count entries x) → count (without dir name entries) x ≤ count entries x → (b : Bool) → (if b then Some e.ino else lookup entries dir name) ≡ Some x → 1 + count (cond (not b) (e ∷ without dir name entries) (without dir name entries)) x ≤ count (e ∷ entries) x
  taken rest less true found =
      let same : e.ino ≡ x = cc in
      let one : one_if (same_ino e.ino x) ≡ 1 = rw same (ap one_if (same_number x.0)) in
      omega (arith, less, one, count_more e entries x)
  taken rest less false found = let later = rest found in omega (arith, later, count_more e entries x, count_more e (without dir name entries) x)

-- without one name no inode has more names
pub count_without : (dir : Ino) (name : List ℕ) (entries : List Entry) (x : Ino) → count (without dir name entries) x ≤ count entries x
count_without dir name [] x = omega arith
count_without dir name (e ∷ entries) x = fewer dir name e entries x (count_without dir name entries x) (is_at dir name e)

-- and the inode that had it has one less
pub count_taken : (dir : Ino) (name : List ℕ) (entries : List Entry) (x : Ino) → lookup entries dir name ≡ Some x → 1 + count (without dir name entries) x ≤ count entries x
count_taken dir name [] x found = cc
count_taken dir name (e ∷ entries) x found =
    taken dir name e entries x (count_taken dir name entries x) (count_without dir name entries x) (is_at dir name e) found

-- an inode under another name has as many names as before, and no other one has more
pub count_renamed : (found : Option Ino) (dir : Ino) (name : List ℕ) (to_dir : Ino) (to_name : List ℕ) (entries : List Entry) (x : Ino) → lookup entries dir name ≡ found → count (renamed found dir name to_dir to_name entries) x ≤ count entries x
count_renamed None dir name to_dir to_name entries x is = omega arith
count_renamed (Some ino) dir name to_dir to_name entries x is = by_test (same_ino ino x) refl
  where
    by_test : (b : Bool) → same_ino ino x ≡ b → count (renamed (Some ino) dir name to_dir to_name entries) x ≤ count entries x
    by_test true same =
        let is_x : lookup entries dir name ≡ Some x = is ∙ ap (λ (n : ℕ). Some (record { 0 = n })) (eqb-true ino.0 x.0 same) in
        let one : one_if (same_ino ino x) ≡ 1 = ap one_if same in
        omega (arith, count_taken dir name entries x is_x, one, count_add (entry to_dir to_name ino) (without dir name entries) x)
    by_test false other =
        let none : one_if (same_ino ino x) ≡ 0 = ap one_if other in
        omega (arith, count_without dir name entries x, none, count_add (entry to_dir to_name ino) (without dir name entries) x)

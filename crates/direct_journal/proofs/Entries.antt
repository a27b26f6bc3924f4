-- The effects that entries say, and what they leave.
use Rattle.std.proofs.Common.{◌≡◌, ℕ, zero, suc, ◌+◌, ◌<◌, ◌≤◌, List, [], ◌∷◌, ◌++◌, length, take, Bool, true, false, cond, Option, None, Some, refl, ap, subst, arith}
use Rattle.std.proofs.lemmas.Bool.Decides.{nat_tests}
use Rattle.std.specs.Prelude.{fold, filter, ◌||◌}
use Rattle.snap_ids.specs.declared.id.SnapId.{SnapId}
use Rattle.plain_types.specs.declared.change.Change.{Change}
use Rattle.plain_types.specs.declared.change.Effect.{Effect}
use Rattle.plain_types.specs.declared.entry.Entry.{Entry}
use Rattle.plain_types.specs.declared.entry.What.{What}
use Rattle.plain_types.specs.declared.entry.What.TheVariants as what
use Rattle.plain_tree.specs.State.{State, start}
use Rattle.plain_tree.specs.Change.{apply}
use Rattle.plain_tree.specs.Change as tree
use Rattle.plain_tree.specs.History.{is_among, makes}
use Rattle.plain_tree.specs.History as history
use Rattle.plain_journal.specs.Entries.{change_in, with_change, after_entry, state_after, makes_snap, before_snap, tree_at}
use Rattle.plain_journal.specs.Table.{effect_of, effects_from}
use Rattle.journal_laws.specs.Entries.{was_made}

abbrev step : State → Effect → State
step state effect = apply state effect.client effect.change

one_state : (n : ℕ) (state : State) (e : Entry) (entries : List Entry) → ((s : State) → fold step s (effects_from (n + 1) entries) ≡ fold after_entry s entries) → (o : Option Change) → fold step state (effect_of n e o ++ effects_from (n + 1) entries) ≡ fold after_entry (with_change state e.client o) entries
one_state n state e entries rest None = rest state
one_state n state e entries rest (Some change) = rest (apply state e.client change)

folded : (n : ℕ) (state : State) (entries : List Entry) → fold step state (effects_from n entries) ≡ fold after_entry state entries
folded n state [] = refl
folded n state (e ∷ entries) = one_state n state e entries (λ s. folded (n + 1) s entries) (change_in e.what)

-- the effects of entries lead to their state
pub state_of_effects : (n : ℕ) (entries : List Entry) → tree.state_after (effects_from n entries) ≡ state_after entries
state_of_effects n entries = folded n start entries

-- an entry makes a snapshot where its change does
abbrev SameMaking : SnapId → Bool → Option Change → Type 0
SameMaking s makes_it None = Unit {0}
SameMaking s makes_it (Some made) = makes_it ≡ makes s made

same_making : (s : SnapId) (w : What) → SameMaking s (makes_snap s w) (change_in w)
same_making s (what.Mkdir d n i) = refl
same_making s (what.Create d n i m) = refl
same_making s (what.Link i d n) = refl
same_making s (what.Unlink d n) = refl
same_making s (what.Rmdir d n) = refl
same_making s (what.Rename d n td tn) = refl
same_making s (what.Chmod i m) = refl
same_making s (what.OpenFile h i w) = refl
same_making s (what.CloseFile h) = refl
same_making s (what.Mksnap id d n) = refl
same_making s (what.Rmsnap id) = refl
same_making s w = tt

pub makes_by : (s : SnapId) (w : What) (c : Change) → change_in w ≡ Some c → makes_snap s w ≡ makes s c
makes_by s w c is = subst (SameMaking s (makes_snap s w)) is (same_making s w)

none_made : (s : SnapId) (w : What) → change_in w ≡ None → makes_snap s w ≡ false
none_made s (what.Mksnap id d n) is = cc
none_made s w is = refl

before_more : (s : SnapId) (n : ℕ) (e : Entry) (entries : List Entry) → history.before_snap s (effects_from (n + 1) entries) ≡ effects_from (n + 1) (before_snap s entries) → (o : Option Change) → change_in e.what ≡ o → history.before_snap s (effect_of n e o ++ effects_from (n + 1) entries) ≡ effects_from n (cond (makes_snap s e.what) [] (e ∷ before_snap s entries))
before_more s n e entries rest None is = rw (none_made s e.what is, is) rest
before_more s n e entries rest (Some c) is = rw (makes_by s e.what c is) (by_test (makes s c))
  where
    made : Effect
    made = record { client = e.client; entry = n; change = c }

    by_test : (b : Bool) → cond b [] (made ∷ history.before_snap s (effects_from (n + 1) entries)) ≡ effects_from n (cond b [] (e ∷ before_snap s entries))
    by_test true = refl
    by_test false = rw is (ap (λ (l : List Effect). made ∷ l) rest)

-- the effects before a snapshot are those of the entries before it
pub before_of_effects : (s : SnapId) (n : ℕ) (entries : List Entry) → history.before_snap s (effects_from n entries) ≡ effects_from n (before_snap s entries)
before_of_effects s n [] = refl
before_of_effects s n (e ∷ entries) = before_more s n e entries (before_of_effects s (n + 1) entries) (change_in e.what) refl

within : (n p : ℕ) (effect : Effect) → effect.entry ≡ n + 1 → n < p → is_among p effect ≡ true
within n p effect is below = grind (arith, nat_tests)

beyond : (n p : ℕ) (effect : Effect) → effect.entry ≡ n + 1 → p ≤ n → is_among p effect ≡ false
beyond n p effect is above = grind (arith, nat_tests)

none_more : (k p : ℕ) (e : Entry) (later : List Effect) → p ≤ k → filter (is_among p) later ≡ [] → (o : Option Change) → filter (is_among p) (effect_of (k + 1) e o ++ later) ≡ []
none_more k p e later above rest None = rest
none_more k p e later above rest (Some c) = rw (beyond k p (record { client = e.client; entry = k + 1; change = c }) refl above) rest

none_among : (k p : ℕ) (entries : List Entry) → p ≤ k → filter (is_among p) (effects_from (k + 1) entries) ≡ []
none_among k p [] above = refl
none_among k p (e ∷ entries) above = none_more k p e (effects_from (k + 1 + 1) entries) above (none_among (k + 1) p entries (omega arith)) (change_in e.what)

some_more : (k p : ℕ) (e : Entry) (later kept : List Effect) → k < p → filter (is_among p) later ≡ kept → (o : Option Change) → filter (is_among p) (effect_of (k + 1) e o ++ later) ≡ effect_of (k + 1) e o ++ kept
some_more k p e later kept below rest None = rest
some_more k p e later kept below rest (Some c) =
    let made : Effect = record { client = e.client; entry = k + 1; change = c } in
    rw (within k p made refl below) (ap (λ (l : List Effect). made ∷ l) rest)

-- the effects among the first entries are those of these entries
among : (k n p : ℕ) (entries : List Entry) → p ≡ k + n → filter (is_among p) (effects_from (k + 1) entries) ≡ effects_from (k + 1) (take n entries)
among k zero p entries is = none_among k p entries (omega arith)
among k (suc n) p [] is = refl
among k (suc n) p (e ∷ entries) is =
    some_more k p e (effects_from (k + 1 + 1) entries) (effects_from (k + 1 + 1) (take n entries)) (omega arith) (among (k + 1) n p entries (omega arith)) (change_in e.what)

pub among_first : (n : ℕ) (entries : List Entry) → filter (is_among n) (effects_from 1 entries) ≡ effects_from 1 (take n entries)
among_first n entries = among 0 n n entries (omega arith)

append_more : (n : ℕ) (e : Entry) (first : List Effect) (a b : List Effect) → first ≡ a ++ b → (o : Option Change) → effect_of n e o ++ first ≡ (effect_of n e o ++ a) ++ b
append_more n e first a b is None = is
append_more n e first a b is (Some c) = ap (λ (l : List Effect). record { client = e.client; entry = n; change = c } ∷ l) is

-- the effects of entries one after another
pub effects_append : (n m : ℕ) (first later : List Entry) → m ≡ n + length first → effects_from n (first ++ later) ≡ effects_from n first ++ effects_from m later
effects_append n m [] later is = let same : m ≡ n = omega arith in rw same refl
effects_append n m (e ∷ first) later is =
    append_more n e (effects_from (n + 1) (first ++ later)) (effects_from (n + 1) first) (effects_from m later) (effects_append (n + 1) m first later (omega arith)) (change_in e.what)

-- what stands before a snapshot that was made stays, whatever comes later
pub before_stays : (s : SnapId) (entries later : List Entry) → was_made s entries ≡ true → before_snap s (entries ++ later) ≡ before_snap s entries
before_stays s [] later is = cc
before_stays s (e ∷ entries) later is =
    elim (makes_snap s e.what) as (λ b. (b || was_made s entries) ≡ true → cond b [] (e ∷ before_snap s (entries ++ later)) ≡ cond b [] (e ∷ before_snap s entries)) [
      | true ↦ λ _. refl
      | false ↦ λ there. ap (λ (l : List Entry). e ∷ l) (before_stays s entries later there)
    ] is

-- so its tree does
pub tree_stays : (s : SnapId) (entries later : List Entry) → was_made s entries ≡ true → tree_at (entries ++ later) s ≡ tree_at entries s
tree_stays s entries later is = ap state_after (before_stays s entries later is)

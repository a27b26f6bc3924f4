-- The greatest id of the snapshots that entries made: it never falls as entries are added, and no context that they give
-- names a greater one.
use Rattle.std.proofs.Common.{◌≡◌, ◌≤◌, ℕ, List, [], ◌∷◌, ◌++◌, take, drop, fold, reverse, Bool, true, false, cond, refl, sym, subst, arith}
use Rattle.std.proofs.lemmas.List.{take-append-drop, reverse-append}
use Rattle.std.proofs.lemmas.Bool.Decides.{nat_tests}
use Rattle.std.specs.Prelude.{max, nat_le}
use Rattle.std.specs.List.{AllByRecursion}
use Rattle.snap_ids.specs.declared.id.Ino.{Ino}
use Rattle.snap_ids.specs.declared.id.SnapId.{SnapId}
use Rattle.snap_ids.specs.Context.{Context}
use Rattle.snap_ids.specs.Traces.{if_from, up_to_id}
use Rattle.plain_types.specs.declared.entry.Entry.{Entry}
use Rattle.plain_types.specs.declared.entry.What.{What}
use Rattle.plain_types.specs.declared.entry.What.TheVariants.{Mksnap}
use Rattle.plain_tree.specs.State.{State, start}
use Rattle.plain_journal.specs.Coverage.{is_global, is_made, made_by, made_since, made_over, covering, kept, context}
use Rattle.plain_journal.specs.Entries.{after_entry, applied_by, applied}
use Rattle.step_table.specs.Messages.{trace_with}
use Rattle.id_laws.specs.Upto.{ContextUpto, TraceUpto}
use Rattle.id_laws.proofs.Lists.{all_append, all_filter}

-- the greater one of an id and what an entry makes
abbrev pub newest_by : ℕ → What → ℕ
newest_by n (Mksnap id dir name) = max n id.0
newest_by n what = n

abbrev pub newest_from : ℕ → List Entry → ℕ
newest_from n [] = n
newest_from n (e ∷ entries) = newest_from (newest_by n e.what) entries

abbrev pub newest : List Entry → ℕ
newest entries = newest_from 1 entries

pub newest_append : (n : ℕ) (xs ys : List Entry) → newest_from n (xs ++ ys) ≡ newest_from (newest_from n xs) ys
newest_append n [] ys = refl
newest_append n (x ∷ xs) ys = newest_append (newest_by n x.what) xs ys

by_least : (n : ℕ) (w : What) → n ≤ newest_by n w
by_least n (Mksnap id dir name) = omega arith
by_least n w = omega arith

pub least_from : (n : ℕ) (entries : List Entry) → n ≤ newest_from n entries
least_from n [] = omega arith
least_from n (e ∷ entries) = let one = by_least n e.what in let rest = least_from (newest_by n e.what) entries in omega (arith, one, rest)

pub newest_grows : (xs ys : List Entry) → newest xs ≤ newest (xs ++ ys)
newest_grows xs ys = subst (λ (n : ℕ). newest xs ≤ n) (sym (newest_append 1 xs ys)) (least_from (newest xs) ys)

pub newest_least : (entries : List Entry) → 1 ≤ newest entries
newest_least entries = least_from 1 entries

pub newest_take : (j : ℕ) (entries : List Entry) → newest (take j entries) ≤ newest entries
newest_take j entries = subst (λ (l : List Entry). newest (take j entries) ≤ newest l) (take-append-drop j entries) (newest_grows (take j entries) (drop j entries))

-- the last one is none above it
last_by : (a n : ℕ) (w : What) → a ≤ n → applied_by a w ≤ newest_by n w
last_by a n (Mksnap id dir name) less = omega arith
last_by a n w less = less

last_from : (a n : ℕ) (entries : List Entry) → a ≤ n → fold (λ before (entry : Entry). applied_by before entry.what) a entries ≤ newest_from n entries
last_from a n [] less = less
last_from a n (e ∷ entries) less = last_from (applied_by a e.what) (newest_by n e.what) entries (last_by a n e.what less)

pub applied_newest : (entries : List Entry) → applied entries ≤ newest entries
applied_newest entries = last_from 1 1 entries (omega arith)

-- ids that entries made
abbrev pub AllIds : ℕ → List SnapId → Type 0
AllIds last ids = AllByRecursion (λ (id : SnapId). id.0 ≤ last) ids

made_one : (n last : ℕ) (w : What) (test : Ino → Bool) → newest_by n w ≤ last → AllIds last (made_by w test)
made_one n last (Mksnap id dir name) test less = by_test (test dir)
  where
    by_test : (b : Bool) → AllIds last (cond b (id ∷ []) [])
    by_test true = (omega (arith, less), tt)
    by_test false = tt
made_one n last w test less = tt

since_upto : (n : ℕ) (state : State) (entries : List Entry) (ino : Ino) → AllIds (newest_from n entries) (made_since state entries ino)
since_upto n state [] ino = tt
since_upto n state (e ∷ entries) ino = all_append _ (made_by e.what (λ dir. is_made state ino)) (made_since (after_entry state e) entries ino)
    (made_one n (newest_from (newest_by n e.what) entries) e.what (λ dir. is_made state ino) (least_from (newest_by n e.what) entries))
    (since_upto (newest_by n e.what) (after_entry state e) entries ino)

over_upto : (n : ℕ) (state : State) (entries : List Entry) (ino : Ino) → AllIds (newest_from n entries) (made_over state entries ino)
over_upto n state [] ino = tt
over_upto n state (e ∷ entries) ino = all_append _ (made_by e.what _) (made_over (after_entry state e) entries ino)
    (made_one n (newest_from (newest_by n e.what) entries) e.what _ (least_from (newest_by n e.what) entries))
    (over_upto (newest_by n e.what) (after_entry state e) entries ino)

pub covering_upto : (entries : List Entry) (ino : Ino) → AllIds (newest entries) (covering entries ino)
covering_upto entries ino = by_test (is_global entries ino)
  where
    by_test : (b : Bool) → AllIds (newest entries) (cond b (made_since start entries ino) (made_over start entries ino))
    by_test true = since_upto 1 start entries ino
    by_test false = over_upto 1 start entries ino

greatest_upto : (n last : ℕ) (ids : List SnapId) → n ≤ last → AllIds last ids → fold (λ n (id : SnapId). max n id.0) n ids ≤ last
greatest_upto n last [] less all = less
greatest_upto n last (id ∷ ids) less all = greatest_upto (max n id.0) last ids (let one = all.0 in omega (arith, less, one)) all.1

pub context_upto : (entries : List Entry) (ino : Ino) → (context entries ino).seq.0 ≤ newest entries
context_upto entries ino = greatest_upto 1 (newest entries) (covering entries ino) (newest_least entries) (covering_upto entries ino)

turned : (last : ℕ) (ids : List SnapId) → AllIds last ids → AllIds last (reverse ids)
turned last [] all = tt
turned last (id ∷ ids) all = subst (AllIds last) (sym (reverse-append (id ∷ []) ids)) (all_append _ (reverse ids) (id ∷ []) (turned last ids all.1) (all.0, tt))

pub whole_context : (entries : List Entry) (ino : Ino) → ContextUpto (newest entries) (context entries ino)
whole_context entries ino = (context_upto entries ino, turned (newest entries) (kept entries (covering entries ino)) (all_filter _ _ (covering entries ino) (covering_upto entries ino)))

-- the trace that the table writes
from_upto : (first : SnapId) (n other last : ℕ) → n ≤ last → other ≤ last → if_from first n other ≤ last
from_upto first n other last one two = by_test (nat_le first.0 n)
  where
    by_test : (b : Bool) → cond b n other ≤ last
    by_test true = one
    by_test false = two

ids_upto : (seq last : ℕ) (ids : List SnapId) → seq ≤ last → AllIds last (up_to_id seq ids)
ids_upto seq last [] less = tt
ids_upto seq last (id ∷ ids) less = by_test (nat_le id.0 seq) refl (ids_upto seq last ids less)
  where
    by_test : (b : Bool) → nat_le id.0 seq ≡ b → AllIds last (up_to_id seq ids) → AllIds last (cond b (id ∷ up_to_id seq ids) (up_to_id seq ids))
    by_test true test rest = (grind (arith, nat_tests, test, less), rest)
    by_test false test rest = rest

pub trace_upto : (last : ℕ) (ino : Ino) (c : Context) → 1 ≤ last → c.seq.0 ≤ last → TraceUpto last (trace_with ino c)
trace_upto last ino c low less = (seq, ids_upto _ last _ seq)
  where
    above : if_from (record { 0 = 0 }) 0 0 ≤ last
    above = from_upto (record { 0 = 0 }) 0 0 last (omega arith) (omega arith)

    seq : if_from (record { 0 = 0 }) (max c.seq.0 (if_from (record { 0 = 0 }) 0 0)) 1 ≤ last
    seq = from_upto (record { 0 = 0 }) (max c.seq.0 (if_from (record { 0 = 0 }) 0 0)) 1 last (omega (arith, less, above)) low

-- No act gives a client more requests than it had.
use Rattle.std.proofs.Common.{◌≡◌, ◌≤◌, ℕ, suc, ◌+◌, List, [], ◌∷◌, ◌++◌, filter, drop, Bool, true, false, true≢false, not, cond, Option, None, Some, refl, sym, subst, arith}
use Rattle.std.proofs.lemmas.Bool.Decides.{nat_tests}
use Rattle.std.specs.Prelude.{◌==◌, ◌||◌}
use Rattle.std.specs.List.{list_any}
use Rattle.plain_types.specs.declared.entry.Entry.{Entry}
use Rattle.plain_types.specs.declared.entry.What.{What}
use Rattle.step_table.specs.ServerState.{Asked, Server, Told, Answered, Granted, WantedBack, Changed, Acked, tell, tell_at, number_of, up_to}
use Rattle.step_table.specs.Acts.{Act, TellRecall, TellAck, AnswerIt, GrantIt, MakeEffect, Prepare, Wait, Defer, DeferFirst, TakeHeld, TakeDeferred, TakeOperation, Buffer, act, acts, answer_hand, grant_hand, effect_hand, buffer_for, written_down, prepare_hand, entry_for, buffer, of_client, first_of, as_list}
use Rattle.mds_state.specs.Fits.{OneEach, WaitOnce}
use Rattle.mds_requests.specs.Ready.{at_server}
use Rattle.mds_requests.proofs.Later.{notices_keep}

abbrev pub count : ℕ → List Asked → ℕ
count n [] = 0
count n (a ∷ xs) = cond (of_client n a) (suc (count n xs)) (count n xs)

count-append : (n : ℕ) (xs ys : List Asked) → count n (xs ++ ys) ≡ count n xs + count n ys
count-append n [] ys = omega arith
count-append n (a ∷ xs) ys = by_test (of_client n a) (count-append n xs ys)
  where
    by_test : (b : Bool) → count n (xs ++ ys) ≡ count n xs + count n ys → cond b (suc (count n (xs ++ ys))) (count n (xs ++ ys)) ≡ cond b (suc (count n xs)) (count n xs) + count n ys
    by_test true rest = omega (arith, rest)
    by_test false rest = rest

count_split : (n : ℕ) (test : Asked → Bool) (xs : List Asked) → count n (filter test xs) + count n (filter (λ a. not (test a)) xs) ≡ count n xs
count_split n test [] = refl
count_split n test (a ∷ xs) = by_tests (test a) (of_client n a) refl (count_split n test xs)
  where
    by_tests : (b d : Bool) → of_client n a ≡ d → count n (filter test xs) + count n (filter (λ a. not (test a)) xs) ≡ count n xs
        → count n (cond b (a ∷ filter test xs) (filter test xs)) + count n (cond (not b) (a ∷ filter (λ a. not (test a)) xs) (filter (λ a. not (test a)) xs)) ≡ cond d (suc (count n xs)) (count n xs)
    by_tests true true is rest = rw is (omega (arith, rest))
    by_tests true false is rest = rw is (omega (arith, rest))
    by_tests false true is rest = rw is (omega (arith, rest))
    by_tests false false is rest = rw is (omega (arith, rest))

count_first : (n : ℕ) (xs : List Asked) → count n (as_list (first_of xs)) + count n (drop 1 xs) ≡ count n xs
count_first n [] = refl
count_first n (a ∷ xs) = by_test (of_client n a)
  where
    by_test : (b : Bool) → cond b 1 0 + count n xs ≡ cond b (suc (count n xs)) (count n xs)
    by_test true = omega arith
    by_test false = omega arith

-- so many has a client, wherever they stand
abbrev total : ℕ → Server → ℕ
total n s = count n (as_list s.hand) + (count n s.held + (count n s.deferred + count n (as_list s.operation)))

abbrev Most : ℕ → ℕ → Server → Type 0
Most n k s = total n s ≤ k

told_most : (n k : ℕ) (s : Server) (x : ℕ) (told : Told) → Most n k s → Most n k (tell s x told)
told_most n k s x told is = by_number (number_of s.current x)
  where
    by_number : (o : Option ℕ) → Most n k (tell_at s x told o)
    by_number None = is
    by_number (Some conn) = is

buffer_most : (n k : ℕ) (s : Server) (e : Entry) → Most n k s → Most n k (buffer s e)
buffer_most n k s e is = notices_keep (Most n k) (λ u x inos so. told_most n k u x (Changed inos) so) s.entries (up_to s.clients) (record s { entries = s.entries ++ e ∷ [] }) is

less_hand : (hand rest k : ℕ) → hand + rest ≤ k → 0 + rest ≤ k
less_hand hand rest k is = omega (arith, is)

pub act_most : (n k : ℕ) (s : Server) (a : Act) → Most n k s → Most n k (act s a)
act_most n k s (TellRecall x ino) is = told_most n k s x (WantedBack ino) is
act_most n k s (TellAck x number) is = told_most n k s x (Acked number) is
act_most n k s (AnswerIt said) is = by_hand s.hand
  where
    by_hand : (o : Option Asked) → Most n k (answer_hand s said o)
    by_hand None = is
    by_hand (Some a) = told_most n k (record s { hand = None }) a.client (Answered a.tid said) (less_hand (count n (as_list s.hand)) (count n s.held + (count n s.deferred + count n (as_list s.operation))) k is)
act_most n k s (GrantIt ino mode) is = by_hand s.hand
  where
    by_hand : (o : Option Asked) → Most n k (grant_hand s ino mode o)
    by_hand None = is
    by_hand (Some a) = told_most n k (record s { hand = None }) a.client (Granted a.tid ino mode) (less_hand (count n (as_list s.hand)) (count n s.held + (count n s.deferred + count n (as_list s.operation))) k is)
act_most n k s (MakeEffect made) is = by_hand s.hand
  where
    by_said : (a : Asked) (o : Option What) → Most n k (buffer_for s a o)
    by_said a None = is
    by_said a (Some said) = buffer_most n k s (entry_for a said) is

    by_hand : (o : Option Asked) → Most n k (effect_hand s made o)
    by_hand None = is
    by_hand (Some a) = by_said a (written_down made)
act_most n k s (Prepare said) is = by_hand s.hand is
  where
    moved : (hand held deferred operation : ℕ) → hand + (held + (deferred + operation)) ≤ k → 0 + (held + (deferred + hand)) ≤ k
    moved hand held deferred operation less = omega (arith, less)

    by_hand : (o : Option Asked) → count n (as_list o) + (count n s.held + (count n s.deferred + count n (as_list s.operation))) ≤ k → Most n k (prepare_hand s said o)
    by_hand None less = is
    by_hand (Some a) less = buffer_most n k (record s { operation = Some a; hand = None }) (entry_for a said) (moved (count n (as_list (Some a))) (count n s.held) (count n s.deferred) (count n (as_list s.operation)) less)
act_most n k s (Buffer e) is = buffer_most n k s e is
act_most n k s Wait is = let e = count-append n s.held (as_list s.hand) in omega (arith, e, is)
act_most n k s Defer is = let e = count-append n s.deferred (as_list s.hand) in omega (arith, e, is)
act_most n k s DeferFirst is = let e = count-append n (as_list s.hand) s.deferred in omega (arith, e, is)
act_most n k s (TakeHeld x) is =
    let split = count_split n (of_client x) s.held in
    let first = count_first n (filter (of_client x) s.held) in
    omega (arith, split, first, is)
act_most n k s TakeDeferred is = let first = count_first n s.deferred in omega (arith, first, is)
act_most n k s TakeOperation is = omega (arith, is)
act_most n k s a is = is

pub acts_most : (n k : ℕ) (list : List Act) (s : Server) → Most n k s → Most n k (acts s list)
acts_most n k [] s is = is
acts_most n k (a ∷ list) s is = acts_most n k list (act s a) (act_most n k s a is)

-- one each, by the counts
none_of : (n : ℕ) (xs : List Asked) → count n xs ≤ 0 → list_any (of_client n) xs ≡ false
none_of n [] is = refl
none_of n (a ∷ xs) is = by_test (of_client n a) is (none_of n xs)
  where
    by_test : (b : Bool) → cond b (suc (count n xs)) (count n xs) ≤ 0 → (count n xs ≤ 0 → list_any (of_client n) xs ≡ false) → (b || list_any (of_client n) xs) ≡ false
    by_test true less go = absurd (omega (arith, less))
    by_test false less go = go less

pub self_is : (n : ℕ) → (n == n) ≡ true
self_is n = grind (arith, nat_tests)

pub one_by : (xs : List Asked) → ((n : ℕ) → count n xs ≤ 1) → OneEach xs
one_by [] each = tt
one_by (a ∷ xs) each = (none_of a.client xs (first (of_client a.client a) (self_is a.client) (each a.client)), one_by xs (λ n. later n (of_client n a) (each n)))
  where
    first : (b : Bool) → b ≡ true → cond b (suc (count a.client xs)) (count a.client xs) ≤ 1 → count a.client xs ≤ 0
    first true is less = omega (arith, less)
    first false is less = absurd (true≢false (sym is))

    later : (n : ℕ) (b : Bool) → cond b (suc (count n xs)) (count n xs) ≤ 1 → count n xs ≤ 1
    later n true less = omega (arith, less)
    later n false less = less

count_none : (n : ℕ) (xs : List Asked) → list_any (of_client n) xs ≡ false → count n xs ≡ 0
count_none n [] none = refl
count_none n (a ∷ xs) none = by_test (of_client n a) none (count_none n xs)
  where
    by_test : (b : Bool) → (b || list_any (of_client n) xs) ≡ false → (list_any (of_client n) xs ≡ false → count n xs ≡ 0) → cond b (suc (count n xs)) (count n xs) ≡ 0
    by_test true none go = absurd (true≢false none)
    by_test false none go = go none

pub by_one : (xs : List Asked) → OneEach xs → (n : ℕ) → count n xs ≤ 1
by_one [] one n = omega arith
by_one (a ∷ xs) one n = by_test (of_client n a) refl (by_one xs one.1 n)
  where
    by_test : (b : Bool) → of_client n a ≡ b → count n xs ≤ 1 → cond b (suc (count n xs)) (count n xs) ≤ 1
    by_test true is rest =
        let same : a.client ≡ n = grind (arith, nat_tests, is) in
        let none = count_none n xs (subst (λ (m : ℕ). list_any (of_client m) xs ≡ false) same one.0) in omega (arith, none)
    by_test false is rest = rest

lists_count : (n : ℕ) (a b d e : List Asked) → count n (a ++ (b ++ (d ++ e))) ≡ count n a + (count n b + (count n d + count n e))
lists_count n a b d e =
    let one = count-append n a (b ++ (d ++ e)) in
    let two = count-append n b (d ++ e) in
    let three = count-append n d e in
    omega (arith, one, two, three)

all_count : (n : ℕ) (s : Server) → count n (at_server s) ≡ total n s
all_count n s = lists_count n (as_list s.hand) s.held s.deferred (as_list s.operation)

pub still_one : (s : Server) (list : List Act) → OneEach (at_server s) → OneEach (at_server (acts s list))
still_one s list one = one_by (at_server (acts s list)) (λ n.
    let before = all_count n s in let after = all_count n (acts s list) in let most = by_one (at_server s) one n in
    let kept = acts_most n 1 list s (omega (arith, before, most)) in omega (arith, after, kept))

pub wait_once : (s : Server) → OneEach (at_server s) → WaitOnce s
wait_once s one = one_by (s.held ++ s.deferred) (λ n.
    let all = all_count n s in let most = by_one (at_server s) one n in let e = count-append n s.held s.deferred in omega (arith, all, most, e))

pub held_once : (s : Server) → WaitOnce s → OneEach s.held
held_once s one = one_by s.held (λ n. let most = by_one (s.held ++ s.deferred) one n in let e = count-append n s.held s.deferred in omega (arith, most, e))

-- the first goes to the end
pub at_end : (a : Asked) (xs : List Asked) → list_any (of_client a.client) xs ≡ false → OneEach xs → OneEach (xs ++ a ∷ [])
at_end a xs none one = one_by (xs ++ a ∷ []) (λ n. by_test n (of_client n a) refl (count-append n xs (a ∷ [])) (by_one xs one n))
  where
    by_test : (n : ℕ) (b : Bool) → of_client n a ≡ b → count n (xs ++ a ∷ []) ≡ count n xs + cond b 1 0 → count n xs ≤ 1 → count n (xs ++ a ∷ []) ≤ 1
    by_test n true is e most =
        let same : a.client ≡ n = grind (arith, nat_tests, is) in
        let zero = count_none n xs (subst (λ (m : ℕ). list_any (of_client m) xs ≡ false) same none) in omega (arith, e, zero)
    by_test n false is e most = omega (arith, e, most)

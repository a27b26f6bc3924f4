-- How many messages wait, and that all of them may.
use Rattle.std.proofs.Common.{zero, suc, ◌≡◌, ℕ, ◌+◌, ◌<◌, List, [], ◌∷◌, ◌++◌, Bool, true, false, cond, length, get_or, set, drop, replicate, sum_by, Option, None, Some, refl, sym, ap, ◌∙◌, subst, arith, IfSome}
use Rattle.std.proofs.lemmas.List.{length_push, length-replicate, get_or_default}
use Rattle.std.proofs.lemmas.List.Sums.{sum_by-set}
use Rattle.std.proofs.lemmas.List.Folds.{list_all-append}
use Rattle.std.specs.Prelude.{◌==◌, ◌&&◌, ◌↔◌, is_some, IsTrue}
use Rattle.std.specs.List.{list_all, fold}
use Rattle.plain_types.specs.declared.history.Step.{Step}
use Rattle.plain_types.specs.declared.history.Step.TheVariants.{Op, Flush, ClientFromServer, ClientFromStore, ServerTakes, Commit, Restart, Tend, StoreTakes}
use Rattle.plain_types.specs.declared.message.Message.{Message}
use Rattle.node_core.specs.Steps.{is_client, is_step_of, taken_from, takes_from_peer, message_fits, are_peers, taking_step}
use Rattle.node_channels.specs.Channels.{Waiting, IsWhole, IsSound, queue, with_queue, with_last, without_first, first, is_taking, may_wait, no_messages, count}
use Rattle.node_channels.proofs.Changed.{same_step, is_same, IsThere, there_by_taking, there_by_some, whole_kept, left, more, none_taken}

-- the sum over one lane
one_more : (lane : List (List Message)) (n : ℕ) (m : Message) → n < length lane → sum_by length (set lane n (get_or lane n [] ++ m ∷ [])) ≡ sum_by length lane + 1
one_more lane n m within = let all = sum_by-set length lane n (get_or lane n [] ++ m ∷ []) [] within in let long = length_push (get_or lane n []) m in omega (arith, all, long)

one_less : (lane : List (List Message)) (n : ℕ) (m : Message) (rest : List Message) → n < length lane → get_or lane n [] ≡ m ∷ rest → sum_by length (set lane n (drop 1 (get_or lane n []))) + 1 ≡ sum_by length lane
one_less lane n m rest within is =
    let all = sum_by-set length lane n (drop 1 (get_or lane n [])) [] within in
    let before : length (get_or lane n []) ≡ length rest + 1 = ap length is ∙ turn (length rest) in
    let after : length (drop 1 (get_or lane n [])) ≡ length rest = ap (λ (l : List Message). length (drop 1 l)) is in
    omega (arith, all, before, after)
  where
    turn : (k : ℕ) → suc k ≡ k + 1
    turn k = omega arith

pub count_more : (c : Waiting) (step : Step) (m : Message) → IsThere c step → count (with_last c step m) ≡ count c + 1
count_more c (ServerTakes n) m there = let here = one_more c.up n m there in omega (arith, here)
count_more c (ClientFromServer n) m there = let here = one_more c.down n m there in omega (arith, here)
count_more c (StoreTakes n) m there = let here = one_more c.asked n m there in omega (arith, here)
count_more c (ClientFromStore n) m there = let here = one_more c.stored n m there in omega (arith, here)
count_more c (Op n) m there = absurd there
count_more c (Flush n) m there = absurd there
count_more c Commit m there = absurd there
count_more c (Restart n) m there = absurd there
count_more c Tend m there = absurd there

pub count_less : (c : Waiting) (step : Step) (m : Message) (rest : List Message) → IsThere c step → queue c step ≡ m ∷ rest → count (without_first c step) + 1 ≡ count c
count_less c (ServerTakes n) m rest there is = let here = one_less c.up n m rest there is in omega (arith, here)
count_less c (ClientFromServer n) m rest there is = let here = one_less c.down n m rest there is in omega (arith, here)
count_less c (StoreTakes n) m rest there is = let here = one_less c.asked n m rest there is in omega (arith, here)
count_less c (ClientFromStore n) m rest there is = let here = one_less c.stored n m rest there is in omega (arith, here)
count_less c (Op n) m rest there is = absurd there
count_less c (Flush n) m rest there is = absurd there
count_less c Commit m rest there is = absurd there
count_less c (Restart n) m rest there is = absurd there
count_less c Tend m rest there is = absurd there

-- a count of none
sums_none : (lane : List (List Message)) → ((n : ℕ) → get_or lane n [] ≡ []) → sum_by length lane ≡ 0
sums_none [] none = refl
sums_none (q ∷ lane) none = start q (none 0) ∙ sums_none lane (λ n. none (suc n))
  where
    start : (l : List Message) → l ≡ [] → fold (λ (a : ℕ) (x : List Message). a + length x) (0 + length l) lane ≡ fold (λ (a : ℕ) (x : List Message). a + length x) 0 lane
    start [] is = refl
    start (m ∷ l) is = cc

grows : (lane : List (List Message)) (a b : ℕ) → fold (λ (a : ℕ) (x : List Message). a + length x) (a + b) lane ≡ a + fold (λ (a : ℕ) (x : List Message). a + length x) b lane
grows [] a b = refl
grows (q ∷ lane) a b = let assoc : (a + b) + length q ≡ a + (b + length q) = omega arith in ap (λ (n : ℕ). fold (λ (a : ℕ) (x : List Message). a + length x) n lane) assoc ∙ grows lane a (b + length q)

nothing : (lane : List (List Message)) → sum_by length lane ≡ 0 → (n : ℕ) → get_or lane n [] ≡ []
nothing [] none n = refl
nothing (q ∷ lane) none n = at n (sum_of none) (nothing lane)
  where
    sum_of : sum_by length (q ∷ lane) ≡ 0 → length q + sum_by length lane ≡ 0
    sum_of none = let turn : 0 + length q ≡ length q + 0 = omega arith in sym (ap (λ (k : ℕ). fold (λ (a : ℕ) (x : List Message). a + length x) k lane) turn ∙ grows lane (length q) 0) ∙ none

    empty : (l : List Message) (k : ℕ) → length l + k ≡ 0 → l ≡ []
    empty [] k is = refl
    empty (m ∷ l) k is = absurd (omega (arith, is))

    at : (n : ℕ) → length q + sum_by length lane ≡ 0 → (sum_by length lane ≡ 0 → (k : ℕ) → get_or lane k [] ≡ []) → get_or (q ∷ lane) n [] ≡ []
    at zero sum rest = empty q (sum_by length lane) sum
    at (suc n) sum rest = rest (omega (arith, sum)) n

pub count_none : (c : Waiting) → ((step : Step) → queue c step ≡ []) → count c ≡ 0
count_none c none =
    let up = sums_none c.up (λ n. none (ServerTakes n)) in
    let down = sums_none c.down (λ n. none (ClientFromServer n)) in
    let asked = sums_none c.asked (λ n. none (StoreTakes n)) in
    let stored = sums_none c.stored (λ n. none (ClientFromStore n)) in
    omega (arith, up, down, asked, stored)

pub none_waits : (c : Waiting) → count c ≡ 0 → (step : Step) → queue c step ≡ []
none_waits c none (ServerTakes n) = nothing c.up (omega (arith, none)) n
none_waits c none (ClientFromServer n) = nothing c.down (omega (arith, none)) n
none_waits c none (StoreTakes n) = nothing c.asked (omega (arith, none)) n
none_waits c none (ClientFromStore n) = nothing c.stored (omega (arith, none)) n
none_waits c none (Op n) = refl
none_waits c none (Flush n) = refl
none_waits c none Commit = refl
none_waits c none (Restart n) = refl
none_waits c none Tend = refl

pub counts_none : (c : Waiting) (b : Bool) → b ≡ (count c == 0) → IsTrue b ↔ ((step : Step) → queue c step ≡ [])
counts_none c b is = (λ sure. none_waits c (zero_of sure), λ none. yes_of (count_none c none))
  where
    zero_of : IsTrue b → count c ≡ 0
    zero_of sure = let test : (count c == 0) ≡ true = sym is ∙ sure in grind (arith, test)

    yes_of : count c ≡ 0 → IsTrue b
    yes_of none = let test : (count c == 0) ≡ true = grind (arith, none) in is ∙ test

-- what may wait goes on waiting
pub sound_more : (c : Waiting) → IsSound c → (step : Step) (m : Message) → may_wait c.clients step m ≡ true → IsSound (with_last c step m)
sound_more c sound step m may = record {
  whole = whole_kept c sound.whole step (queue c step ++ m ∷ []);
  fits = λ other. subst (λ (n : ℕ). list_all (may_wait n other) (queue (with_last c step m) other) ≡ true) (sym (clients_same step)) (fits other);
}
  where
    taking_of : (a b : Bool) → (a && b) ≡ true → a ≡ true
    taking_of true b is = refl
    taking_of false b is = cc

    clients_same : (s : Step) → (with_last c s m).clients ≡ c.clients
    clients_same (ServerTakes n) = refl
    clients_same (ClientFromServer n) = refl
    clients_same (StoreTakes n) = refl
    clients_same (ClientFromStore n) = refl
    clients_same (Op n) = refl
    clients_same (Flush n) = refl
    clients_same Commit = refl
    clients_same (Restart n) = refl
    clients_same Tend = refl

    both : (a b : Bool) → a ≡ true → b ≡ true → (a && b) ≡ true
    both true b sure is = is
    both false b sure is = cc

    last : (other : Step) (b : Bool) → same_step step other ≡ b → list_all (may_wait c.clients other) (cond b (m ∷ []) []) ≡ true
    last other true is = both (may_wait c.clients other m) true (subst (λ (s : Step). may_wait c.clients s m ≡ true) (is_same step other is) may) refl
    last other false is = refl

    fits : (other : Step) → list_all (may_wait c.clients other) (queue (with_last c step m) other) ≡ true
    fits other =
        ap (list_all (may_wait c.clients other)) (more c sound.whole step other m (taking_of (is_taking c.clients step) (message_fits c.clients step m) may))
        ∙ list_all-append (may_wait c.clients other) (queue c other) (cond (same_step step other) (m ∷ []) [])
        ∙ both (list_all (may_wait c.clients other) (queue c other)) (list_all (may_wait c.clients other) (cond (same_step step other) (m ∷ []) [])) (sound.fits other) (last other (same_step step other) refl)

pub sound_less : (c : Waiting) → IsSound c → (step : Step) → IsSound (without_first c step)
sound_less c sound step = by_queue (queue c step) refl
  where
    clients_same : (s : Step) → (without_first c s).clients ≡ c.clients
    clients_same (ServerTakes n) = refl
    clients_same (ClientFromServer n) = refl
    clients_same (StoreTakes n) = refl
    clients_same (ClientFromStore n) = refl
    clients_same (Op n) = refl
    clients_same (Flush n) = refl
    clients_same Commit = refl
    clients_same (Restart n) = refl
    clients_same Tend = refl

    second : (a b : Bool) → (a && b) ≡ true → b ≡ true
    second true b is = is
    second false b is = cc

    rest_fits : (other : Step) (m : Message) (rest : List Message) (b : Bool) → same_step step other ≡ b → queue c step ≡ m ∷ rest → list_all (may_wait c.clients other) (cond b rest (queue c other)) ≡ true
    rest_fits other m rest true same is = second (may_wait c.clients other m) (list_all (may_wait c.clients other) rest)
        (ap (list_all (may_wait c.clients other)) (sym (ap (queue c) (sym (is_same step other same)) ∙ is)) ∙ sound.fits other)
    rest_fits other m rest false same is = sound.fits other

    by_queue : (q : List Message) → queue c step ≡ q → IsSound (without_first c step)
    by_queue [] is = subst IsSound (sym (none_taken c step is)) sound
    by_queue (m ∷ rest) is = record {
      whole = whole_kept c sound.whole step (drop 1 (queue c step));
      fits = λ other. subst (λ (n : ℕ). list_all (may_wait n other) (queue (without_first c step) other) ≡ true) (sym (clients_same step))
          (ap (list_all (may_wait c.clients other)) (left c step other m rest is) ∙ rest_fits other m rest (same_step step other) refl is);
    }

-- at first
abbrev nil : List Message
nil = []

none_there : (k n : ℕ) → get_or (replicate k nil) n nil ≡ nil
none_there zero n = refl
none_there (suc k) zero = refl
none_there (suc k) (suc n) = none_there k n

pub empty_at_first : (clients : ℕ) (step : Step) → queue (no_messages clients) step ≡ []
empty_at_first clients (ServerTakes n) = none_there (clients + 2) n
empty_at_first clients (ClientFromServer n) = none_there (clients + 2) n
empty_at_first clients (StoreTakes n) = none_there (clients + 2) n
empty_at_first clients (ClientFromStore n) = none_there (clients + 2) n
empty_at_first clients (Op n) = refl
empty_at_first clients (Flush n) = refl
empty_at_first clients Commit = refl
empty_at_first clients (Restart n) = refl
empty_at_first clients Tend = refl

pub whole_at_first : (clients : ℕ) → IsWhole (no_messages clients)
whole_at_first clients = record {
  up = length-replicate (clients + 2) [];
  down = length-replicate (clients + 2) [];
  asked = length-replicate (clients + 2) [];
  stored = length-replicate (clients + 2) [];
}

pub sound_at_first : (clients : ℕ) → IsSound (no_messages clients)
sound_at_first clients = record {
  whole = whole_at_first clients;
  fits = λ step. ap (list_all (may_wait clients step)) (empty_at_first clients step);
}

pub count_at_first : (clients : ℕ) → 0 ≡ count (no_messages clients)
count_at_first clients = sym (count_none (no_messages clients) (empty_at_first clients))

-- what waits fits, and comes from a node that talks with the one that takes it
pub first_may : (c : Waiting) → IsSound c → (step : Step) (o : Option Message) → o ≡ first (queue c step) → IfSome o (λ m. may_wait c.clients step m ≡ true)
first_may c sound step o is = by_queue (queue c step) o is (sound.fits step)
  where
    front : (a b : Bool) → (a && b) ≡ true → a ≡ true
    front true b is = refl
    front false b is = cc

    by_queue : (q : List Message) (o : Option Message) → o ≡ first q → list_all (may_wait c.clients step) q ≡ true → IfSome o (λ m. may_wait c.clients step m ≡ true)
    by_queue [] None is all = tt
    by_queue [] (Some m) is all = cc
    by_queue (x ∷ rest) None is all = tt
    by_queue (x ∷ rest) (Some m) is all = ap (may_wait c.clients step) (cc is) ∙ front (may_wait c.clients step x) (list_all (may_wait c.clients step) rest) all

pub first_fits : (c : Waiting) → IsSound c → (step : Step) (o : Option Message) → o ≡ first (queue c step) → IfSome o (λ m. message_fits c.clients step m ≡ true)
first_fits c sound step o is = by_option o (first_may c sound step o is)
  where
    second : (a b : Bool) → (a && b) ≡ true → b ≡ true
    second true b is = is
    second false b is = cc

    by_option : (o : Option Message) → IfSome o (λ m. may_wait c.clients step m ≡ true) → IfSome o (λ m. message_fits c.clients step m ≡ true)
    by_option None may = tt
    by_option (Some m) may = second (is_taking c.clients step) (message_fits c.clients step m) may

pub from_peer : (clients : ℕ) (step : Step) → is_taking clients step ≡ true → (node : ℕ) → is_step_of clients node step ≡ true → takes_from_peer clients node (taken_from clients step) ≡ true
from_peer clients (ServerTakes n) taking node own = grind arith
from_peer clients (ClientFromServer n) taking node own = grind arith
from_peer clients (StoreTakes n) taking node own = grind arith
from_peer clients (ClientFromStore n) taking node own = grind arith
from_peer clients (Op n) taking node own = cc
from_peer clients (Flush n) taking node own = cc
from_peer clients Commit taking node own = cc
from_peer clients (Restart n) taking node own = cc
from_peer clients Tend taking node own = cc

pub held_from_peer : (c : Waiting) → IsSound c → (step : Step) → is_some (first (queue c step)) ≡ true → (node : ℕ) → is_step_of c.clients node step ≡ true → takes_from_peer c.clients node (taken_from c.clients step) ≡ true
held_from_peer c sound step some = from_peer c.clients step (by_option (first (queue c step)) some (first_may c sound step (first (queue c step)) refl))
  where
    front : (a b : Bool) → (a && b) ≡ true → a ≡ true
    front true b is = refl
    front false b is = cc

    by_option : (o : Option Message) → is_some o ≡ true → IfSome o (λ m. may_wait c.clients step m ≡ true) → is_taking c.clients step ≡ true
    by_option None some may = cc
    by_option (Some m) some may = front (is_taking c.clients step) (message_fits c.clients step m) may

-- between nodes that talk there is a step that takes
pub peers_take : (clients from to : ℕ) → are_peers clients from to ≡ true → is_taking clients (taking_step clients from to) ≡ true
peers_take clients from to peers = go (to == 0) (to == clients + 1) (from == 0) refl refl refl
  where
    go : (x y z : Bool) → (to == 0) ≡ x → (to == clients + 1) ≡ y → (from == 0) ≡ z
        → is_taking clients (cond x (ServerTakes from) (cond y (StoreTakes from) (cond z (ClientFromServer to) (ClientFromStore to)))) ≡ true
    go true y z p q r = grind arith
    go false true z p q r = grind arith
    go false false true p q r = grind arith
    go false false false p q r = grind arith

-- what is sent well may wait
pub sent_may_wait : (clients from to : ℕ) (m : Message) → (are_peers clients from to && message_fits clients (taking_step clients from to) m) ≡ true → may_wait clients (taking_step clients from to) m ≡ true
sent_may_wait clients from to m well = both (is_taking clients (taking_step clients from to)) (message_fits clients (taking_step clients from to) m) (peers_take clients from to (front (are_peers clients from to) _ well)) (second (are_peers clients from to) _ well)
  where
    front : (a b : Bool) → (a && b) ≡ true → a ≡ true
    front true b is = refl
    front false b is = cc

    second : (a b : Bool) → (a && b) ≡ true → b ≡ true
    second true b is = is
    second false b is = cc

    both : (a b : Bool) → a ≡ true → b ≡ true → (a && b) ≡ true
    both true b sure is = is
    both false b sure is = cc

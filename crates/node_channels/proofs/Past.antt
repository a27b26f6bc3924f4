-- What was sent is what was taken, followed by what waits, event by event.
use Rattle.std.proofs.Common.{◌≡◌, ℕ, ◌+◌, List, [], ◌∷◌, ◌++◌, append_assoc, append-nil, Bool, true, false, cond, filter_map, drop, Option, None, Some, refl, sym, ap, ◌∙◌, subst, arith}
use Rattle.std.proofs.lemmas.Bool.Decides.{nat_tests}
use Rattle.std.specs.Prelude.{◌==◌, ◌&&◌}
use Rattle.std.specs.List.{list_all}
use Rattle.plain_types.specs.declared.history.Event.{Event}
use Rattle.plain_types.specs.declared.history.Sent.{Sent}
use Rattle.plain_types.specs.declared.history.Step.{Step}
use Rattle.plain_types.specs.declared.history.Step.TheVariants.{Op, Flush, ClientFromServer, ClientFromStore, ServerTakes, Commit, Restart, Tend, StoreTakes}
use Rattle.plain_types.specs.declared.message.Message.{Message}
use Rattle.node_core.specs.Steps.{are_peers, is_step_of, taking_step, is_sent_well, taken_from, takes_from_peer_if_any}
use Rattle.node_core.proofs.Peers.{one_node, its_step, from_the_sender, both_ways}
use Rattle.step_table.specs.Legal.{taken_from as source, is_node, message_to, sent_between, taken_list, taken_between, Delivered}
use Rattle.node_channels.specs.Channels.{Waiting, IsWhole, queue, first, without_first, with_sent, no_messages}
use Rattle.node_channels.specs.Carried.{IsCarried, MayCome, after_event}
use Rattle.node_channels.proofs.Changed.{same_step, is_same, same_itself, whole_kept, clients_kept, left, none_taken, equal, itself}
use Rattle.node_channels.proofs.Counted.{empty_at_first, whole_at_first, peers_take}
use Rattle.node_channels.proofs.Sends.{for_step, sent_adds, whole_sent, clients_sent, adds_between}

-- one more event
abbrev taken_at : ℕ → ℕ → ℕ → Event → List Message
taken_at store from to e = cond (e.node == to && is_node from (source store e.step)) (taken_list e.taken) []

abbrev sent_at : ℕ → ℕ → Event → List Message
sent_at from to e = cond (e.node == from) (filter_map (message_to to) e.sent) []

taken_last : (store from to : ℕ) (history : List Event) (e : Event) → taken_between store from to (history ++ e ∷ []) ≡ taken_between store from to history ++ taken_at store from to e
taken_last store from to [] e = append-nil (taken_at store from to e)
taken_last store from to (x ∷ history) e = ap (λ (l : List Message). taken_at store from to x ++ l) (taken_last store from to history e) ∙ sym (append_assoc (taken_at store from to x) (taken_between store from to history) (taken_at store from to e))

sent_last : (from to : ℕ) (history : List Event) (e : Event) → sent_between from to (history ++ e ∷ []) ≡ sent_between from to history ++ sent_at from to e
sent_last from to [] e = append-nil (sent_at from to e)
sent_last from to (x ∷ history) e = ap (λ (l : List Message). sent_at from to x ++ l) (sent_last from to history e) ∙ sym (append_assoc (sent_at from to x) (sent_between from to history) (sent_at from to e))

same_source : (clients : ℕ) (step : Step) → source (clients + 1) step ≡ taken_from clients step
same_source clients (Op n) = refl
same_source clients (Flush n) = refl
same_source clients (ClientFromServer n) = refl
same_source clients (ClientFromStore n) = refl
same_source clients (ServerTakes n) = refl
same_source clients Commit = refl
same_source clients (Restart n) = refl
same_source clients Tend = refl
same_source clients (StoreTakes n) = refl

-- the step in which one node takes from another is the one
one_some : (a b : ℕ) → Some a ≡ Some b → a ≡ b
one_some a b is = cc

none_some : (a : ℕ) → None ≡ Some a → ⊥
none_some a is = cc

is_taking_step : (clients from to : ℕ) (step : Step) → are_peers clients from to ≡ true → is_step_of clients to step ≡ true → taken_from clients step ≡ Some from → step ≡ taking_step clients from to
is_taking_step clients from to (ServerTakes n) peers own taken = go (to == 0) own (one_some n from taken)
  where
    go : (x : Bool) → x ≡ true → n ≡ from → ServerTakes n ≡ cond x (ServerTakes from) (cond (to == clients + 1) (StoreTakes from) (cond (from == 0) (ClientFromServer to) (ClientFromStore to)))
    go true is e = ap ServerTakes e
    go false is e = cc
is_taking_step clients from to (StoreTakes n) peers own taken = go (to == 0) (to == clients + 1) refl refl (one_some n from taken)
  where
    go : (x y : Bool) → (to == 0) ≡ x → (to == clients + 1) ≡ y → n ≡ from → StoreTakes n ≡ cond x (ServerTakes from) (cond y (StoreTakes from) (cond (from == 0) (ClientFromServer to) (ClientFromStore to)))
    go true y p q e = absurd (grind arith)
    go false true p q e = ap StoreTakes e
    go false false p q e = absurd (grind arith)
is_taking_step clients from to (ClientFromServer n) peers own taken = go (to == 0) (to == clients + 1) (from == 0) refl refl refl (one_some 0 from taken)
  where
    same : n ≡ to
    same = grind arith

    go : (x y z : Bool) → (to == 0) ≡ x → (to == clients + 1) ≡ y → (from == 0) ≡ z → 0 ≡ from → ClientFromServer n ≡ cond x (ServerTakes from) (cond y (StoreTakes from) (cond z (ClientFromServer to) (ClientFromStore to)))
    go true y z p q r e = absurd (grind arith)
    go false true z p q r e = absurd (grind arith)
    go false false true p q r e = ap ClientFromServer same
    go false false false p q r e = absurd (grind arith)
is_taking_step clients from to (ClientFromStore n) peers own taken = go (to == 0) (to == clients + 1) (from == 0) refl refl refl (one_some (clients + 1) from taken)
  where
    same : n ≡ to
    same = grind arith

    go : (x y z : Bool) → (to == 0) ≡ x → (to == clients + 1) ≡ y → (from == 0) ≡ z → clients + 1 ≡ from → ClientFromStore n ≡ cond x (ServerTakes from) (cond y (StoreTakes from) (cond z (ClientFromServer to) (ClientFromStore to)))
    go true y z p q r e = absurd (grind arith)
    go false true z p q r e = absurd (grind arith)
    go false false true p q r e = absurd (grind arith)
    go false false false p q r e = ap ClientFromStore same
is_taking_step clients from to (Op n) peers own taken = absurd (none_some from taken)
is_taking_step clients from to (Flush n) peers own taken = absurd (none_some from taken)
is_taking_step clients from to Commit peers own taken = absurd (none_some from taken)
is_taking_step clients from to (Restart n) peers own taken = absurd (none_some from taken)
is_taking_step clients from to Tend peers own taken = absurd (none_some from taken)

-- whether a step takes from this node at that one
from_it : (o : Option ℕ) (from : ℕ) → is_node from o ≡ true → o ≡ Some from
from_it None from is = cc
from_it (Some n) from is = ap Some (equal n from is)

is_it : (o : Option ℕ) (from : ℕ) → o ≡ Some from → is_node from o ≡ true
is_it o from is = ap (is_node from) is ∙ itself from

front : (a b : Bool) → (a && b) ≡ true → a ≡ true
front true b is = refl
front false b is = cc

behind : (a b : Bool) → (a && b) ≡ true → b ≡ true
behind true b is = is
behind false b is = cc

both : (a b : Bool) → a ≡ true → b ≡ true → (a && b) ≡ true
both true b p q = q
both false b p q = cc

differs : {b : Bool} → b ≡ false → b ≡ true → ⊥
differs off on = cc

-- what an event takes between two nodes that talk, and what waits then, is what waited
takes_first : (c : Waiting) (e : Event) → MayCome c e → (from to : ℕ) → are_peers c.clients from to ≡ true
    → taken_at (c.clients + 1) from to e ++ queue (without_first c e.step) (taking_step c.clients from to) ≡ queue c (taking_step c.clients from to)
takes_first c e come from to peers = by_tests (e.node == to && is_node from (source (c.clients + 1) e.step)) (same_step e.step (taking_step c.clients from to)) refl refl (queue c e.step) refl
  where
    s : Step
    s = taking_step c.clients from to

    is_the_step : (e.node == to && is_node from (source (c.clients + 1) e.step)) ≡ true → e.step ≡ s
    is_the_step is =
        let there : e.node ≡ to = equal e.node to (front (e.node == to) (is_node from (source (c.clients + 1) e.step)) is) in
        is_taking_step c.clients from to e.step peers (subst (λ (n : ℕ). is_step_of c.clients n e.step ≡ true) there come.own)
        (sym (same_source c.clients e.step) ∙ from_it (source (c.clients + 1) e.step) from (behind (e.node == to) (is_node from (source (c.clients + 1) e.step)) is))

    at_the_step : e.step ≡ s → (e.node == to && is_node from (source (c.clients + 1) e.step)) ≡ true
    at_the_step is =
        let there : e.node ≡ to = one_node c.clients e.node to e.step come.own (ap (is_step_of c.clients to) is ∙ its_step c.clients from to peers) in
        both (e.node == to) (is_node from (source (c.clients + 1) e.step)) (ap (λ (n : ℕ). n == to) there ∙ itself to)
        (is_it (source (c.clients + 1) e.step) from (same_source c.clients e.step ∙ ap (taken_from c.clients) is ∙ from_the_sender c.clients from to peers))

    wrong : same_step e.step s ≡ false → e.step ≡ s → same_step s s ≡ false
    wrong other is = subst (λ (t : Step). same_step t s ≡ false) is other

    by_tests : (x y : Bool) → (e.node == to && is_node from (source (c.clients + 1) e.step)) ≡ x → same_step e.step s ≡ y → (q : List Message) → queue c e.step ≡ q
        → cond x (taken_list e.taken) [] ++ queue (without_first c e.step) s ≡ queue c s
    by_tests true true here same [] is =
        (λ i. taken_list ((come.taken ∙ ap first is) i) ++ queue (none_taken c e.step is i) s)
    by_tests true true here same (m ∷ rest) is =
        (λ i. taken_list ((come.taken ∙ ap first is) i) ++ (left c e.step s m rest is ∙ ap (λ (b : Bool). cond b rest (queue c s)) same) i)
        ∙ sym is ∙ ap (queue c) (is_the_step here)
    by_tests true false here same q is = absurd (differs (wrong same (is_the_step here)) (same_itself c.clients s (peers_take c.clients from to peers)))
    by_tests false true here same q is = absurd (differs here (at_the_step (is_same e.step s same)))
    by_tests false false here same [] is = ap (λ (d : Waiting). queue d s) (none_taken c e.step is)
    by_tests false false here same (m ∷ rest) is = left c e.step s m rest is ∙ ap (λ (b : Bool). cond b rest (queue c s)) same

-- a relation kept by an event
pub carried_more : (c : Waiting) (history : List Event) (e : Event) → IsCarried c history → MayCome c e → IsCarried (after_event c e) (history ++ e ∷ [])
carried_more c history e carried come = record {
  whole = whole_sent (without_first c e.step) (whole_kept c carried.whole e.step (drop 1 (queue c e.step))) e.node e.sent;
  peers = subst (λ (k : ℕ). (from to : ℕ) → are_peers k from to ≡ true → taken_between (k + 1) from to (history ++ e ∷ []) ++ queue (after_event c e) (taking_step k from to) ≡ sent_between from to (history ++ e ∷ [])) (sym same) peers;
  strangers = subst (λ (k : ℕ). (from to : ℕ) → are_peers k from to ≡ false → taken_between (k + 1) from to (history ++ e ∷ []) ≡ []) (sym same) strangers;
}
  where
    same_left : (without_first c e.step).clients ≡ c.clients
    same_left = clients_kept c e.step (drop 1 (queue c e.step))

    same : (after_event c e).clients ≡ c.clients
    same = clients_sent (without_first c e.step) e.node e.sent ∙ same_left

    waits_then : (from to : ℕ) → are_peers c.clients from to ≡ true → queue (after_event c e) (taking_step c.clients from to) ≡ queue (without_first c e.step) (taking_step c.clients from to) ++ sent_at from to e
    waits_then from to peers =
        sent_adds (without_first c e.step) (whole_kept c carried.whole e.step (drop 1 (queue c e.step))) e.node e.sent (subst (λ (k : ℕ). list_all (is_sent_well k e.node) e.sent ≡ true) (sym same_left) come.sent) (taking_step c.clients from to)
        ∙ ap (λ (k : ℕ). queue (without_first c e.step) (taking_step c.clients from to) ++ filter_map (for_step k e.node (taking_step c.clients from to)) e.sent) same_left
        ∙ ap (λ (l : List Message). queue (without_first c e.step) (taking_step c.clients from to) ++ l) (adds_between c.clients e.node from to peers e.sent come.sent)

    peers : (from to : ℕ) → are_peers c.clients from to ≡ true → taken_between (c.clients + 1) from to (history ++ e ∷ []) ++ queue (after_event c e) (taking_step c.clients from to) ≡ sent_between from to (history ++ e ∷ [])
    peers from to talk =
        let before = taken_between (c.clients + 1) from to history in
        let now = taken_at (c.clients + 1) from to e in
        let rest = queue (without_first c e.step) (taking_step c.clients from to) in
        (λ i. taken_last (c.clients + 1) from to history e i ++ waits_then from to talk i)
        ∙ sym (append_assoc (before ++ now) rest (sent_at from to e))
        ∙ ap (λ (l : List Message). l ++ sent_at from to e) (append_assoc before now rest ∙ ap (λ (l : List Message). before ++ l) (takes_first c e come from to talk) ∙ carried.peers from to talk)
        ∙ sym (sent_last from to history e)

    strangers : (from to : ℕ) → are_peers c.clients from to ≡ false → taken_between (c.clients + 1) from to (history ++ e ∷ []) ≡ []
    strangers from to apart = taken_last (c.clients + 1) from to history e ∙ (λ i. carried.strangers from to apart i ++ nothing (e.node == to && is_node from (source (c.clients + 1) e.step)) refl i)
      where
        peer : (o : Option ℕ) → takes_from_peer_if_any c.clients e.node o ≡ true → o ≡ Some from → are_peers c.clients e.node from ≡ true
        peer None any is = absurd (none_some from is)
        peer (Some n) any is = ap (are_peers c.clients e.node) (sym (one_some n from is)) ∙ any

        talk : (e.node == to && is_node from (source (c.clients + 1) e.step)) ≡ true → are_peers c.clients from to ≡ true
        talk is =
            both_ways c.clients to from (subst (λ (n : ℕ). are_peers c.clients n from ≡ true) (equal e.node to (front (e.node == to) (is_node from (source (c.clients + 1) e.step)) is))
            (peer (taken_from c.clients e.step) come.from_peer (sym (same_source c.clients e.step) ∙ from_it (source (c.clients + 1) e.step) from (behind (e.node == to) (is_node from (source (c.clients + 1) e.step)) is))))

        nothing : (b : Bool) → (e.node == to && is_node from (source (c.clients + 1) e.step)) ≡ b → cond b (taken_list e.taken) [] ≡ []
        nothing true is = absurd (differs apart (talk is))
        nothing false is = refl

pub carried_at_first : (clients : ℕ) → IsCarried (no_messages clients) []
carried_at_first clients = record {
  whole = whole_at_first clients;
  peers = λ from to peers. empty_at_first clients (taking_step clients from to);
  strangers = λ from to apart. refl;
}

pub delivered : (c : Waiting) (history : List Event) → IsCarried c history → Delivered (c.clients + 1) history
delivered c history carried from to = by_test (are_peers c.clients from to) refl
  where
    by_test : (b : Bool) → are_peers c.clients from to ≡ b → (later : List Message) × (taken_between (c.clients + 1) from to history ++ later ≡ sent_between from to history)
    by_test true is = (queue c (taking_step c.clients from to), carried.peers from to is)
    by_test false is = (sent_between from to history, ap (λ (l : List Message). l ++ sent_between from to history) (carried.strangers from to is))

-- What a step takes from the channels of the table, and from those of the nodes.
use Rattle.std.proofs.Common.{◌≡◌, ℕ, ◌+◌, ◌<◌, List, [], ◌∷◌, map, drop, get_or, set, Bool, true, false, cond, filter_map, Option, None, Some, refl, sym, ap, ◌∙◌, subst, arith}
use Rattle.std.proofs.lemmas.Bool.Decides.{nat_tests}
use Rattle.std.specs.Prelude.{◌==◌}
use Rattle.std.specs.List.{cons_option}
use Rattle.plain_types.specs.declared.history.Step.{Step}
use Rattle.plain_types.specs.declared.history.Step.TheVariants.{Op, Flush, ClientFromServer, ClientFromStore, ServerTakes, Commit, Restart, Tend, StoreTakes}
use Rattle.plain_types.specs.declared.message.FromStore.{FromStore}
use Rattle.plain_types.specs.declared.message.Message.{Message}
use Rattle.plain_types.specs.declared.message.Message.TheVariants as message
use Rattle.plain_types.specs.declared.message.ToClient.{ToClient}
use Rattle.plain_types.specs.declared.message.ToServer.{ToServer}
use Rattle.plain_types.specs.declared.message.ToStore.{ToStore}
use Rattle.step_table.specs.Messages.{plain_message}
use Rattle.step_table.specs.World.{World, pop, store_node}
use Rattle.node_channels.specs.Channels.{Waiting, IsWhole, queue, first, without_first}
use Rattle.node_channels.specs.Stands.{if_mine, mine, waits, ChannelsStand, of_one, of_list, takes, GivesTheSame}
use Rattle.node_channels.proofs.Changed.{equal, placed, within_some, whole_kept, clients_kept}

-- a pop takes the first of its own channel, and leaves every other
abbrev IsHead : {M : Type 0} → (M → Message) → ℕ → List (ℕ × M) → M × List (ℕ × M) → Type 0
IsHead wrap n channel found = (mine wrap n channel ≡ wrap found.0 ∷ mine wrap n found.1) × ((x : ℕ) → (n == x) ≡ false → mine wrap x found.1 ≡ mine wrap x channel)

abbrev Pops : {M : Type 0} → (M → Message) → ℕ → List (ℕ × M) → Option (M × List (ℕ × M)) → Type 0
Pops wrap n channel None = mine wrap n channel ≡ []
Pops wrap n channel (Some found) = IsHead wrap n channel found

popped : {M : Type 0} (wrap : M → Message) (n : ℕ) (channel : List (ℕ × M)) → Pops wrap n channel (pop n channel)
popped wrap n [] = refl
popped {M} wrap n (p ∷ channel) = by_test (p.0 == n) refl (popped wrap n channel)
  where
    keep : (b : Bool) (l r : List Message) → l ≡ r → cons_option (cond b (Some (wrap p.1)) None) l ≡ cons_option (cond b (Some (wrap p.1)) None) r
    keep b l r e = ap (cons_option (cond b (Some (wrap p.1)) None)) e

    behind : (p.0 == n) ≡ false → (o : Option (M × List (ℕ × M))) → Pops wrap n channel o → Pops wrap n (p ∷ channel) (elim o [ None ↦ None | Some found ↦ Some (found.0, p ∷ found.1) ])
    behind test None none = rw test none
    behind test (Some found) head = (rw test head.0, λ x other. keep (p.0 == x) (mine wrap x found.1) (mine wrap x channel) (head.1 x other))

    by_test : (b : Bool) → (p.0 == n) ≡ b → Pops wrap n channel (pop n channel) → Pops wrap n (p ∷ channel) (elim b [ true ↦ Some (p.1, channel) | false ↦ elim (pop n channel) [ None ↦ None | Some found ↦ Some (found.0, p ∷ found.1) ] ])
    by_test true test rest = (rw test refl, λ x other. rw (not_it x other) refl)
      where
        not_it : (x : ℕ) → (n == x) ≡ false → (p.0 == x) ≡ false
        not_it x other = grind (arith, nat_tests, test, other)
    by_test false test rest = behind test (pop n channel) rest

-- the same waits for each step
abbrev Same : Waiting → World → Step → Type 0
Same c w step = map plain_message (queue c step) ≡ map plain_message (waits w step)

each_step : (c : Waiting) (w : World) → ((n : ℕ) → Same c w (ServerTakes n)) → ((n : ℕ) → Same c w (ClientFromServer n)) → ((n : ℕ) → Same c w (StoreTakes n)) → ((n : ℕ) → Same c w (ClientFromStore n)) → (step : Step) → Same c w step
each_step c w up down asked stored (ServerTakes n) = up n
each_step c w up down asked stored (ClientFromServer n) = down n
each_step c w up down asked stored (StoreTakes n) = asked n
each_step c w up down asked stored (ClientFromStore n) = stored n
each_step c w up down asked stored (Op n) = refl
each_step c w up down asked stored (Flush n) = refl
each_step c w up down asked stored Commit = refl
each_step c w up down asked stored (Restart n) = refl
each_step c w up down asked stored Tend = refl

-- what is left in one lane
lane_left : (lane : List (List Message)) (before after : ℕ → List Message) (n : ℕ) (m x : Message) (rest : List Message) → get_or lane n [] ≡ m ∷ rest
    → ((k : ℕ) → map plain_message (get_or lane k []) ≡ map plain_message (before k)) → before n ≡ x ∷ after n → ((k : ℕ) → (n == k) ≡ false → after k ≡ before k)
    → (k : ℕ) → map plain_message (get_or (set lane n (drop 1 (get_or lane n []))) k []) ≡ map plain_message (after k)
lane_left lane before after n m x rest is same head other k = ap (map plain_message) (placed lane n k (drop 1 (get_or lane n [])) (within_some lane n m rest is)) ∙ by_test (n == k) refl
  where
    here : map plain_message (drop 1 (get_or lane n [])) ≡ map plain_message (after n)
    here = ap (λ (l : List Message). map plain_message (drop 1 l)) is ∙ ap (drop 1) (sym (ap (map plain_message) is) ∙ same n ∙ ap (map plain_message) head)

    by_test : (b : Bool) → (n == k) ≡ b → map plain_message (cond b (drop 1 (get_or lane n [])) (get_or lane k [])) ≡ map plain_message (after k)
    by_test true test = subst (λ (y : ℕ). map plain_message (drop 1 (get_or lane n [])) ≡ map plain_message (after y)) (equal n k test) here
    by_test false test = same k ∙ ap (map plain_message) (sym (other k test))

-- what is given where the same waits
heads : (m x : Message) (rest more : List Message) → map plain_message (m ∷ rest) ≡ map plain_message (x ∷ more) → plain_message m ≡ plain_message x
heads m x rest more same = cc

none_some : (m : Message) (rest : List Message) → map plain_message (m ∷ rest) ≡ [] → ⊥
none_some m rest same = cc

some_none : (x : Message) (more : List Message) → [] ≡ map plain_message (x ∷ more) → ⊥
some_none x more same = cc

given_one : {M : Type 0} (c : Waiting) (step : Step) (wrap : M → Message) (left : List (ℕ × M) → World) (n : ℕ) (channel : List (ℕ × M)) (o : Option (M × List (ℕ × M))) → Pops wrap n channel o
    → map plain_message (queue c step) ≡ map plain_message (mine wrap n channel)
    → ((m : Message) (rest : List Message) (found : M × List (ℕ × M)) → queue c step ≡ m ∷ rest → IsHead wrap n channel found → ChannelsStand (without_first c step) (left found.1))
    → GivesTheSame c step (first (queue c step)) (of_one wrap left o)
given_one {M} c step wrap left n channel o pops same stand = go o pops (queue c step) refl
  where
    go : (o : Option (M × List (ℕ × M))) → Pops wrap n channel o → (q : List Message) → queue c step ≡ q → GivesTheSame c step (first q) (of_one wrap left o)
    go None none [] is = tt
    go None none (m ∷ rest) is = none_some m rest (ap (map plain_message) (sym is) ∙ same ∙ ap (map plain_message) none)
    go (Some found) head [] is = some_none (wrap found.0) (mine wrap n found.1) (ap (map plain_message) (sym is) ∙ same ∙ ap (map plain_message) head.0)
    go (Some found) head (m ∷ rest) is = (
      heads m (wrap found.0) rest (mine wrap n found.1) (ap (map plain_message) (sym is) ∙ same ∙ ap (map plain_message) head.0),
      stand m rest found is head,
    )

given_list : {M : Type 0} (c : Waiting) (step : Step) (wrap : M → Message) (left : List M → World) (channel : List M)
    → map plain_message (queue c step) ≡ map plain_message (map wrap channel)
    → ((m : Message) (rest : List Message) (x : M) (more : List M) → queue c step ≡ m ∷ rest → channel ≡ x ∷ more → ChannelsStand (without_first c step) (left more))
    → GivesTheSame c step (first (queue c step)) (of_list wrap left channel)
given_list {M} c step wrap left channel same stand = go channel refl (queue c step) refl
  where
    go : (l : List M) → channel ≡ l → (q : List Message) → queue c step ≡ q → GivesTheSame c step (first q) (of_list wrap left l)
    go [] none [] is = tt
    go [] none (m ∷ rest) is = none_some m rest (ap (map plain_message) (sym is) ∙ same ∙ ap (λ (l : List M). map plain_message (map wrap l)) none)
    go (x ∷ more) some [] is = some_none (wrap x) (map wrap more) (ap (map plain_message) (sym is) ∙ same ∙ ap (λ (l : List M). map plain_message (map wrap l)) some)
    go (x ∷ more) some (m ∷ rest) is = (
      heads m (wrap x) rest (map wrap more) (ap (map plain_message) (sym is) ∙ same ∙ ap (λ (l : List M). map plain_message (map wrap l)) some),
      stand m rest x more is some,
    )

-- a step of the server takes a report, or what a client says
took_report : (c : Waiting) (w : World) → ChannelsStand c w → (n : ℕ) → (n == store_node w) ≡ true → (m : Message) (rest : List Message) (x : ToServer) (more : List ToServer) → queue c (ServerTakes n) ≡ m ∷ rest → w.reported ≡ x ∷ more
    → ChannelsStand (without_first c (ServerTakes n)) (record w { reported = more })
took_report c w stand n test m rest x more is some = record {
  whole = whole_kept c stand.whole (ServerTakes n) (drop 1 (queue c (ServerTakes n)));
  clients = stand.clients;
  none_up = stand.none_up;
  none_asked = stand.none_asked;
  same = each_step (without_first c (ServerTakes n)) (record w { reported = more })
      (lane_left c.up before after n m (message.ToServer x) rest is (λ k. stand.same (ServerTakes k)) head other)
      (λ k. stand.same (ClientFromServer k)) (λ k. stand.same (StoreTakes k)) (λ k. stand.same (ClientFromStore k));
}
  where
    before : ℕ → List Message
    before k = waits w (ServerTakes k)

    after : ℕ → List Message
    after k = waits (record w { reported = more }) (ServerTakes k)

    head : cond (n == store_node w) (map message.ToServer w.reported) (mine message.ToServer n w.up) ≡ message.ToServer x ∷ cond (n == store_node w) (map message.ToServer more) (mine message.ToServer n w.up)
    head = rw test (ap (map message.ToServer) some)

    not_it : (k : ℕ) → (n == k) ≡ false → (k == store_node w) ≡ false
    not_it k apart = let e = equal n (store_node w) test in grind (arith, nat_tests, apart, e)

    other : (k : ℕ) → (n == k) ≡ false → cond (k == store_node w) (map message.ToServer more) (mine message.ToServer k w.up) ≡ cond (k == store_node w) (map message.ToServer w.reported) (mine message.ToServer k w.up)
    other k apart = rw (not_it k apart) refl

took_up : (c : Waiting) (w : World) → ChannelsStand c w → (n : ℕ) → (n == store_node w) ≡ false → (m : Message) (rest : List Message) (found : ToServer × List (ℕ × ToServer)) → queue c (ServerTakes n) ≡ m ∷ rest → IsHead message.ToServer n w.up found
    → ChannelsStand (without_first c (ServerTakes n)) (record w { up = found.1 })
took_up c w stand n test m rest found is head = record {
  whole = whole_kept c stand.whole (ServerTakes n) (drop 1 (queue c (ServerTakes n)));
  clients = stand.clients;
  none_up = head.1 (store_node w) test ∙ stand.none_up;
  none_asked = stand.none_asked;
  same = each_step (without_first c (ServerTakes n)) (record w { up = found.1 })
      (lane_left c.up before after n m (message.ToServer found.0) rest is (λ k. stand.same (ServerTakes k)) own other)
      (λ k. stand.same (ClientFromServer k)) (λ k. stand.same (StoreTakes k)) (λ k. stand.same (ClientFromStore k));
}
  where
    before : ℕ → List Message
    before k = waits w (ServerTakes k)

    after : ℕ → List Message
    after k = waits (record w { up = found.1 }) (ServerTakes k)

    own : cond (n == store_node w) (map message.ToServer w.reported) (mine message.ToServer n w.up) ≡ message.ToServer found.0 ∷ cond (n == store_node w) (map message.ToServer w.reported) (mine message.ToServer n found.1)
    own = rw test head.0

    other : (k : ℕ) → (n == k) ≡ false → cond (k == store_node w) (map message.ToServer w.reported) (mine message.ToServer k found.1) ≡ cond (k == store_node w) (map message.ToServer w.reported) (mine message.ToServer k w.up)
    other k apart = ap (cond (k == store_node w) (map message.ToServer w.reported)) (head.1 k apart)

-- a step of the store takes an order, or what a client asks
took_order : (c : Waiting) (w : World) → ChannelsStand c w → (n : ℕ) → (n == 0) ≡ true → (m : Message) (rest : List Message) (x : ToStore) (more : List ToStore) → queue c (StoreTakes n) ≡ m ∷ rest → w.ordered ≡ x ∷ more
    → ChannelsStand (without_first c (StoreTakes n)) (record w { ordered = more })
took_order c w stand n test m rest x more is some = record {
  whole = whole_kept c stand.whole (StoreTakes n) (drop 1 (queue c (StoreTakes n)));
  clients = stand.clients;
  none_up = stand.none_up;
  none_asked = stand.none_asked;
  same = each_step (without_first c (StoreTakes n)) (record w { ordered = more })
      (λ k. stand.same (ServerTakes k)) (λ k. stand.same (ClientFromServer k))
      (lane_left c.asked before after n m (message.ToStore x) rest is (λ k. stand.same (StoreTakes k)) head other)
      (λ k. stand.same (ClientFromStore k));
}
  where
    before : ℕ → List Message
    before k = waits w (StoreTakes k)

    after : ℕ → List Message
    after k = waits (record w { ordered = more }) (StoreTakes k)

    head : cond (n == 0) (map message.ToStore w.ordered) (mine message.ToStore n w.asked) ≡ message.ToStore x ∷ cond (n == 0) (map message.ToStore more) (mine message.ToStore n w.asked)
    head = rw test (ap (map message.ToStore) some)

    not_it : (k : ℕ) → (n == k) ≡ false → (k == 0) ≡ false
    not_it k apart = let e = equal n 0 test in grind (arith, nat_tests, apart, e)

    other : (k : ℕ) → (n == k) ≡ false → cond (k == 0) (map message.ToStore more) (mine message.ToStore k w.asked) ≡ cond (k == 0) (map message.ToStore w.ordered) (mine message.ToStore k w.asked)
    other k apart = rw (not_it k apart) refl

took_asked : (c : Waiting) (w : World) → ChannelsStand c w → (n : ℕ) → (n == 0) ≡ false → (m : Message) (rest : List Message) (found : ToStore × List (ℕ × ToStore)) → queue c (StoreTakes n) ≡ m ∷ rest → IsHead message.ToStore n w.asked found
    → ChannelsStand (without_first c (StoreTakes n)) (record w { asked = found.1 })
took_asked c w stand n test m rest found is head = record {
  whole = whole_kept c stand.whole (StoreTakes n) (drop 1 (queue c (StoreTakes n)));
  clients = stand.clients;
  none_up = stand.none_up;
  none_asked = head.1 0 test ∙ stand.none_asked;
  same = each_step (without_first c (StoreTakes n)) (record w { asked = found.1 })
      (λ k. stand.same (ServerTakes k)) (λ k. stand.same (ClientFromServer k))
      (lane_left c.asked before after n m (message.ToStore found.0) rest is (λ k. stand.same (StoreTakes k)) own other)
      (λ k. stand.same (ClientFromStore k));
}
  where
    before : ℕ → List Message
    before k = waits w (StoreTakes k)

    after : ℕ → List Message
    after k = waits (record w { asked = found.1 }) (StoreTakes k)

    own : cond (n == 0) (map message.ToStore w.ordered) (mine message.ToStore n w.asked) ≡ message.ToStore found.0 ∷ cond (n == 0) (map message.ToStore w.ordered) (mine message.ToStore n found.1)
    own = rw test head.0

    other : (k : ℕ) → (n == k) ≡ false → cond (k == 0) (map message.ToStore w.ordered) (mine message.ToStore k found.1) ≡ cond (k == 0) (map message.ToStore w.ordered) (mine message.ToStore k w.asked)
    other k apart = ap (cond (k == 0) (map message.ToStore w.ordered)) (head.1 k apart)

-- a client takes from the server, or from the store
took_down : (c : Waiting) (w : World) → ChannelsStand c w → (n : ℕ) (m : Message) (rest : List Message) (found : ToClient × List (ℕ × ToClient)) → queue c (ClientFromServer n) ≡ m ∷ rest → IsHead message.ToClient n w.down found
    → ChannelsStand (without_first c (ClientFromServer n)) (record w { down = found.1 })
took_down c w stand n m rest found is head = record {
  whole = whole_kept c stand.whole (ClientFromServer n) (drop 1 (queue c (ClientFromServer n)));
  clients = stand.clients;
  none_up = stand.none_up;
  none_asked = stand.none_asked;
  same = each_step (without_first c (ClientFromServer n)) (record w { down = found.1 })
      (λ k. stand.same (ServerTakes k))
      (lane_left c.down (λ k. mine message.ToClient k w.down) (λ k. mine message.ToClient k found.1) n m (message.ToClient found.0) rest is (λ k. stand.same (ClientFromServer k)) head.0 head.1)
      (λ k. stand.same (StoreTakes k)) (λ k. stand.same (ClientFromStore k));
}

took_stored : (c : Waiting) (w : World) → ChannelsStand c w → (n : ℕ) (m : Message) (rest : List Message) (found : FromStore × List (ℕ × FromStore)) → queue c (ClientFromStore n) ≡ m ∷ rest → IsHead message.FromStore n w.stored found
    → ChannelsStand (without_first c (ClientFromStore n)) (record w { stored = found.1 })
took_stored c w stand n m rest found is head = record {
  whole = whole_kept c stand.whole (ClientFromStore n) (drop 1 (queue c (ClientFromStore n)));
  clients = stand.clients;
  none_up = stand.none_up;
  none_asked = stand.none_asked;
  same = each_step (without_first c (ClientFromStore n)) (record w { stored = found.1 })
      (λ k. stand.same (ServerTakes k)) (λ k. stand.same (ClientFromServer k)) (λ k. stand.same (StoreTakes k))
      (lane_left c.stored (λ k. mine message.FromStore k w.stored) (λ k. mine message.FromStore k found.1) n m (message.FromStore found.0) rest is (λ k. stand.same (ClientFromStore k)) head.0 head.1);
}

pub gives_the_same : (c : Waiting) (w : World) → ChannelsStand c w → (step : Step) → GivesTheSame c step (first (queue c step)) (takes w step)
gives_the_same c w stand (ServerTakes n) = by_test (n == store_node w) refl (stand.same (ServerTakes n))
  where
    by_test : (b : Bool) → (n == store_node w) ≡ b → map plain_message (queue c (ServerTakes n)) ≡ map plain_message (cond b (map message.ToServer w.reported) (mine message.ToServer n w.up))
        → GivesTheSame c (ServerTakes n) (first (queue c (ServerTakes n))) (cond b (of_list message.ToServer (λ rest. record w { reported = rest }) w.reported) (of_one message.ToServer (λ rest. record w { up = rest }) (pop n w.up)))
    by_test true test same = given_list c (ServerTakes n) message.ToServer (λ rest. record w { reported = rest }) w.reported same (took_report c w stand n test)
    by_test false test same = given_one c (ServerTakes n) message.ToServer (λ rest. record w { up = rest }) n w.up (pop n w.up) (popped message.ToServer n w.up) same (took_up c w stand n test)
gives_the_same c w stand (ClientFromServer n) = given_one c (ClientFromServer n) message.ToClient (λ rest. record w { down = rest }) n w.down (pop n w.down) (popped message.ToClient n w.down) (stand.same (ClientFromServer n)) (took_down c w stand n)
gives_the_same c w stand (StoreTakes n) = by_test (n == 0) refl (stand.same (StoreTakes n))
  where
    by_test : (b : Bool) → (n == 0) ≡ b → map plain_message (queue c (StoreTakes n)) ≡ map plain_message (cond b (map message.ToStore w.ordered) (mine message.ToStore n w.asked))
        → GivesTheSame c (StoreTakes n) (first (queue c (StoreTakes n))) (cond b (of_list message.ToStore (λ rest. record w { ordered = rest }) w.ordered) (of_one message.ToStore (λ rest. record w { asked = rest }) (pop n w.asked)))
    by_test true test same = given_list c (StoreTakes n) message.ToStore (λ rest. record w { ordered = rest }) w.ordered same (took_order c w stand n test)
    by_test false test same = given_one c (StoreTakes n) message.ToStore (λ rest. record w { asked = rest }) n w.asked (pop n w.asked) (popped message.ToStore n w.asked) same (took_asked c w stand n test)
gives_the_same c w stand (ClientFromStore n) = given_one c (ClientFromStore n) message.FromStore (λ rest. record w { stored = rest }) n w.stored (pop n w.stored) (popped message.FromStore n w.stored) (stand.same (ClientFromStore n)) (took_stored c w stand n)
gives_the_same c w stand (Op n) = tt
gives_the_same c w stand (Flush n) = tt
gives_the_same c w stand Commit = tt
gives_the_same c w stand (Restart n) = tt
gives_the_same c w stand Tend = tt

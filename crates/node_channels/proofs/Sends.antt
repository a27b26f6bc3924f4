-- What a list of messages adds to each channel.
use Rattle.std.proofs.Common.{◌≡◌, ℕ, ◌+◌, List, [], ◌∷◌, ◌++◌, append_assoc, append-nil, map, take, drop, Bool, true, false, cond, filter_map, Option, None, Some, option_map, refl, sym, ap, ◌∙◌, subst, arith}
use Rattle.std.proofs.lemmas.Bool.Decides.{nat_tests}
use Rattle.std.specs.Prelude.{◌==◌, ◌&&◌}
use Rattle.std.specs.List.{list_all, cons_option}
use Rattle.plain_types.specs.declared.history.Sent.{Sent}
use Rattle.plain_types.specs.declared.history.Step.{Step}
use Rattle.plain_types.specs.declared.history.Step.TheVariants.{Op, Flush, ClientFromServer, ClientFromStore, ServerTakes, Commit, Restart, Tend, StoreTakes}
use Rattle.plain_types.specs.declared.message.Message.{Message}
use Rattle.plain_types.specs.declared.message.Message.TheVariants as message
use Rattle.node_core.specs.Steps.{are_peers, message_fits, taking_step, is_sent_well, is_step_of, taken_from}
use Rattle.node_core.proofs.Peers.{one_node, its_step, from_the_sender}
use Rattle.step_table.specs.Legal.{message_to}
use Rattle.step_table.specs.Messages.{plain_message, plain_sent}
use Rattle.node_channels.specs.Channels.{Waiting, IsWhole, queue, with_last, with_one, with_sent, is_taking}
use Rattle.node_channels.proofs.Changed.{same_step, is_same, same_itself, whole_kept, clients_kept, more, equal}
use Rattle.node_channels.proofs.Counted.{peers_take}

-- what a message adds to those that wait for a step
abbrev pub for_step : ℕ → ℕ → Step → Sent → Option Message
for_step clients from step m = cond (same_step (taking_step clients from m.to) step) (Some m.message) None

abbrev nil : List Message
nil = []

front : (a b : Bool) → (a && b) ≡ true → a ≡ true
front true b is = refl
front false b is = cc

behind : (a b : Bool) → (a && b) ≡ true → b ≡ true
behind true b is = is
behind false b is = cc

pub sent_takes : (clients from : ℕ) (m : Sent) → is_sent_well clients from m ≡ true → is_taking clients (taking_step clients from m.to) ≡ true
sent_takes clients from m well = peers_take clients from m.to (front (are_peers clients from m.to) (message_fits clients (taking_step clients from m.to) m.message) well)

pub whole_one : (c : Waiting) → IsWhole c → (from : ℕ) (m : Sent) → IsWhole (with_one c from m)
whole_one c whole from m = whole_kept c whole (taking_step c.clients from m.to) (queue c (taking_step c.clients from m.to) ++ m.message ∷ [])

pub clients_one : (c : Waiting) (from : ℕ) (m : Sent) → (with_one c from m).clients ≡ c.clients
clients_one c from m = clients_kept c (taking_step c.clients from m.to) (queue c (taking_step c.clients from m.to) ++ m.message ∷ [])

pub whole_sent : (c : Waiting) → IsWhole c → (from : ℕ) (sent : List Sent) → IsWhole (with_sent c from sent)
whole_sent c whole from [] = whole
whole_sent c whole from (m ∷ sent) = whole_sent (with_one c from m) (whole_one c whole from m) from sent

pub clients_sent : (c : Waiting) (from : ℕ) (sent : List Sent) → (with_sent c from sent).clients ≡ c.clients
clients_sent c from [] = refl
clients_sent c from (m ∷ sent) = clients_sent (with_one c from m) from sent ∙ clients_one c from m

-- each message goes behind
cons_is : (b : Bool) (x : Message) (l : List Message) → cond b (x ∷ []) [] ++ l ≡ cons_option (cond b (Some x) None) l
cons_is true x l = refl
cons_is false x l = refl

pub sent_adds : (c : Waiting) → IsWhole c → (from : ℕ) (sent : List Sent) → list_all (is_sent_well c.clients from) sent ≡ true → (step : Step)
    → queue (with_sent c from sent) step ≡ queue c step ++ filter_map (for_step c.clients from step) sent
sent_adds c whole from [] well step = sym (append-nil (queue c step))
sent_adds c whole from (m ∷ sent) well step = then_rest (sent_adds (with_one c from m) (whole_one c whole from m) from sent)
  where
    here : is_sent_well c.clients from m ≡ true
    here = front (is_sent_well c.clients from m) (list_all (is_sent_well c.clients from) sent) well

    rest : list_all (is_sent_well c.clients from) sent ≡ true
    rest = behind (is_sent_well c.clients from m) (list_all (is_sent_well c.clients from) sent) well

    same : (with_one c from m).clients ≡ c.clients
    same = clients_one c from m

    this : queue (with_one c from m) step ≡ queue c step ++ cond (same_step (taking_step c.clients from m.to) step) (m.message ∷ []) []
    this = more c whole (taking_step c.clients from m.to) step m.message (sent_takes c.clients from m here)

    then_rest : (list_all (is_sent_well (with_one c from m).clients from) sent ≡ true → (s : Step) → queue (with_sent (with_one c from m) from sent) s ≡ queue (with_one c from m) s ++ filter_map (for_step (with_one c from m).clients from s) sent)
        → queue (with_sent (with_one c from m) from sent) step ≡ queue c step ++ filter_map (for_step c.clients from step) (m ∷ sent)
    then_rest go =
        go (subst (λ (n : ℕ). list_all (is_sent_well n from) sent ≡ true) (sym same) rest) step
        ∙ ap (λ (n : ℕ). queue (with_one c from m) step ++ filter_map (for_step n from step) sent) same
        ∙ ap (λ (l : List Message). l ++ filter_map (for_step c.clients from step) sent) this
        ∙ append_assoc (queue c step) (cond (same_step (taking_step c.clients from m.to) step) (m.message ∷ []) []) (filter_map (for_step c.clients from step) sent)
        ∙ ap (λ (l : List Message). queue c step ++ l) (cons_is (same_step (taking_step c.clients from m.to) step) m.message (filter_map (for_step c.clients from step) sent))

-- plainly the same messages are sent well where the others are, and add plainly the same
fits_plain : (clients : ℕ) (step : Step) (m : Message) → message_fits clients step (plain_message m) ≡ message_fits clients step m
fits_plain clients (Op n) (message.ToClient told) = refl
fits_plain clients (Flush n) (message.ToClient told) = refl
fits_plain clients (ClientFromServer n) (message.ToClient told) = refl
fits_plain clients (ClientFromStore n) (message.ToClient told) = refl
fits_plain clients (ServerTakes n) (message.ToClient told) = refl
fits_plain clients Commit (message.ToClient told) = refl
fits_plain clients (Restart n) (message.ToClient told) = refl
fits_plain clients Tend (message.ToClient told) = refl
fits_plain clients (StoreTakes n) (message.ToClient told) = refl
fits_plain clients step (message.ToServer said) = refl
fits_plain clients step (message.ToStore order) = refl
fits_plain clients step (message.FromStore said) = refl

well_plain : (clients from : ℕ) (sent : List Sent) → list_all (is_sent_well clients from) (map plain_sent sent) ≡ list_all (is_sent_well clients from) sent
well_plain clients from [] = refl
well_plain clients from (m ∷ sent) = λ i. (are_peers clients from m.to && fits_plain clients (taking_step clients from m.to) m.message i) && well_plain clients from sent i

pub well_other : (clients from : ℕ) (sent other : List Sent) → map plain_sent sent ≡ map plain_sent other → list_all (is_sent_well clients from) sent ≡ true → list_all (is_sent_well clients from) other ≡ true
well_other clients from sent other same well = sym (well_plain clients from other) ∙ ap (list_all (is_sent_well clients from)) (sym same) ∙ well_plain clients from sent ∙ well

adds_plain : (clients from : ℕ) (step : Step) (sent : List Sent) → filter_map (for_step clients from step) (map plain_sent sent) ≡ map plain_message (filter_map (for_step clients from step) sent)
adds_plain clients from step [] = refl
adds_plain clients from step (m ∷ sent) = by_test (same_step (taking_step clients from m.to) step) (adds_plain clients from step sent)
  where
    by_test : (b : Bool) → filter_map (for_step clients from step) (map plain_sent sent) ≡ map plain_message (filter_map (for_step clients from step) sent)
        → cons_option (cond b (Some (plain_message m.message)) None) (filter_map (for_step clients from step) (map plain_sent sent)) ≡ map plain_message (cons_option (cond b (Some m.message) None) (filter_map (for_step clients from step) sent))
    by_test true e = ap (λ (l : List Message). plain_message m.message ∷ l) e
    by_test false e = e

pub adds_same : (clients from : ℕ) (step : Step) (sent other : List Sent) → map plain_sent sent ≡ map plain_sent other
    → map plain_message (filter_map (for_step clients from step) sent) ≡ map plain_message (filter_map (for_step clients from step) other)
adds_same clients from step sent other same = sym (adds_plain clients from step sent) ∙ ap (filter_map (for_step clients from step)) same ∙ adds_plain clients from step other

-- between two nodes that talk
one_source : {a b : ℕ} → Some a ≡ Some b → a ≡ b
one_source is = cc

between_them : (clients from to a b : ℕ) → are_peers clients from to ≡ true → are_peers clients a b ≡ true → same_step (taking_step clients from to) (taking_step clients a b) ≡ ((from == a) && (to == b))
between_them clients from to a b sends takes = by_tests (same_step (taking_step clients from to) (taking_step clients a b)) (from == a) (to == b) refl refl refl
  where
    same_from : taking_step clients from to ≡ taking_step clients a b → (from == a) ≡ true
    same_from is = let e : from ≡ a = one_source (sym (from_the_sender clients from to sends) ∙ ap (taken_from clients) is ∙ from_the_sender clients a b takes) in grind (arith, nat_tests, e)

    same_to : taking_step clients from to ≡ taking_step clients a b → (to == b) ≡ true
    same_to is = let e : to ≡ b = one_node clients to b (taking_step clients a b) (ap (is_step_of clients to) (sym is) ∙ its_step clients from to sends) (its_step clients a b takes) in grind (arith, nat_tests, e)

    alike : (from == a) ≡ true → (to == b) ≡ true → same_step (taking_step clients from to) (taking_step clients a b) ≡ true
    alike x y = subst (λ (n : ℕ). same_step (taking_step clients from to) (taking_step clients n b) ≡ true) (equal from a x)
        (subst (λ (n : ℕ). same_step (taking_step clients from to) (taking_step clients from n) ≡ true) (equal to b y)
        (same_itself clients (taking_step clients from to) (peers_take clients from to sends)))

    both : (x y : Bool) → x ≡ true → y ≡ true → true ≡ (x && y)
    both true y p q = sym q
    both false y p q = cc

    by_tests : (s x y : Bool) → same_step (taking_step clients from to) (taking_step clients a b) ≡ s → (from == a) ≡ x → (to == b) ≡ y → s ≡ (x && y)
    by_tests true x y same p q = both x y (sym p ∙ same_from (is_same (taking_step clients from to) (taking_step clients a b) same)) (sym q ∙ same_to (is_same (taking_step clients from to) (taking_step clients a b) same))
    by_tests false true true same p q = let all = alike p q in cc
    by_tests false true false same p q = refl
    by_tests false false y same p q = refl

pub adds_between : (clients from a b : ℕ) → are_peers clients a b ≡ true → (sent : List Sent) → list_all (is_sent_well clients from) sent ≡ true
    → filter_map (for_step clients from (taking_step clients a b)) sent ≡ cond (from == a) (filter_map (message_to b) sent) []
adds_between clients from a b peers [] well = by_test (from == a)
  where
    by_test : (x : Bool) → nil ≡ cond x nil nil
    by_test true = refl
    by_test false = refl
adds_between clients from a b peers (m ∷ sent) well =
    ap (λ (t : Bool). cons_option (cond t (Some m.message) None) (filter_map (for_step clients from (taking_step clients a b)) sent)) (between_them clients from m.to a b sends peers)
    ∙ by_tests (from == a) (m.to == b) (adds_between clients from a b peers sent (behind (is_sent_well clients from m) (list_all (is_sent_well clients from) sent) well))
  where
    sends : are_peers clients from m.to ≡ true
    sends = front (are_peers clients from m.to) (message_fits clients (taking_step clients from m.to) m.message) (front (is_sent_well clients from m) (list_all (is_sent_well clients from) sent) well)

    by_tests : (x y : Bool) → filter_map (for_step clients from (taking_step clients a b)) sent ≡ cond x (filter_map (message_to b) sent) []
        → cons_option (cond (x && y) (Some m.message) None) (filter_map (for_step clients from (taking_step clients a b)) sent) ≡ cond x (cons_option (cond y (Some m.message) None) (filter_map (message_to b) sent)) []
    by_tests true true e = ap (λ (l : List Message). m.message ∷ l) e
    by_tests true false e = e
    by_tests false y e = e

-- What stands in the channel from one node to another: it is taken from its head, and what is sent comes behind.
use Rattle.std.proofs.Common.{◌≡◌, ℕ, ◌+◌, List, [], ◌∷◌, ◌++◌, map, Bool, true, false, cond, Option, None, Some, refl, sym, ap, ◌∙◌, subst, arith}
use Rattle.std.proofs.lemmas.List.{append-nil, map-append}
use Rattle.std.proofs.lemmas.Bool.Decides.{nat_tests}
use Rattle.std.specs.Prelude.{◌==◌, ◌&&◌, filter_map, option_map}
use Rattle.std.specs.List.{cons_option}
use Rattle.plain_types.specs.declared.history.Sent.{Sent}
use Rattle.plain_types.specs.declared.message.FromStore.{FromStore}
use Rattle.plain_types.specs.declared.message.Message.{Message}
use Rattle.plain_types.specs.declared.message.Message.TheVariants as message
use Rattle.plain_types.specs.declared.message.ToClient.{ToClient}
use Rattle.plain_types.specs.declared.message.ToServer.{ToServer}
use Rattle.plain_types.specs.declared.message.ToStore.{ToStore}
use Rattle.step_table.specs.Legal.{is_node, message_to, taken_list}
use Rattle.step_table.specs.Row.{Row}
use Rattle.step_table.specs.ServerState.{Server}
use Rattle.step_table.specs.ClientState.{Client}
use Rattle.step_table.specs.World.{World, Made, at_server, at_client, at_store, for_server, for_store, told_to, stored_to, to_server, to_store, to_clients, answered, tagged}
use Rattle.run_laws.specs.Links.{mine}
use Rattle.run_laws.proofs.Channels.{IsHead, mine_append, mine_tagged, mine_other}
use Rattle.run_laws.proofs.Sending.{AllSent, ByServer}
use Rattle.run_laws.proofs.Outgoing.{ByClient, ByStore}

-- the messages to one node, where its channel holds one kind
pub gathered : {M : Type 0} (P : ℕ → Message → Type 0) (to : ℕ) (pick : Message → Option M) (wrap : M → Message) → ((t : ℕ) (x : Message) → P t x → option_map wrap (pick x) ≡ cond (t == to) (Some x) None)
    → (sent : List Sent) → AllSent P sent → filter_map (message_to to) sent ≡ map wrap (filter_map (λ (m : Sent). pick m.message) sent)
gathered P to pick wrap one [] all = refl
gathered {M} P to pick wrap one (m ∷ sent) all = ap (λ (o : Option Message). cons_option o (filter_map (message_to to) sent)) (sym (one m.to m.message all.0)) ∙ by_pick (pick m.message) (gathered P to pick wrap one sent all.1)
  where
    by_pick : (o : Option M) → filter_map (message_to to) sent ≡ map wrap (filter_map (λ (m : Sent). pick m.message) sent) → cons_option (option_map wrap o) (filter_map (message_to to) sent) ≡ map wrap (cons_option o (filter_map (λ (m : Sent). pick m.message) sent))
    by_pick None e = e
    by_pick (Some x) e = ap (λ (l : List Message). wrap x ∷ l) e

-- and where it stands among the channels of many
abbrev pub of_one : {M : Type 0} → ℕ → Option (ℕ × M) → Option M
of_one n None = None
of_one n (Some m) = cond (m.0 == n) (Some m.1) None

pub sorted : {M : Type 0} (P : ℕ → Message → Type 0) (to : ℕ) (pick : ℕ → Message → Option (ℕ × M)) (wrap : M → Message) → ((t : ℕ) (x : Message) → P t x → option_map wrap (of_one to (pick t x)) ≡ cond (t == to) (Some x) None)
    → (sent : List Sent) → AllSent P sent → filter_map (message_to to) sent ≡ map wrap (mine to (filter_map (λ (m : Sent). pick m.to m.message) sent))
sorted P to pick wrap one [] all = refl
sorted {M} P to pick wrap one (m ∷ sent) all = ap (λ (o : Option Message). cons_option o (filter_map (message_to to) sent)) (sym (one m.to m.message all.0)) ∙ by_pick (pick m.to m.message) (sorted P to pick wrap one sent all.1)
  where
    Rest : Type 0
    Rest = filter_map (message_to to) sent ≡ map wrap (mine to (filter_map (λ (m : Sent). pick m.to m.message) sent))

    by_test : (b : Bool) (x : M) → Rest → cons_option (option_map wrap (cond b (Some x) None)) (filter_map (message_to to) sent) ≡ map wrap (cond b (x ∷ mine to (filter_map (λ (m : Sent). pick m.to m.message) sent)) (mine to (filter_map (λ (m : Sent). pick m.to m.message) sent)))
    by_test true x e = ap (λ (l : List Message). wrap x ∷ l) e
    by_test false x e = e

    by_pick : (o : Option (ℕ × M)) → Rest → cons_option (option_map wrap (of_one to o)) (filter_map (message_to to) sent) ≡ map wrap (mine to (cons_option o (filter_map (λ (m : Sent). pick m.to m.message) sent)))
    by_pick None e = e
    by_pick (Some x) e = by_test (x.0 == to) x.1 e

-- two numbers are apart
abbrev pub Apart : ℕ → ℕ → Type 0
Apart a b = ((a == b) ≡ false) × ((b == a) ≡ false)

pub apart : (a b : ℕ) → (a ≡ b → ⊥) → Apart a b
apart a b differ = (grind (arith, nat_tests, differ), grind (arith, nat_tests, differ))

pub itself : (n : ℕ) → (n == n) ≡ true
itself n = grind (arith, nat_tests)

-- a client's number is neither the server's nor the store's
abbrev pub IsClient : ℕ → ℕ → Type 0
IsClient store n = Apart n 0 × Apart n store

-- the channels between nodes
pub data Channel : Type 0 where
  Down Up Asked Stored : ℕ → Channel
  Ordered Reported : Channel

abbrev pub from_of : ℕ → Channel → ℕ
from_of store (Down n) = 0
from_of store (Up n) = n
from_of store (Asked n) = n
from_of store (Stored n) = store
from_of store Ordered = 0
from_of store Reported = store

abbrev pub to_of : ℕ → Channel → ℕ
to_of store (Down n) = n
to_of store (Up n) = 0
to_of store (Asked n) = store
to_of store (Stored n) = n
to_of store Ordered = store
to_of store Reported = 0

abbrev pub IsChannel : ℕ → Channel → Type 0
IsChannel store (Down n) = IsClient store n
IsChannel store (Up n) = IsClient store n
IsChannel store (Asked n) = IsClient store n
IsChannel store (Stored n) = IsClient store n
IsChannel store Ordered = Unit {0}
IsChannel store Reported = Unit {0}

abbrev pub content : World → Channel → List Message
content w (Down n) = map message.ToClient (mine n w.down)
content w (Up n) = map message.ToServer (mine n w.up)
content w (Asked n) = map message.ToStore (mine n w.asked)
content w (Stored n) = map message.FromStore (mine n w.stored)
content w Ordered = map message.ToStore w.ordered
content w Reported = map message.ToServer w.reported

-- what a row sends along a channel
abbrev pub sent_along : ℕ → Channel → Made → List Message
sent_along store channel made = cond (made.node == from_of store channel) (filter_map (message_to (to_of store channel)) made.sent) []

abbrev pub Sends : ℕ → World → Made → Type 0
Sends store w made = (channel : Channel) → IsChannel store channel → content made.world channel ≡ content w channel ++ sent_along store channel made

-- nothing is sent by another
none_sent : (b : Bool) (here sent : List Message) → b ≡ false → here ≡ here ++ cond b sent []
none_sent b here sent is = rw is (sym (append-nil here))

all_sent : {M : Type 0} (b : Bool) (wrap : M → Message) (here new : List M) (sent : List Message) → b ≡ true → sent ≡ map wrap new → map wrap (here ++ new) ≡ map wrap here ++ cond b sent []
all_sent b wrap here new sent is e = rw (is, e) (map-append wrap here new)

-- the server's row
pub server_sends : (store : ℕ) (w : World) (taken : Option Message) (r : Row Server) → Apart store 0 → AllSent (ByServer store) r.sent → Sends store w (at_server w taken r)
server_sends store w taken r zero all = by_channel
  where
    to_client : (n : ℕ) → IsClient store n → (t : ℕ) (x : Message) → ByServer store t x → option_map message.ToClient (of_one n (told_to t x)) ≡ cond (t == n) (Some x) None
    to_client n is t (message.ToClient told) by = by_test (t == n)
      where
        by_test : (b : Bool) → option_map message.ToClient (cond b (Some told) None) ≡ cond b (Some (message.ToClient told)) None
        by_test true = refl
        by_test false = refl
    to_client n is t (message.ToStore order) by = rw (by, is.1.1) refl
    to_client n is t other by = absurd by

    to_the_store : (t : ℕ) (x : Message) → ByServer store t x → option_map message.ToStore (for_store x) ≡ cond (t == store) (Some x) None
    to_the_store t (message.ToClient told) by = rw by refl
    to_the_store t (message.ToStore order) by = rw (by, itself store) refl
    to_the_store t other by = absurd by

    by_channel : Sends store w (at_server w taken r)
    by_channel (Down n) is = ap (map message.ToClient) (mine_append n w.down (to_clients r.sent)) ∙ all_sent true message.ToClient (mine n w.down) (mine n (to_clients r.sent)) _ refl (sorted (ByServer store) n told_to message.ToClient (to_client n is) r.sent all)
    by_channel (Up n) is = none_sent (0 == n) _ _ is.0.1
    by_channel (Asked n) is = none_sent (0 == n) _ _ is.0.1
    by_channel (Stored n) is = none_sent (0 == store) _ _ zero.1
    by_channel Ordered is = all_sent true message.ToStore w.ordered (to_store r.sent) _ refl (gathered (ByServer store) store for_store message.ToStore to_the_store r.sent all)
    by_channel Reported is = none_sent (0 == store) _ _ zero.1

-- a client's row
pub client_sends : (store x : ℕ) (w : World) (taken : Option Message) (r : Row Client) → Apart store 0 → IsClient store x → AllSent (ByClient store) r.sent → Sends store w (at_client x w taken r)
client_sends store x w taken r zero at all = by_channel
  where
    for_the_server : (t : ℕ) (m : Message) → ByClient store t m → option_map message.ToServer (for_server m) ≡ cond (t == 0) (Some m) None
    for_the_server t (message.ToServer said) by = rw by refl
    for_the_server t (message.ToStore order) by = rw (by, zero.0) refl
    for_the_server t other by = absurd by

    for_the_store : (t : ℕ) (m : Message) → ByClient store t m → option_map message.ToStore (for_store m) ≡ cond (t == store) (Some m) None
    for_the_store t (message.ToServer said) by = rw (by, zero.1) refl
    for_the_store t (message.ToStore order) by = rw (by, itself store) refl
    for_the_store t other by = absurd by

    tags : {M : Type 0} (wrap : M → Message) (n : ℕ) (here : List (ℕ × M)) (new : List M) (sent : List Message) → sent ≡ map wrap new → map wrap (mine n (here ++ tagged x new)) ≡ map wrap (mine n here) ++ cond (x == n) sent []
    tags {M} wrap n here new sent e = ap (map wrap) (mine_append n here (tagged x new)) ∙ by_test (x == n) refl
      where
        same : (x == n) ≡ true → n ≡ x
        same test = grind (arith, nat_tests, test)

        by_test : (b : Bool) → (x == n) ≡ b → map wrap (mine n here ++ mine n (tagged x new)) ≡ map wrap (mine n here) ++ cond b sent []
        by_test true test = ap (λ (l : List M). map wrap (mine n here ++ l)) (subst (λ (y : ℕ). mine y (tagged x new) ≡ new) (sym (same test)) (mine_tagged x new)) ∙ all_sent true wrap (mine n here) new sent refl e
        by_test false test = ap (λ (l : List M). map wrap (mine n here ++ l)) (mine_other n x new test) ∙ map-append wrap (mine n here) []

    by_channel : Sends store w (at_client x w taken r)
    by_channel (Down n) is = none_sent (x == 0) _ _ at.0.0
    by_channel (Up n) is = tags message.ToServer n w.up (to_server r.sent) _ (gathered (ByClient store) 0 for_server message.ToServer for_the_server r.sent all)
    by_channel (Asked n) is = tags message.ToStore n w.asked (to_store r.sent) _ (gathered (ByClient store) store for_store message.ToStore for_the_store r.sent all)
    by_channel (Stored n) is = none_sent (x == store) _ _ at.1.0
    by_channel Ordered is = none_sent (x == 0) _ _ at.0.0
    by_channel Reported is = none_sent (x == store) _ _ at.1.0

-- the store's row
pub store_sends : (store : ℕ) (w : World) (taken : Message) (r : Row (List ToStore)) → w.server.clients + 1 ≡ store → Apart store 0 → AllSent ByStore r.sent → Sends store w (at_store w taken r)
store_sends store w taken r number zero all = by_channel
  where
    back_to : (n : ℕ) → IsClient store n → (t : ℕ) (x : Message) → ByStore t x → option_map message.FromStore (of_one n (stored_to t x)) ≡ cond (t == n) (Some x) None
    back_to n is t (message.FromStore said) by = by_test (t == n)
      where
        by_test : (b : Bool) → option_map message.FromStore (cond b (Some said) None) ≡ cond b (Some (message.FromStore said)) None
        by_test true = refl
        by_test false = refl
    back_to n is t (message.ToServer said) by = rw (by, is.0.1) refl
    back_to n is t other by = absurd by

    back_to_server : (t : ℕ) (x : Message) → ByStore t x → option_map message.ToServer (for_server x) ≡ cond (t == 0) (Some x) None
    back_to_server t (message.FromStore said) by = rw by refl
    back_to_server t (message.ToServer said) by = rw by refl
    back_to_server t other by = absurd by

    here : (w.server.clients + 1 == store) ≡ true
    here = grind (arith, nat_tests, number)

    other : (n : ℕ) → Apart n store → (w.server.clients + 1 == n) ≡ false
    other n is = rw number is.1

    by_channel : Sends store w (at_store w taken r)
    by_channel (Down n) is = none_sent (w.server.clients + 1 == 0) _ _ (other 0 (zero.1, zero.0))
    by_channel (Up n) is = none_sent (w.server.clients + 1 == n) _ _ (other n is.1)
    by_channel (Asked n) is = none_sent (w.server.clients + 1 == n) _ _ (other n is.1)
    by_channel (Stored n) is = ap (map message.FromStore) (mine_append n w.stored (answered r.sent)) ∙ all_sent (w.server.clients + 1 == store) message.FromStore (mine n w.stored) (mine n (answered r.sent)) _ here (sorted ByStore n stored_to message.FromStore (back_to n is) r.sent all)
    by_channel Ordered is = none_sent (w.server.clients + 1 == 0) _ _ (other 0 (zero.1, zero.0))
    by_channel Reported is = all_sent (w.server.clients + 1 == store) message.ToServer w.reported (to_server r.sent) _ here (gathered ByStore 0 for_server message.ToServer back_to_server r.sent all)

-- what a step takes along a channel: from one node, at another
abbrev pub taken_along : ℕ → Channel → ℕ → Option ℕ → Option Message → List Message
taken_along store channel node source taken = cond (node == to_of store channel && is_node (from_of store channel) source) (taken_list taken) []

abbrev pub Takes : ℕ → World → World → ℕ → Option ℕ → Option Message → Type 0
Takes store w next node source taken = (channel : Channel) → IsChannel store channel → taken_along store channel node source taken ++ content next channel ≡ content w channel

miss_first : (a b : Bool) (taken here : List Message) → a ≡ false → cond (a && b) taken [] ++ here ≡ here
miss_first a b taken here is = rw is refl

miss_second : (a b : Bool) (taken here : List Message) → b ≡ false → cond (a && b) taken [] ++ here ≡ here
miss_second true b taken here is = rw is refl
miss_second false b taken here is = refl

-- the head is taken from one channel, and every other stays
one_taken : {M : Type 0} (wrap : M → Message) (x n : ℕ) (channels rest : List (ℕ × M)) (m : M) → IsHead x channels (m, rest) → cond (x == n) (wrap m ∷ []) [] ++ map wrap (mine n rest) ≡ map wrap (mine n channels)
one_taken wrap x n channels rest m head = by_test (x == n) refl
  where
    same : (x == n) ≡ true → x ≡ n
    same test = grind (arith, nat_tests, test)

    by_test : (b : Bool) → (x == n) ≡ b → cond b (wrap m ∷ []) [] ++ map wrap (mine n rest) ≡ map wrap (mine n channels)
    by_test true test = ap (map wrap) (sym (subst (λ (y : ℕ). mine y channels ≡ m ∷ mine y rest) (same test) head.0))
    by_test false test = ap (map wrap) (head.1 n test)

first_alone : (a b : Bool) (taken : List Message) → b ≡ true → cond (a && b) taken [] ≡ cond a taken []
first_alone true b taken is = rw is refl
first_alone false b taken is = refl

both_taken : (a b : Bool) (taken here before : List Message) → b ≡ true → cond a taken [] ++ here ≡ before → cond (a && b) taken [] ++ here ≡ before
both_taken a b taken here before is e = ap (λ (l : List Message). l ++ here) (first_alone a b taken is) ∙ e

second_taken : (a b : Bool) (taken here before : List Message) → a ≡ true → cond b taken [] ++ here ≡ before → cond (a && b) taken [] ++ here ≡ before
second_taken a b taken here before is e = rw is e

-- nothing is taken
pub none_taken : (store : ℕ) (w : World) (node : ℕ) (taken : Option Message) → Takes store w w node None taken
none_taken store w node taken channel is = miss_second (node == to_of store channel) false (taken_list taken) (content w channel) refl

-- a client takes from the server, and from the store
pub down_taken : (store x : ℕ) (w : World) (rest : List (ℕ × ToClient)) (m : ToClient) → Apart store 0 → IsClient store x → IsHead x w.down (m, rest) → Takes store w (record w { down = rest }) x (Some 0) (Some (message.ToClient m))
down_taken store x w rest m zero at head = by_channel
  where
    by_channel : Takes store w (record w { down = rest }) x (Some 0) (Some (message.ToClient m))
    by_channel (Down n) is = both_taken (x == n) true _ _ _ refl (one_taken message.ToClient x n w.down rest m head)
    by_channel (Up n) is = miss_second (x == 0) (0 == n) _ _ is.0.1
    by_channel (Asked n) is = miss_second (x == store) (0 == n) _ _ is.0.1
    by_channel (Stored n) is = miss_second (x == n) (0 == store) _ _ zero.1
    by_channel Ordered is = miss_first (x == store) true _ _ at.1.0
    by_channel Reported is = miss_second (x == 0) (0 == store) _ _ zero.1

pub stored_taken : (store x : ℕ) (w : World) (rest : List (ℕ × FromStore)) (m : FromStore) → Apart store 0 → IsClient store x → IsHead x w.stored (m, rest) → Takes store w (record w { stored = rest }) x (Some store) (Some (message.FromStore m))
stored_taken store x w rest m zero at head = by_channel
  where
    by_channel : Takes store w (record w { stored = rest }) x (Some store) (Some (message.FromStore m))
    by_channel (Down n) is = miss_second (x == n) (store == 0) _ _ zero.0
    by_channel (Up n) is = miss_second (x == 0) (store == n) _ _ is.1.1
    by_channel (Asked n) is = miss_second (x == store) (store == n) _ _ is.1.1
    by_channel (Stored n) is = both_taken (x == n) (store == store) _ _ _ (itself store) (one_taken message.FromStore x n w.stored rest m head)
    by_channel Ordered is = miss_second (x == store) (store == 0) _ _ zero.0
    by_channel Reported is = miss_first (x == 0) (store == store) _ _ at.0.0

-- the server takes from a client, and from the store
pub up_taken : (store x : ℕ) (w : World) (rest : List (ℕ × ToServer)) (m : ToServer) → Apart store 0 → IsClient store x → IsHead x w.up (m, rest) → Takes store w (record w { up = rest }) 0 (Some x) (Some (message.ToServer m))
up_taken store x w rest m zero at head = by_channel
  where
    by_channel : Takes store w (record w { up = rest }) 0 (Some x) (Some (message.ToServer m))
    by_channel (Down n) is = miss_second (0 == n) (x == 0) _ _ at.0.0
    by_channel (Up n) is = second_taken true (x == n) _ _ _ refl (one_taken message.ToServer x n w.up rest m head)
    by_channel (Asked n) is = miss_first (0 == store) (x == n) _ _ zero.1
    by_channel (Stored n) is = miss_second (0 == n) (x == store) _ _ at.1.0
    by_channel Ordered is = miss_second (0 == store) (x == 0) _ _ at.0.0
    by_channel Reported is = miss_second true (x == store) _ _ at.1.0

pub reported_taken : (store : ℕ) (w : World) (rest : List ToServer) (m : ToServer) → Apart store 0 → w.reported ≡ m ∷ rest → Takes store w (record w { reported = rest }) 0 (Some store) (Some (message.ToServer m))
reported_taken store w rest m zero head = by_channel
  where
    by_channel : Takes store w (record w { reported = rest }) 0 (Some store) (Some (message.ToServer m))
    by_channel (Down n) is = miss_second (0 == n) (store == 0) _ _ zero.0
    by_channel (Up n) is = miss_second true (store == n) _ _ is.1.1
    by_channel (Asked n) is = miss_second (0 == store) (store == n) _ _ is.1.1
    by_channel (Stored n) is = miss_first (0 == n) (store == store) _ _ is.0.1
    by_channel Ordered is = miss_first (0 == store) (store == 0) _ _ zero.1
    by_channel Reported is = second_taken true (store == store) _ _ _ refl (rw (itself store) (ap (map message.ToServer) (sym head)))

-- the store takes from a client, and from the server
pub asked_taken : (store x : ℕ) (w : World) (rest : List (ℕ × ToStore)) (m : ToStore) → Apart store 0 → IsClient store x → IsHead x w.asked (m, rest) → Takes store w (record w { asked = rest }) store (Some x) (Some (message.ToStore m))
asked_taken store x w rest m zero at head = by_channel
  where
    by_channel : Takes store w (record w { asked = rest }) store (Some x) (Some (message.ToStore m))
    by_channel (Down n) is = miss_second (store == n) (x == 0) _ _ at.0.0
    by_channel (Up n) is = miss_first (store == 0) (x == n) _ _ zero.0
    by_channel (Asked n) is = second_taken (store == store) (x == n) _ _ _ (itself store) (one_taken message.ToStore x n w.asked rest m head)
    by_channel (Stored n) is = miss_second (store == n) (x == store) _ _ at.1.0
    by_channel Ordered is = miss_second (store == store) (x == 0) _ _ at.0.0
    by_channel Reported is = miss_second (store == 0) (x == store) _ _ at.1.0

pub ordered_taken : (store : ℕ) (w : World) (rest : List ToStore) (m : ToStore) → Apart store 0 → w.ordered ≡ m ∷ rest → Takes store w (record w { ordered = rest }) store (Some 0) (Some (message.ToStore m))
ordered_taken store w rest m zero head = by_channel
  where
    by_channel : Takes store w (record w { ordered = rest }) store (Some 0) (Some (message.ToStore m))
    by_channel (Down n) is = miss_first (store == n) true _ _ is.1.1
    by_channel (Up n) is = miss_first (store == 0) (0 == n) _ _ zero.0
    by_channel (Asked n) is = miss_second (store == store) (0 == n) _ _ is.0.1
    by_channel (Stored n) is = miss_first (store == n) (0 == store) _ _ is.1.1
    by_channel Ordered is = both_taken (store == store) true _ _ _ refl (rw (itself store) (ap (map message.ToStore) (sym head)))
    by_channel Reported is = miss_first (store == 0) (0 == store) _ _ zero.0

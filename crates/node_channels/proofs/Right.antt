-- What is sent well adds to each channel of the table what it adds to the channel of the nodes.
use Rattle.std.proofs.Common.{◌≡◌, ℕ, ◌+◌, List, [], ◌∷◌, Bool, true, false, cond, filter_map, Option, None, Some, option_map, option_and_then, refl, sym, ap, ◌∙◌, subst, arith}
use Rattle.std.proofs.lemmas.Bool.Decides.{nat_tests}
use Rattle.std.specs.Prelude.{◌==◌, ◌&&◌, not}
use Rattle.std.specs.List.{list_all, cons_option}
use Rattle.plain_types.specs.declared.history.Sent.{Sent}
use Rattle.plain_types.specs.declared.history.Step.{Step}
use Rattle.plain_types.specs.declared.history.Step.TheVariants.{Op, Flush, ClientFromServer, ClientFromStore, ServerTakes, Commit, Restart, Tend, StoreTakes}
use Rattle.plain_types.specs.declared.message.Message.{Message}
use Rattle.plain_types.specs.declared.message.Message.TheVariants as message
use Rattle.node_core.specs.Steps.{is_client, are_peers, message_fits, taking_step, is_sent_well, is_order, is_report, is_to_client, is_to_server, is_to_store, is_from_store}
use Rattle.node_channels.proofs.Changed.{same_step, equal, itself, turned}
use Rattle.node_channels.proofs.Sends.{for_step}
use Rattle.node_channels.proofs.Table.{by_server, by_client, by_store}

front : (a b : Bool) → (a && b) ≡ true → a ≡ true
front true b is = refl
front false b is = cc

behind : (a b : Bool) → (a && b) ≡ true → b ≡ true
behind true b is = is
behind false b is = cc

abbrev nothing : Option Message
nothing = None

none_both : (b : Bool) → cond b nothing nothing ≡ nothing
none_both true = refl
none_both false = refl

none_three : (a b : Bool) → cond a nothing (cond b nothing nothing) ≡ nothing
none_three true b = refl
none_three false b = none_both b

-- an order of the server
order_one : (to : ℕ) (step : Step) (x : Message) → is_order x ≡ true → by_server step to x ≡ cond (same_step (StoreTakes 0) step) (Some x) None
order_one to (StoreTakes n) (message.ToStore order) is = ap (λ (b : Bool). cond b (Some (message.ToStore order)) nothing) (turned n 0)
order_one to (ClientFromServer n) (message.ToStore order) is = refl
order_one to (ClientFromStore n) (message.ToStore order) is = refl
order_one to (ServerTakes n) (message.ToStore order) is = refl
order_one to (Op n) (message.ToStore order) is = refl
order_one to (Flush n) (message.ToStore order) is = refl
order_one to Commit (message.ToStore order) is = refl
order_one to (Restart n) (message.ToStore order) is = refl
order_one to Tend (message.ToStore order) is = refl
order_one to step (message.ToServer said) is = cc
order_one to step (message.ToClient told) is = cc
order_one to step (message.FromStore said) is = cc

-- what the server tells a client
told_one : (to : ℕ) (step : Step) (x : Message) → is_to_client x ≡ true → by_server step to x ≡ cond (same_step (ClientFromServer to) step) (Some x) None
told_one to (StoreTakes n) (message.ToClient told) is = none_both (n == 0)
told_one to (ClientFromServer n) (message.ToClient told) is = refl
told_one to (ClientFromStore n) (message.ToClient told) is = refl
told_one to (ServerTakes n) (message.ToClient told) is = refl
told_one to (Op n) (message.ToClient told) is = refl
told_one to (Flush n) (message.ToClient told) is = refl
told_one to Commit (message.ToClient told) is = refl
told_one to (Restart n) (message.ToClient told) is = refl
told_one to Tend (message.ToClient told) is = refl
told_one to step (message.ToServer said) is = cc
told_one to step (message.ToStore order) is = cc
told_one to step (message.FromStore said) is = cc

not_itself : (clients to : ℕ) → are_peers clients 0 to ≡ true → (to == 0) ≡ true → ⊥
not_itself clients to peers is = absurd (grind arith)

server_one : (clients : ℕ) (step : Step) (to : ℕ) (x : Message) → (are_peers clients 0 to && message_fits clients (taking_step clients 0 to) x) ≡ true → by_server step to x ≡ cond (same_step (taking_step clients 0 to) step) (Some x) None
server_one clients step to x well = go (to == 0) (to == clients + 1) refl refl well
  where
    go : (a b : Bool) → (to == 0) ≡ a → (to == clients + 1) ≡ b → (are_peers clients 0 to && message_fits clients (cond a (ServerTakes 0) (cond b (StoreTakes 0) (ClientFromServer to))) x) ≡ true
        → by_server step to x ≡ cond (same_step (cond a (ServerTakes 0) (cond b (StoreTakes 0) (ClientFromServer to))) step) (Some x) None
    go true b p q well = absurd (not_itself clients to (front (are_peers clients 0 to) _ well) p)
    go false true p q well = order_one to step x (behind (are_peers clients 0 to) _ well)
    go false false p q well = told_one to step x (behind (are_peers clients 0 to) _ well)

pub server_right : (clients : ℕ) (step : Step) (sent : List Sent) → list_all (is_sent_well clients 0) sent ≡ true → filter_map (λ (m : Sent). by_server step m.to m.message) sent ≡ filter_map (for_step clients 0 step) sent
server_right clients step [] well = refl
server_right clients step (m ∷ sent) well =
    ap (λ (o : Option Message). cons_option o (filter_map (λ (m : Sent). by_server step m.to m.message) sent)) (server_one clients step m.to m.message (front (is_sent_well clients 0 m) (list_all (is_sent_well clients 0) sent) well))
    ∙ ap (cons_option (for_step clients 0 step m)) (server_right clients step sent (behind (is_sent_well clients 0 m) (list_all (is_sent_well clients 0) sent) well))

-- what a client says to the server, and asks the store
said_only : (x n end : ℕ) (y : Message) → (x == end) ≡ false → cond (n == end) nothing (cond (x == n) (Some y) nothing) ≡ cond (x == n) (Some y) nothing
said_only x n end y apart = go (n == end) (x == n) refl refl
  where
    never : (n == end) ≡ true → (x == n) ≡ true → ⊥
    never p q = absurd (let e = equal n end p in let f = equal x n q in grind (arith, nat_tests, apart, e, f))

    go : (a b : Bool) → (n == end) ≡ a → (x == n) ≡ b → cond a nothing (cond b (Some y) nothing) ≡ cond b (Some y) nothing
    go true true p q = absurd (never p q)
    go true false p q = refl
    go false b p q = refl

said_one : (clients x to : ℕ) (step : Step) (y : Message) → (x == clients + 1) ≡ false → is_to_server y ≡ true → by_client clients x step to y ≡ cond (same_step (ServerTakes x) step) (Some y) None
said_one clients x to (ServerTakes n) (message.ToServer said) apart is = said_only x n (clients + 1) (message.ToServer said) apart
said_one clients x to (StoreTakes n) (message.ToServer said) apart is = none_three (n == 0) (x == n)
said_one clients x to (ClientFromServer n) (message.ToServer said) apart is = refl
said_one clients x to (ClientFromStore n) (message.ToServer said) apart is = refl
said_one clients x to (Op n) (message.ToServer said) apart is = refl
said_one clients x to (Flush n) (message.ToServer said) apart is = refl
said_one clients x to Commit (message.ToServer said) apart is = refl
said_one clients x to (Restart n) (message.ToServer said) apart is = refl
said_one clients x to Tend (message.ToServer said) apart is = refl
said_one clients x to step (message.ToClient told) apart is = cc
said_one clients x to step (message.ToStore order) apart is = cc
said_one clients x to step (message.FromStore said) apart is = cc

asked_one : (clients x to : ℕ) (step : Step) (y : Message) → (x == 0) ≡ false → is_to_store y ≡ true → by_client clients x step to y ≡ cond (same_step (StoreTakes x) step) (Some y) None
asked_one clients x to (StoreTakes n) (message.ToStore order) apart is = said_only x n 0 (message.ToStore order) apart
asked_one clients x to (ServerTakes n) (message.ToStore order) apart is = none_three (n == clients + 1) (x == n)
asked_one clients x to (ClientFromServer n) (message.ToStore order) apart is = refl
asked_one clients x to (ClientFromStore n) (message.ToStore order) apart is = refl
asked_one clients x to (Op n) (message.ToStore order) apart is = refl
asked_one clients x to (Flush n) (message.ToStore order) apart is = refl
asked_one clients x to Commit (message.ToStore order) apart is = refl
asked_one clients x to (Restart n) (message.ToStore order) apart is = refl
asked_one clients x to Tend (message.ToStore order) apart is = refl
asked_one clients x to step (message.ToServer said) apart is = cc
asked_one clients x to step (message.ToClient told) apart is = cc
asked_one clients x to step (message.FromStore said) apart is = cc

its_kind : (b own kind : Bool) → b ≡ false → cond b own (kind && not own) ≡ true → kind ≡ true
its_kind true own kind not_it is = cc
its_kind false own kind not_it is = front kind (not own) is

pub client_not_store : (clients x : ℕ) → is_client clients x ≡ true → (x == clients + 1) ≡ false
client_not_store clients x is = grind arith

pub client_not_server : (clients x : ℕ) → is_client clients x ≡ true → (x == 0) ≡ false
client_not_server clients x is = grind arith

client_to_end : (clients x to : ℕ) → is_client clients x ≡ true → are_peers clients x to ≡ true → (to == 0) ≡ false → (to == clients + 1) ≡ false → ⊥
client_to_end clients x to is peers p q = absurd (grind arith)

client_one : (clients x : ℕ) (step : Step) (to : ℕ) (y : Message) → is_client clients x ≡ true → (are_peers clients x to && message_fits clients (taking_step clients x to) y) ≡ true → by_client clients x step to y ≡ cond (same_step (taking_step clients x to) step) (Some y) None
client_one clients x step to y is well = go (to == 0) (to == clients + 1) refl refl well
  where
    go : (a b : Bool) → (to == 0) ≡ a → (to == clients + 1) ≡ b → (are_peers clients x to && message_fits clients (cond a (ServerTakes x) (cond b (StoreTakes x) (cond (x == 0) (ClientFromServer to) (ClientFromStore to)))) y) ≡ true
        → by_client clients x step to y ≡ cond (same_step (cond a (ServerTakes x) (cond b (StoreTakes x) (cond (x == 0) (ClientFromServer to) (ClientFromStore to)))) step) (Some y) None
    go true b p q well = said_one clients x to step y (client_not_store clients x is) (its_kind (x == clients + 1) (is_report y) (is_to_server y) (client_not_store clients x is) (behind (are_peers clients x to) _ well))
    go false true p q well = asked_one clients x to step y (client_not_server clients x is) (its_kind (x == 0) (is_order y) (is_to_store y) (client_not_server clients x is) (behind (are_peers clients x to) _ well))
    go false false p q well = absurd (client_to_end clients x to is (front (are_peers clients x to) _ well) p q)

pub client_right : (clients x : ℕ) → is_client clients x ≡ true → (step : Step) (sent : List Sent) → list_all (is_sent_well clients x) sent ≡ true → filter_map (λ (m : Sent). by_client clients x step m.to m.message) sent ≡ filter_map (for_step clients x step) sent
client_right clients x is step [] well = refl
client_right clients x is step (m ∷ sent) well =
    ap (λ (o : Option Message). cons_option o (filter_map (λ (m : Sent). by_client clients x step m.to m.message) sent)) (client_one clients x step m.to m.message is (front (is_sent_well clients x m) (list_all (is_sent_well clients x) sent) well))
    ∙ ap (cons_option (for_step clients x step m)) (client_right clients x is step sent (behind (is_sent_well clients x m) (list_all (is_sent_well clients x) sent) well))

-- what the store reports, and answers
report_one : (clients to : ℕ) (step : Step) (y : Message) → is_report y ≡ true → by_store clients step to y ≡ cond (same_step (ServerTakes (clients + 1)) step) (Some y) None
report_one clients to (ServerTakes n) (message.ToServer said) is = ap (λ (b : Bool). cond b (Some (message.ToServer said)) nothing) (turned n (clients + 1))
report_one clients to (StoreTakes n) (message.ToServer said) is = refl
report_one clients to (ClientFromServer n) (message.ToServer said) is = refl
report_one clients to (ClientFromStore n) (message.ToServer said) is = refl
report_one clients to (Op n) (message.ToServer said) is = refl
report_one clients to (Flush n) (message.ToServer said) is = refl
report_one clients to Commit (message.ToServer said) is = refl
report_one clients to (Restart n) (message.ToServer said) is = refl
report_one clients to Tend (message.ToServer said) is = refl
report_one clients to step (message.ToClient told) is = cc
report_one clients to step (message.ToStore order) is = cc
report_one clients to step (message.FromStore said) is = cc

answer_one : (clients to : ℕ) (step : Step) (y : Message) → is_from_store y ≡ true → by_store clients step to y ≡ cond (same_step (ClientFromStore to) step) (Some y) None
answer_one clients to (ServerTakes n) (message.FromStore said) is = none_both (n == clients + 1)
answer_one clients to (StoreTakes n) (message.FromStore said) is = refl
answer_one clients to (ClientFromServer n) (message.FromStore said) is = refl
answer_one clients to (ClientFromStore n) (message.FromStore said) is = refl
answer_one clients to (Op n) (message.FromStore said) is = refl
answer_one clients to (Flush n) (message.FromStore said) is = refl
answer_one clients to Commit (message.FromStore said) is = refl
answer_one clients to (Restart n) (message.FromStore said) is = refl
answer_one clients to Tend (message.FromStore said) is = refl
answer_one clients to step (message.ToClient told) is = cc
answer_one clients to step (message.ToStore order) is = cc
answer_one clients to step (message.ToServer said) is = cc

no_peer : (clients to : ℕ) → are_peers clients (clients + 1) to ≡ true → (to == clients + 1) ≡ true → ⊥
no_peer clients to peers is = absurd (grind arith)

no_server : (clients : ℕ) → (clients + 1 == 0) ≡ true → ⊥
no_server clients is = absurd (grind arith)

own_kind : (b own other : Bool) → b ≡ true → cond b own other ≡ true → own ≡ true
own_kind true own other sure is = is
own_kind false own other sure is = cc

store_one : (clients : ℕ) (step : Step) (to : ℕ) (y : Message) → (are_peers clients (clients + 1) to && message_fits clients (taking_step clients (clients + 1) to) y) ≡ true → by_store clients step to y ≡ cond (same_step (taking_step clients (clients + 1) to) step) (Some y) None
store_one clients step to y well = go (to == 0) (to == clients + 1) (clients + 1 == 0) refl refl refl well
  where
    go : (a b e : Bool) → (to == 0) ≡ a → (to == clients + 1) ≡ b → (clients + 1 == 0) ≡ e → (are_peers clients (clients + 1) to && message_fits clients (cond a (ServerTakes (clients + 1)) (cond b (StoreTakes (clients + 1)) (cond e (ClientFromServer to) (ClientFromStore to)))) y) ≡ true
        → by_store clients step to y ≡ cond (same_step (cond a (ServerTakes (clients + 1)) (cond b (StoreTakes (clients + 1)) (cond e (ClientFromServer to) (ClientFromStore to)))) step) (Some y) None
    go true b e p q r well = report_one clients to step y (own_kind (clients + 1 == clients + 1) (is_report y) (is_to_server y && not (is_report y)) (itself (clients + 1)) (behind (are_peers clients (clients + 1) to) _ well))
    go false true e p q r well = absurd (no_peer clients to (front (are_peers clients (clients + 1) to) _ well) q)
    go false false true p q r well = absurd (no_server clients r)
    go false false false p q r well = answer_one clients to step y (behind (are_peers clients (clients + 1) to) _ well)

pub store_right : (clients : ℕ) (step : Step) (sent : List Sent) → list_all (is_sent_well clients (clients + 1)) sent ≡ true → filter_map (λ (m : Sent). by_store clients step m.to m.message) sent ≡ filter_map (for_step clients (clients + 1) step) sent
store_right clients step [] well = refl
store_right clients step (m ∷ sent) well =
    ap (λ (o : Option Message). cons_option o (filter_map (λ (m : Sent). by_store clients step m.to m.message) sent)) (store_one clients step m.to m.message (front (is_sent_well clients (clients + 1) m) (list_all (is_sent_well clients (clients + 1)) sent) well))
    ∙ ap (cons_option (for_step clients (clients + 1) step m)) (store_right clients step sent (behind (is_sent_well clients (clients + 1) m) (list_all (is_sent_well clients (clients + 1)) sent) well))

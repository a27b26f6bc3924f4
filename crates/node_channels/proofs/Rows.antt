-- The row of a step in the world, as that of its node.
use Rattle.std.proofs.Common.{◌≡◌, ℕ, ◌+◌, List, [], ◌∷◌, Bool, true, false, cond, Option, None, Some, option_map, option_and_then, refl, sym, ap, ◌∙◌, subst, arith}
use Rattle.std.proofs.lemmas.Bool.Decides.{nat_tests}
use Rattle.std.specs.Prelude.{◌==◌, ◌&&◌}
use Rattle.plain_types.specs.declared.history.Step.{Step}
use Rattle.plain_types.specs.declared.history.Step.TheVariants.{Op, Flush, ClientFromServer, ClientFromStore, ServerTakes, Commit, Restart, Tend, StoreTakes}
use Rattle.plain_types.specs.declared.message.FromStore.{FromStore}
use Rattle.plain_types.specs.declared.message.Message.{Message}
use Rattle.plain_types.specs.declared.message.Message.TheVariants as message
use Rattle.plain_types.specs.declared.message.ToClient.{ToClient}
use Rattle.plain_types.specs.declared.message.ToServer.{ToServer}
use Rattle.plain_types.specs.declared.message.ToStore.{ToStore}
use Rattle.node_core.specs.Steps.{is_client, is_step_of}
use Rattle.step_table.specs.Nodes.{server_row, client_row, store_row, if_node}
use Rattle.step_table.specs.Row.{Row}
use Rattle.step_table.specs.ServerState.{Server}
use Rattle.step_table.specs.ServerRows.{on_take, on_report}
use Rattle.step_table.specs.ClientState.{Client}
use Rattle.step_table.specs.ClientLines.{on_op, on_flush}
use Rattle.step_table.specs.ClientTakes.{on_told, on_stored}
use Rattle.step_table.specs.StoreRows.{on_asked, on_ordered}
use Rattle.step_table.specs.World.{World, Made, row, client, pop, store_node, with_client, with_message, with_first, some_row, at_server, at_client, at_store, client_takes, client_takes_stored, server_takes, server_takes_report, store_takes, store_takes_order}
use Rattle.node_channels.specs.Stands.{of_one, of_list, takes, handed, by_server, by_client, by_store}
use Rattle.node_channels.proofs.Changed.{equal, itself}

no_client_zero : (clients n : ℕ) → (n == 0 && is_client clients n) ≡ true → ⊥
no_client_zero clients n own = absurd (grind arith)

no_store : (clients : ℕ) → (0 == clients + 1) ≡ true → ⊥
no_store clients own = absurd (grind arith)

no_client_store : (clients n : ℕ) → (n == clients + 1 && is_client clients n) ≡ true → ⊥
no_client_store clients n own = absurd (grind arith)

no_server : (clients : ℕ) → (clients + 1 == 0) ≡ true → ⊥
no_server clients own = absurd (grind arith)

not_server : (clients n : ℕ) → is_client clients n ≡ true → (n == 0) ≡ true → ⊥
not_server clients n is own = absurd (grind arith)

not_store : (clients n : ℕ) → is_client clients n ≡ true → (n == clients + 1) ≡ true → ⊥
not_store clients n is own = absurd (grind arith)

abbrev give : Message × World → Option Message × World
give found = (Some found.0, found.1)

-- the server
pub server_is : (w : World) (step : Step) → is_step_of w.server.clients 0 step ≡ true → row w step ≡ option_and_then (by_server w.server step) (handed w step)
server_is w Commit own = refl
server_is w (Restart k) own = refl
server_is w Tend own = refl
server_is w (ServerTakes n) own = by_test (n == store_node w) refl
  where
    report : (n == store_node w) ≡ true → (channel : List ToServer) → with_first channel (server_takes_report w) ≡ option_and_then (by_server w.server (ServerTakes n)) (option_map give (of_list message.ToServer (λ rest. record w { reported = rest }) channel))
    report test [] = refl
    report test (said ∷ rest) = ap (λ (b : Bool). Some (at_server (record w { reported = rest }) (Some (message.ToServer said)) (cond b (on_report w.server said) (on_take w.server n said)))) (sym test)

    said : (n == store_node w) ≡ false → (o : Option (ToServer × List (ℕ × ToServer))) → elim o [ None ↦ None | Some found ↦ server_takes n w found.1 found.0 ] ≡ option_and_then (by_server w.server (ServerTakes n)) (option_map give (of_one message.ToServer (λ rest. record w { up = rest }) o))
    said test None = refl
    said test (Some found) = ap (λ (b : Bool). Some (at_server (record w { up = found.1 }) (Some (message.ToServer found.0)) (cond b (on_report w.server found.0) (on_take w.server n found.0)))) (sym test)

    by_test : (b : Bool) → (n == store_node w) ≡ b → cond b (with_first w.reported (server_takes_report w)) (with_message n w.up (server_takes n w))
        ≡ option_and_then (by_server w.server (ServerTakes n)) (option_map give (cond b (of_list message.ToServer (λ rest. record w { reported = rest }) w.reported) (of_one message.ToServer (λ rest. record w { up = rest }) (pop n w.up))))
    by_test true test = report test w.reported
    by_test false test = said test (pop n w.up)
server_is w (Op n) own = absurd (no_client_zero w.server.clients n own)
server_is w (Flush n) own = absurd (no_client_zero w.server.clients n own)
server_is w (ClientFromServer n) own = absurd (no_client_zero w.server.clients n own)
server_is w (ClientFromStore n) own = absurd (no_client_zero w.server.clients n own)
server_is w (StoreTakes n) own = absurd (no_store w.server.clients own)

-- a client
own_number : (clients n k : ℕ) → (k == n && is_client clients k) ≡ true → k ≡ n
own_number clients n k own = grind arith

its_row : {S : Type 0} (number n : ℕ) (o : Option (Row S)) → number ≡ n → o ≡ if_node number n o
its_row {S} number n o is = ap (λ (b : Bool). cond b o None) (sym (subst (λ (k : ℕ). (k == number) ≡ true) is (itself number)))

pub client_is : (w : World) (n : ℕ) (c : Client) (step : Step) → client w.clients n ≡ Some c → c.number ≡ n → is_client w.server.clients n ≡ true
    → is_step_of w.server.clients n step ≡ true → row w step ≡ option_and_then (by_client c n step) (handed w step)
client_is w n c (Op k) there number is own = subst (λ (x : ℕ). row w (Op x) ≡ option_and_then (by_client c n (Op x)) (handed w (Op x))) (sym (own_number w.server.clients n k own))
    (ap (λ (o : Option Client). elim o [ None ↦ None | Some d ↦ some_row (at_client n w None) (on_op d) ]) there ∙ ap (some_row (at_client n w None)) (its_row c.number n (on_op c) number))
client_is w n c (Flush k) there number is own = subst (λ (x : ℕ). row w (Flush x) ≡ option_and_then (by_client c n (Flush x)) (handed w (Flush x))) (sym (own_number w.server.clients n k own))
    (ap (λ (o : Option Client). elim o [ None ↦ None | Some d ↦ some_row (at_client n w None) (on_flush d) ]) there ∙ ap (some_row (at_client n w None)) (its_row c.number n (on_flush c) number))
client_is w n c (ClientFromServer k) there number is own = subst (λ (x : ℕ). row w (ClientFromServer x) ≡ option_and_then (by_client c n (ClientFromServer x)) (handed w (ClientFromServer x))) (sym (own_number w.server.clients n k own)) (told (pop n w.down))
  where
    told : (o : Option (ToClient × List (ℕ × ToClient))) → elim o [ None ↦ None | Some found ↦ client_takes n w found.1 found.0 ] ≡ option_and_then (by_client c n (ClientFromServer n)) (option_map give (of_one message.ToClient (λ rest. record w { down = rest }) o))
    told None = refl
    told (Some found) =
        ap (λ (o : Option Client). elim o [ None ↦ None | Some d ↦ Some (at_client n (record w { down = found.1 }) (Some (message.ToClient found.0)) (on_told d found.0)) ]) there
        ∙ ap (some_row (at_client n (record w { down = found.1 }) (Some (message.ToClient found.0)))) (its_row c.number n (Some (on_told c found.0)) number)
client_is w n c (ClientFromStore k) there number is own = subst (λ (x : ℕ). row w (ClientFromStore x) ≡ option_and_then (by_client c n (ClientFromStore x)) (handed w (ClientFromStore x))) (sym (own_number w.server.clients n k own)) (given (pop n w.stored))
  where
    given : (o : Option (FromStore × List (ℕ × FromStore))) → elim o [ None ↦ None | Some found ↦ client_takes_stored n w found.1 found.0 ] ≡ option_and_then (by_client c n (ClientFromStore n)) (option_map give (of_one message.FromStore (λ rest. record w { stored = rest }) o))
    given None = refl
    given (Some found) =
        ap (λ (o : Option Client). elim o [ None ↦ None | Some d ↦ Some (at_client n (record w { stored = found.1 }) (Some (message.FromStore found.0)) (on_stored d found.0)) ]) there
        ∙ ap (some_row (at_client n (record w { stored = found.1 }) (Some (message.FromStore found.0)))) (its_row c.number n (Some (on_stored c found.0)) number)
client_is w n c (ServerTakes k) there number is own = absurd (not_server w.server.clients n is own)
client_is w n c Commit there number is own = absurd (not_server w.server.clients n is own)
client_is w n c (Restart k) there number is own = absurd (not_server w.server.clients n is own)
client_is w n c Tend there number is own = absurd (not_server w.server.clients n is own)
client_is w n c (StoreTakes k) there number is own = absurd (not_store w.server.clients n is own)

-- the store
pub store_is : (w : World) (step : Step) → is_step_of w.server.clients (w.server.clients + 1) step ≡ true → row w step ≡ option_and_then (by_store w.object w.store step) (takes w step)
store_is w (StoreTakes n) own = by_test (n == 0) refl
  where
    order : (n == 0) ≡ true → (channel : List ToStore) → with_first channel (store_takes_order w) ≡ option_and_then (by_store w.object w.store (StoreTakes n)) (of_list message.ToStore (λ rest. record w { ordered = rest }) channel)
    order test [] = refl
    order test (said ∷ rest) = ap (λ (b : Bool). Some (at_store (record w { ordered = rest }) (message.ToStore said) (cond b (on_ordered w.store said) (on_asked w.object w.store n said)))) (sym test)

    asked : (n == 0) ≡ false → (o : Option (ToStore × List (ℕ × ToStore))) → elim o [ None ↦ None | Some found ↦ store_takes n w found.1 found.0 ] ≡ option_and_then (by_store w.object w.store (StoreTakes n)) (of_one message.ToStore (λ rest. record w { asked = rest }) o)
    asked test None = refl
    asked test (Some found) = ap (λ (b : Bool). Some (at_store (record w { asked = found.1 }) (message.ToStore found.0) (cond b (on_ordered w.store found.0) (on_asked w.object w.store n found.0)))) (sym test)

    by_test : (b : Bool) → (n == 0) ≡ b → cond b (with_first w.ordered (store_takes_order w)) (with_message n w.asked (store_takes n w))
        ≡ option_and_then (by_store w.object w.store (StoreTakes n)) (cond b (of_list message.ToStore (λ rest. record w { ordered = rest }) w.ordered) (of_one message.ToStore (λ rest. record w { asked = rest }) (pop n w.asked)))
    by_test true test = order test w.ordered
    by_test false test = asked test (pop n w.asked)
store_is w (Op n) own = absurd (no_client_store w.server.clients n own)
store_is w (Flush n) own = absurd (no_client_store w.server.clients n own)
store_is w (ClientFromServer n) own = absurd (no_client_store w.server.clients n own)
store_is w (ClientFromStore n) own = absurd (no_client_store w.server.clients n own)
store_is w (ServerTakes n) own = absurd (no_server w.server.clients own)
store_is w Commit own = absurd (no_server w.server.clients own)
store_is w (Restart k) own = absurd (no_server w.server.clients own)
store_is w Tend own = absurd (no_server w.server.clients own)

-- What the rows of the table add to its channels.
use Rattle.std.proofs.Common.{◌≡◌, ℕ, ◌+◌, List, [], ◌∷◌, ◌++◌, append-nil, map, Bool, true, false, cond, filter_map, Option, None, Some, option_map, option_and_then, refl, sym, ap, ◌∙◌, subst, arith}
use Rattle.std.proofs.lemmas.List.{map-append}
use Rattle.std.proofs.lemmas.List.Elements.{filter_map-append}
use Rattle.std.proofs.lemmas.Bool.Decides.{nat_tests}
use Rattle.std.specs.Prelude.{◌==◌, ◌&&◌}
use Rattle.std.specs.List.{list_all, cons_option}
use Rattle.plain_types.specs.declared.history.Sent.{Sent}
use Rattle.plain_types.specs.declared.history.Step.{Step}
use Rattle.plain_types.specs.declared.history.Step.TheVariants.{Op, Flush, ClientFromServer, ClientFromStore, ServerTakes, Commit, Restart, Tend, StoreTakes}
use Rattle.plain_types.specs.declared.message.Message.{Message}
use Rattle.plain_types.specs.declared.message.Message.TheVariants as message
use Rattle.plain_types.specs.declared.message.ToServer.{ToServer}
use Rattle.plain_types.specs.declared.message.ToStore.{ToStore}
use Rattle.node_core.specs.Steps.{is_client, are_peers, message_fits, taking_step, is_sent_well, is_order, is_report, is_to_client, is_to_server, is_to_store, is_from_store}
use Rattle.step_table.specs.Row.{Row}
use Rattle.step_table.specs.ServerState.{Server}
use Rattle.step_table.specs.ClientState.{Client}
use Rattle.step_table.specs.World.{World, at_server, at_client, at_store, store_node, for_server, for_store, told_to, stored_to, to_server, to_store, to_clients, answered, tagged}
use Rattle.node_channels.specs.Stands.{if_mine, mine, waits}
use Rattle.node_channels.proofs.Changed.{same_step, equal, itself, turned}
use Rattle.node_channels.proofs.Sends.{for_step}

abbrev nil : List Message
nil = []

-- lists of lists
fused : {X Y Z : Type 0} (f : Y → Option Z) (g : X → Option Y) (xs : List X) → filter_map f (filter_map g xs) ≡ filter_map (λ (x : X). option_and_then f (g x)) xs
fused f g [] = refl
fused {X} {Y} {Z} f g (x ∷ xs) = by_option (g x) (fused f g xs)
  where
    by_option : (o : Option Y) → filter_map f (filter_map g xs) ≡ filter_map (λ (x : X). option_and_then f (g x)) xs → filter_map f (cons_option o (filter_map g xs)) ≡ cons_option (option_and_then f o) (filter_map (λ (x : X). option_and_then f (g x)) xs)
    by_option None e = e
    by_option (Some y) e = ap (cons_option (f y)) e

mapped : {X Y Z : Type 0} (f : Y → Z) (g : X → Option Y) (xs : List X) → map f (filter_map g xs) ≡ filter_map (λ (x : X). option_map f (g x)) xs
mapped f g [] = refl
mapped {X} {Y} {Z} f g (x ∷ xs) = by_option (g x) (mapped f g xs)
  where
    by_option : (o : Option Y) → map f (filter_map g xs) ≡ filter_map (λ (x : X). option_map f (g x)) xs → map f (cons_option o (filter_map g xs)) ≡ cons_option (option_map f o) (filter_map (λ (x : X). option_map f (g x)) xs)
    by_option None e = e
    by_option (Some y) e = ap (λ (l : List Z). f y ∷ l) e

abbrev pub no_one : ℕ → Message → Option Message
no_one to x = None

none_of : (sent : List Sent) → filter_map (λ (m : Sent). no_one m.to m.message) sent ≡ []
none_of [] = refl
none_of (m ∷ sent) = none_of sent

adds_none : (here : List Message) (sent : List Sent) → here ≡ here ++ filter_map (λ (m : Sent). no_one m.to m.message) sent
adds_none here sent = sym (ap (λ (l : List Message). here ++ l) (none_of sent) ∙ append-nil here)

chosen : (b : Bool) (f : Sent → Option Message) (sent : List Sent) → cond b (filter_map f sent) [] ≡ filter_map (λ (m : Sent). cond b (f m) None) sent
chosen true f sent = refl
chosen false f sent = sym (none_of sent)

chosen_not : (b : Bool) (f : Sent → Option Message) (sent : List Sent) → cond b [] (filter_map f sent) ≡ filter_map (λ (m : Sent). cond b None (f m)) sent
chosen_not true f sent = sym (none_of sent)
chosen_not false f sent = refl

-- messages of one client's channel
mine_append : {M : Type 0} (wrap : M → Message) (n : ℕ) (ps qs : List (ℕ × M)) → mine wrap n (ps ++ qs) ≡ mine wrap n ps ++ mine wrap n qs
mine_append wrap n ps qs = filter_map-append (if_mine wrap n) ps qs

mine_tagged : {M : Type 0} (wrap : M → Message) (n x : ℕ) (ms : List M) → mine wrap n (tagged x ms) ≡ cond (x == n) (map wrap ms) []
mine_tagged wrap n x [] = by_test (x == n)
  where
    by_test : (b : Bool) → nil ≡ cond b nil nil
    by_test true = refl
    by_test false = refl
mine_tagged {M} wrap n x (m ∷ ms) = by_test (x == n) (mine_tagged wrap n x ms)
  where
    by_test : (b : Bool) → mine wrap n (tagged x ms) ≡ cond b (map wrap ms) [] → cons_option (cond b (Some (wrap m)) None) (mine wrap n (tagged x ms)) ≡ cond b (wrap m ∷ map wrap ms) []
    by_test true e = ap (λ (l : List Message). wrap m ∷ l) e
    by_test false e = e

pub tagged_none : {M : Type 0} (wrap : M → Message) (n x : ℕ) (here : List (ℕ × M)) (ms : List M) → (x == n) ≡ false → mine wrap n here ≡ [] → mine wrap n (here ++ tagged x ms) ≡ []
tagged_none wrap n x here ms apart none = mine_append wrap n here (tagged x ms) ∙ (λ i. none i ++ (mine_tagged wrap n x ms ∙ ap (λ (b : Bool). cond b (map wrap ms) nil) apart) i)

-- what the server's row adds for a step
abbrev pub by_server : Step → ℕ → Message → Option Message
by_server (ClientFromServer n) to x = option_and_then (if_mine message.ToClient n) (told_to to x)
by_server (StoreTakes n) to x = cond (n == 0) (option_map message.ToStore (for_store x)) None
by_server step to x = None

pub server_adds : (w : World) (taken : Option Message) (r : Row Server) → r.state.clients ≡ w.server.clients → (step : Step) → waits (at_server w taken r).world step ≡ waits w step ++ filter_map (λ (m : Sent). by_server step m.to m.message) r.sent
server_adds w taken r same (ServerTakes n) = ap (λ (k : ℕ). cond (n == k + 1) (map message.ToServer w.reported) (mine message.ToServer n w.up)) same ∙ adds_none (waits w (ServerTakes n)) r.sent
server_adds w taken r same (ClientFromServer n) =
    mine_append message.ToClient n w.down (to_clients r.sent)
    ∙ ap (λ (l : List Message). mine message.ToClient n w.down ++ l) (fused (if_mine message.ToClient n) (λ (m : Sent). told_to m.to m.message) r.sent)
server_adds w taken r same (StoreTakes n) = by_test (n == 0)
  where
    added : map message.ToStore (to_store r.sent) ≡ filter_map (λ (m : Sent). option_map message.ToStore (for_store m.message)) r.sent
    added = mapped message.ToStore (λ (m : Sent). for_store m.message) r.sent

    by_test : (b : Bool) → cond b (map message.ToStore (w.ordered ++ to_store r.sent)) (mine message.ToStore n w.asked)
        ≡ cond b (map message.ToStore w.ordered) (mine message.ToStore n w.asked) ++ filter_map (λ (m : Sent). cond b (option_map message.ToStore (for_store m.message)) None) r.sent
    by_test true = map-append message.ToStore w.ordered (to_store r.sent) ∙ ap (λ (l : List Message). map message.ToStore w.ordered ++ l) added
    by_test false = adds_none (mine message.ToStore n w.asked) r.sent
server_adds w taken r same (ClientFromStore n) = adds_none (mine message.FromStore n w.stored) r.sent
server_adds w taken r same (Op n) = adds_none [] r.sent
server_adds w taken r same (Flush n) = adds_none [] r.sent
server_adds w taken r same Commit = adds_none [] r.sent
server_adds w taken r same (Restart n) = adds_none [] r.sent
server_adds w taken r same Tend = adds_none [] r.sent

-- what a client's row adds for a step
abbrev pub by_client : ℕ → ℕ → Step → ℕ → Message → Option Message
by_client clients x (ServerTakes n) to y = cond (n == clients + 1) None (cond (x == n) (option_map message.ToServer (for_server y)) None)
by_client clients x (StoreTakes n) to y = cond (n == 0) None (cond (x == n) (option_map message.ToStore (for_store y)) None)
by_client clients x step to y = None

tags_added : {M : Type 0} (wrap : M → Message) (b : Bool) (first : List Message) (n x : ℕ) (here : List (ℕ × M)) (pick : Message → Option M) (sent : List Sent)
    → cond b first (mine wrap n (here ++ tagged x (filter_map (λ (m : Sent). pick m.message) sent)))
    ≡ cond b first (mine wrap n here) ++ filter_map (λ (m : Sent). cond b None (cond (x == n) (option_map wrap (pick m.message)) None)) sent
tags_added wrap true first n x here pick sent = adds_none first sent
tags_added wrap false first n x here pick sent =
    mine_append wrap n here (tagged x (filter_map (λ (m : Sent). pick m.message) sent))
    ∙ ap (λ (l : List Message). mine wrap n here ++ l)
    (mine_tagged wrap n x (filter_map (λ (m : Sent). pick m.message) sent)
    ∙ ap (λ (l : List Message). cond (x == n) l []) (mapped wrap (λ (m : Sent). pick m.message) sent)
    ∙ chosen (x == n) (λ (m : Sent). option_map wrap (pick m.message)) sent)

pub client_adds : (x : ℕ) (w : World) (taken : Option Message) (r : Row Client) (step : Step) → waits (at_client x w taken r).world step ≡ waits w step ++ filter_map (λ (m : Sent). by_client w.server.clients x step m.to m.message) r.sent
client_adds x w taken r (ServerTakes n) = tags_added message.ToServer (n == store_node w) (map message.ToServer w.reported) n x w.up for_server r.sent
client_adds x w taken r (ClientFromServer n) = adds_none (mine message.ToClient n w.down) r.sent
client_adds x w taken r (StoreTakes n) = tags_added message.ToStore (n == 0) (map message.ToStore w.ordered) n x w.asked for_store r.sent
client_adds x w taken r (ClientFromStore n) = adds_none (mine message.FromStore n w.stored) r.sent
client_adds x w taken r (Op n) = adds_none [] r.sent
client_adds x w taken r (Flush n) = adds_none [] r.sent
client_adds x w taken r Commit = adds_none [] r.sent
client_adds x w taken r (Restart n) = adds_none [] r.sent
client_adds x w taken r Tend = adds_none [] r.sent

-- what the store's row adds for a step
abbrev pub by_store : ℕ → Step → ℕ → Message → Option Message
by_store clients (ServerTakes n) to y = cond (n == clients + 1) (option_map message.ToServer (for_server y)) None
by_store clients (ClientFromStore n) to y = option_and_then (if_mine message.FromStore n) (stored_to to y)
by_store clients step to y = None

pub store_adds : (w : World) (taken : Message) (r : Row (List ToStore)) (step : Step) → waits (at_store w taken r).world step ≡ waits w step ++ filter_map (λ (m : Sent). by_store w.server.clients step m.to m.message) r.sent
store_adds w taken r (ServerTakes n) = by_test (n == store_node w)
  where
    added : map message.ToServer (to_server r.sent) ≡ filter_map (λ (m : Sent). option_map message.ToServer (for_server m.message)) r.sent
    added = mapped message.ToServer (λ (m : Sent). for_server m.message) r.sent

    by_test : (b : Bool) → cond b (map message.ToServer (w.reported ++ to_server r.sent)) (mine message.ToServer n w.up)
        ≡ cond b (map message.ToServer w.reported) (mine message.ToServer n w.up) ++ filter_map (λ (m : Sent). cond b (option_map message.ToServer (for_server m.message)) None) r.sent
    by_test true = map-append message.ToServer w.reported (to_server r.sent) ∙ ap (λ (l : List Message). map message.ToServer w.reported ++ l) added
    by_test false = adds_none (mine message.ToServer n w.up) r.sent
store_adds w taken r (ClientFromServer n) = adds_none (mine message.ToClient n w.down) r.sent
store_adds w taken r (StoreTakes n) = adds_none (waits w (StoreTakes n)) r.sent
store_adds w taken r (ClientFromStore n) =
    mine_append message.FromStore n w.stored (answered r.sent)
    ∙ ap (λ (l : List Message). mine message.FromStore n w.stored ++ l) (fused (if_mine message.FromStore n) (λ (m : Sent). stored_to m.to m.message) r.sent)
store_adds w taken r (Op n) = adds_none [] r.sent
store_adds w taken r (Flush n) = adds_none [] r.sent
store_adds w taken r Commit = adds_none [] r.sent
store_adds w taken r (Restart n) = adds_none [] r.sent
store_adds w taken r Tend = adds_none [] r.sent

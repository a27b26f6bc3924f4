-- What nodes send keeps channels standing for those of the table.
use Rattle.std.proofs.Common.{◌≡◌, ℕ, ◌+◌, List, [], ◌∷◌, ◌++◌, map, Bool, true, false, cond, filter_map, Option, None, Some, refl, sym, ap, ◌∙◌, subst, arith}
use Rattle.std.proofs.lemmas.List.{map-append}
use Rattle.std.proofs.lemmas.Bool.Decides.{nat_tests}
use Rattle.std.specs.Prelude.{◌==◌}
use Rattle.std.specs.List.{list_all, cons_option}
use Rattle.plain_types.specs.declared.history.Sent.{Sent}
use Rattle.plain_types.specs.declared.history.Step.{Step}
use Rattle.plain_types.specs.declared.history.Step.TheVariants.{Op, Flush, ClientFromServer, ClientFromStore, ServerTakes, Commit, Restart, Tend, StoreTakes}
use Rattle.plain_types.specs.declared.message.FromStore.{FromStore}
use Rattle.plain_types.specs.declared.message.Message.{Message}
use Rattle.plain_types.specs.declared.message.Message.TheVariants as message
use Rattle.plain_types.specs.declared.message.ToClient.{ToClient}
use Rattle.plain_types.specs.declared.message.ToServer.{ToServer}
use Rattle.plain_types.specs.declared.message.ToStore.{ToStore}
use Rattle.plain_types.specs.declared.script.Script.{Script}
use Rattle.node_core.specs.Steps.{is_client, is_sent_well}
use Rattle.step_table.specs.Messages.{plain_message, plain_sent}
use Rattle.step_table.specs.Row.{Row}
use Rattle.step_table.specs.ServerState.{Server}
use Rattle.step_table.specs.ClientState.{Client}
use Rattle.step_table.specs.World.{World, at_server, at_client, at_store, store_node, start, to_server, to_store}
use Rattle.node_channels.specs.Channels.{Waiting, IsWhole, queue, with_sent, no_messages, count}
use Rattle.node_channels.specs.Stands.{mine, if_mine, waits, ChannelsStand, HoldsNone}
use Rattle.node_channels.proofs.Changed.{equal, itself}
use Rattle.node_channels.proofs.Counted.{empty_at_first, whole_at_first, none_waits}
use Rattle.node_channels.proofs.Sends.{for_step, sent_adds, whole_sent, clients_sent, well_other, adds_same}
use Rattle.node_channels.proofs.Table.{by_server, by_client, by_store, tagged_none, server_adds, client_adds, store_adds}
use Rattle.node_channels.proofs.Right.{server_right, client_right, store_right, client_not_store, client_not_server}

-- the same is added on both sides
both_add : (c : Waiting) → IsWhole c → (w : World) (from : ℕ) (step : Step) → map plain_message (queue c step) ≡ map plain_message (waits w step)
    → (sent other : List Sent) → list_all (is_sent_well c.clients from) sent ≡ true → map plain_sent sent ≡ map plain_sent other
    → (next : List Message) (picked : List Message) → next ≡ waits w step ++ picked → picked ≡ filter_map (for_step c.clients from step) other
    → map plain_message (queue (with_sent c from sent) step) ≡ map plain_message next
both_add c whole w from step before sent other well same next picked adds right =
    ap (map plain_message) (sent_adds c whole from sent well step)
    ∙ map-append plain_message (queue c step) (filter_map (for_step c.clients from step) sent)
    ∙ (λ i. before i ++ adds_same c.clients from step sent other same i)
    ∙ sym (map-append plain_message (waits w step) (filter_map (for_step c.clients from step) other))
    ∙ ap (λ (l : List Message). map plain_message (waits w step ++ l)) (sym right)
    ∙ ap (map plain_message) (sym adds)

pub server_sends : (c : Waiting) (w : World) → ChannelsStand c w → (taken : Option Message) (r : Row Server) → r.state.clients ≡ w.server.clients
    → (sent : List Sent) → list_all (is_sent_well c.clients 0) sent ≡ true → map plain_sent sent ≡ map plain_sent r.sent
    → ChannelsStand (with_sent c 0 sent) (at_server w taken r).world
server_sends c w stand taken r kept sent well same = record {
  whole = whole_sent c stand.whole 0 sent;
  clients = clients_sent c 0 sent ∙ stand.clients ∙ sym kept;
  same = λ step. both_add c stand.whole w 0 step (stand.same step) sent r.sent well same (waits (at_server w taken r).world step)
      (filter_map (λ (m : Sent). by_server step m.to m.message) r.sent) (server_adds w taken r kept step) (server_right c.clients step r.sent (well_other c.clients 0 sent r.sent same well));
  none_up = ap (λ (n : ℕ). mine message.ToServer (n + 1) w.up) kept ∙ stand.none_up;
  none_asked = stand.none_asked;
}

pub client_sends : (c : Waiting) (w : World) → ChannelsStand c w → (x : ℕ) → is_client c.clients x ≡ true → (taken : Option Message) (r : Row Client)
    → (sent : List Sent) → list_all (is_sent_well c.clients x) sent ≡ true → map plain_sent sent ≡ map plain_sent r.sent
    → ChannelsStand (with_sent c x sent) (at_client x w taken r).world
client_sends c w stand x is taken r sent well same = record {
  whole = whole_sent c stand.whole x sent;
  clients = clients_sent c x sent ∙ stand.clients;
  same = λ step. both_add c stand.whole w x step (stand.same step) sent r.sent well same (waits (at_client x w taken r).world step)
      (filter_map (λ (m : Sent). by_client w.server.clients x step m.to m.message) r.sent) (client_adds x w taken r step)
      (ap (λ (n : ℕ). filter_map (λ (m : Sent). by_client n x step m.to m.message) r.sent) (sym stand.clients) ∙ client_right c.clients x is step r.sent (well_other c.clients x sent r.sent same well));
  none_up = tagged_none message.ToServer (store_node w) x w.up (to_server r.sent) (subst (λ (n : ℕ). (x == n + 1) ≡ false) stand.clients (client_not_store c.clients x is)) stand.none_up;
  none_asked = tagged_none message.ToStore 0 x w.asked (to_store r.sent) (client_not_server c.clients x is) stand.none_asked;
}

pub store_sends : (c : Waiting) (w : World) → ChannelsStand c w → (taken : Message) (r : Row (List ToStore))
    → (sent : List Sent) → list_all (is_sent_well c.clients (c.clients + 1)) sent ≡ true → map plain_sent sent ≡ map plain_sent r.sent
    → ChannelsStand (with_sent c (c.clients + 1) sent) (at_store w taken r).world
store_sends c w stand taken r sent well same = record {
  whole = whole_sent c stand.whole (c.clients + 1) sent;
  clients = clients_sent c (c.clients + 1) sent ∙ stand.clients;
  same = λ step. both_add c stand.whole w (c.clients + 1) step (stand.same step) sent r.sent well same (waits (at_store w taken r).world step)
      (filter_map (λ (m : Sent). by_store w.server.clients step m.to m.message) r.sent) (store_adds w taken r step)
      (ap (λ (n : ℕ). filter_map (λ (m : Sent). by_store n step m.to m.message) r.sent) (sym stand.clients) ∙ store_right c.clients step r.sent (well_other c.clients (c.clients + 1) sent r.sent same well));
  none_up = stand.none_up;
  none_asked = stand.none_asked;
}

-- at first
abbrev nil : List Message
nil = []

either : (b : Bool) → nil ≡ cond b nil nil
either true = refl
either false = refl

start_waits : (script : Script) (step : Step) → nil ≡ waits (start script) step
start_waits script (ServerTakes n) = either (n == script.clients + 1)
start_waits script (StoreTakes n) = either (n == 0)
start_waits script (ClientFromServer n) = refl
start_waits script (ClientFromStore n) = refl
start_waits script (Op n) = refl
start_waits script (Flush n) = refl
start_waits script Commit = refl
start_waits script (Restart n) = refl
start_waits script Tend = refl

pub start_stands : (script : Script) → ChannelsStand (no_messages script.clients) (start script)
start_stands script = record {
  whole = whole_at_first script.clients;
  clients = refl;
  same = λ step. ap (map plain_message) (empty_at_first script.clients step ∙ start_waits script step);
  none_up = refl;
  none_asked = refl;
}

-- where nothing waits, the table's channels hold nothing
mine_none : {M : Type 0} (wrap : M → Message) (channel : List (ℕ × M)) → ((n : ℕ) → map plain_message (mine wrap n channel) ≡ []) → channel ≡ []
mine_none wrap [] none = refl
mine_none wrap (p ∷ channel) none = absurd (some (mine wrap p.0 channel) (sym (ap (λ (b : Bool). map plain_message (cons_option (cond b (Some (wrap p.1)) None) (mine wrap p.0 channel))) (itself p.0)) ∙ none p.0))
  where
    some : (l : List Message) → map plain_message (wrap p.1 ∷ l) ≡ [] → ⊥
    some l is = cc

list_none : {M : Type 0} (wrap : M → Message) (channel : List M) → map plain_message (map wrap channel) ≡ [] → channel ≡ []
list_none wrap [] none = refl
list_none wrap (m ∷ channel) none = cc

pub holds_none : (c : Waiting) (w : World) → ChannelsStand c w → count c ≡ 0 → HoldsNone w
holds_none c w stand none = record {
  up = mine_none message.ToServer w.up (λ n. up n (n == store_node w) refl (of_step (ServerTakes n)));
  down = mine_none message.ToClient w.down (λ n. of_step (ClientFromServer n));
  asked = mine_none message.ToStore w.asked (λ n. asked n (n == 0) refl (of_step (StoreTakes n)));
  stored = mine_none message.FromStore w.stored (λ n. of_step (ClientFromStore n));
  ordered = list_none message.ToStore w.ordered (of_step (StoreTakes 0));
  reported = list_none message.ToServer w.reported (ap (λ (b : Bool). map plain_message (cond b (map message.ToServer w.reported) (mine message.ToServer (store_node w) w.up))) (sym (itself (store_node w))) ∙ of_step (ServerTakes (store_node w)));
}
  where
    of_step : (step : Step) → map plain_message (waits w step) ≡ []
    of_step step = sym (stand.same step) ∙ ap (map plain_message) (none_waits c none step)

    up : (n : ℕ) (b : Bool) → (n == store_node w) ≡ b → map plain_message (cond b (map message.ToServer w.reported) (mine message.ToServer n w.up)) ≡ [] → map plain_message (mine message.ToServer n w.up) ≡ []
    up n true is e = ap (λ (k : ℕ). map plain_message (mine message.ToServer k w.up)) (equal n (store_node w) is) ∙ ap (map plain_message) stand.none_up
    up n false is e = e

    asked : (n : ℕ) (b : Bool) → (n == 0) ≡ b → map plain_message (cond b (map message.ToStore w.ordered) (mine message.ToStore n w.asked)) ≡ [] → map plain_message (mine message.ToStore n w.asked) ≡ []
    asked n true is e = ap (λ (k : ℕ). map plain_message (mine message.ToStore k w.asked)) (equal n 0 is) ∙ ap (map plain_message) stand.none_asked
    asked n false is e = e

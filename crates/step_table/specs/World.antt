-- All nodes, the channels between them, and the steps.
use Rattle.std.specs.Prelude.{ℕ, ◌+◌, Bool, true, false, ◌==◌, List, [], ◌∷◌, ◌++◌, map, take, if◌then◌else◌, Option, None, Some, is_some}
use Rattle.std.specs.List.{filter_map}
use Rattle.plain_types.specs.declared.change.Effect.{Effect}
use Rattle.plain_types.specs.declared.entry.Entry.{Entry}
use Rattle.plain_types.specs.declared.history.Event.{Event}
use Rattle.plain_types.specs.declared.history.Replied.{Replied}
use Rattle.plain_types.specs.declared.history.Sent.{Sent}
use Rattle.plain_types.specs.declared.history.Step.{Step}
use Rattle.plain_types.specs.declared.history.Step.TheVariants.{Op, Flush, ClientFromServer, ClientFromStore, ServerTakes, Commit, Restart, Tend, StoreTakes}
use Rattle.plain_types.specs.declared.message.FromStore.{FromStore}
use Rattle.plain_types.specs.declared.message.Message.{Message}
use Rattle.plain_types.specs.declared.message.Message.TheVariants as message
use Rattle.plain_types.specs.declared.message.ToClient.{ToClient}
use Rattle.plain_types.specs.declared.message.ToServer.{ToServer}
use Rattle.plain_types.specs.declared.message.ToStore.{ToStore}
use Rattle.plain_types.specs.declared.script.Line.{Line}
use Rattle.plain_types.specs.declared.script.Script.{Script}
use Rattle.step_table.specs.Row.{Row}
use Rattle.step_table.specs.ServerState.{Server, up_to, new_server}
use Rattle.step_table.specs.ServerRows.{on_take, on_report, on_commit, on_restart, on_tend}
use Rattle.step_table.specs.ClientState.{Client, new_client}
use Rattle.step_table.specs.ClientLines.{on_op, on_flush}
use Rattle.step_table.specs.ClientTakes.{on_told, on_stored}
use Rattle.step_table.specs.StoreRows.{on_asked, on_ordered}

-- The nodes, and the channels by kind, the oldest message first: between each client and the server up and down, between
-- each client and the store, and between the server and the store. A message of a client's channel stands with the
-- client's number. The store's state is the list of messages that it took; its objects have the size `object`.
pub record World : Type 0 where
  pub object : ℕ
  pub server : Server
  pub clients : List (ℕ × Client)
  pub store : List ToStore
  pub up : List (ℕ × ToServer)
  pub down : List (ℕ × ToClient)
  pub asked : List (ℕ × ToStore)
  pub stored : List (ℕ × FromStore)
  pub ordered : List ToStore
  pub reported : List ToServer

-- the first message of a client's channel, and the channels without it
abbrev pub pop : {M : Type 0} → ℕ → List (ℕ × M) → Option (M × List (ℕ × M))
pop n [] = None
pop n (m ∷ channels) = elim (m.0 == n) [
  | true ↦ Some (m.1, channels)
  | false ↦ elim (pop n channels) [ None ↦ None | Some found ↦ Some (found.0, m ∷ found.1) ]
]

abbrev pub client : List (ℕ × Client) → ℕ → Option Client
client [] n = None
client (c ∷ clients) n = if c.0 == n then Some c.1 else client clients n

abbrev pub put : List (ℕ × Client) → ℕ → Client → List (ℕ × Client)
put [] n new = []
put (c ∷ clients) n new = (c.0, if c.0 == n then new else c.1) ∷ put clients n new

-- what goes to the server, to the store and to the clients
abbrev pub for_server : Message → Option ToServer
for_server (message.ToServer said) = Some said
for_server other = None

abbrev pub for_store : Message → Option ToStore
for_store (message.ToStore order) = Some order
for_store other = None

abbrev pub told_to : ℕ → Message → Option (ℕ × ToClient)
told_to n (message.ToClient told) = Some (n, told)
told_to n other = None

abbrev pub stored_to : ℕ → Message → Option (ℕ × FromStore)
stored_to n (message.FromStore said) = Some (n, said)
stored_to n other = None

abbrev pub to_server : List Sent → List ToServer
to_server sent = filter_map (λ (m : Sent). for_server m.message) sent

abbrev pub to_store : List Sent → List ToStore
to_store sent = filter_map (λ (m : Sent). for_store m.message) sent

abbrev pub to_clients : List Sent → List (ℕ × ToClient)
to_clients sent = filter_map (λ (m : Sent). told_to m.to m.message) sent

abbrev pub answered : List Sent → List (ℕ × FromStore)
answered sent = filter_map (λ (m : Sent). stored_to m.to m.message) sent

-- messages of one client's channel
abbrev pub tagged : {M : Type 0} → ℕ → List M → List (ℕ × M)
tagged n [] = []
tagged n (m ∷ messages) = (n, m) ∷ tagged n messages

-- what a step brings about in the world: what was taken, the world after it, and what the row says
pub record Made : Type 0 where
  pub node : ℕ
  pub taken : Option Message
  pub world : World
  pub sent : List Sent
  pub effects : List Effect
  pub replies : List Replied

abbrev pub at_server : World → Option Message → Row Server → Made
at_server w taken row = record {
  node = 0;
  taken = taken;
  world = record w { server = row.state; down = w.down ++ to_clients row.sent; ordered = w.ordered ++ to_store row.sent };
  sent = row.sent;
  effects = row.effects;
  replies = row.replies;
}

abbrev pub at_client : ℕ → World → Option Message → Row Client → Made
at_client n w taken row = record {
  node = n;
  taken = taken;
  world = record w {
    clients = put w.clients n row.state;
    up = w.up ++ tagged n (to_server row.sent);
    asked = w.asked ++ tagged n (to_store row.sent);
  };
  sent = row.sent;
  effects = row.effects;
  replies = row.replies;
}

-- the number of the store's node
abbrev pub store_node : World → ℕ
store_node w = w.server.clients + 1

abbrev pub at_store : World → Message → Row (List ToStore) → Made
at_store w taken row = record {
  node = store_node w;
  taken = Some taken;
  world = record w { store = row.state; stored = w.stored ++ answered row.sent; reported = w.reported ++ to_server row.sent };
  sent = row.sent;
  effects = row.effects;
  replies = row.replies;
}

abbrev pub some_row : {S : Type 0} → (Row S → Made) → Option (Row S) → Option Made
some_row make None = None
some_row make (Some row) = Some (make row)

-- with a client, if it is there
abbrev pub with_client : World → ℕ → (Client → Option Made) → Option Made
with_client w n go_on = elim (client w.clients n) [ None ↦ None | Some c ↦ go_on c ]

-- with the first message of a channel, if there is one
abbrev pub with_message : {M : Type 0} → ℕ → List (ℕ × M) → (List (ℕ × M) → M → Option Made) → Option Made
with_message n channels go_on = elim (pop n channels) [ None ↦ None | Some found ↦ go_on found.1 found.0 ]

abbrev pub with_first : {M : Type 0} → List M → (List M → M → Option Made) → Option Made
with_first [] go_on = None
with_first (m ∷ channel) go_on = go_on channel m

-- what each node makes of the first message of a channel
abbrev pub client_takes : ℕ → World → List (ℕ × ToClient) → ToClient → Option Made
client_takes n w down told =
    with_client w n (λ c. Some (at_client n (record w { down = down }) (Some (message.ToClient told)) (on_told c told)))

abbrev pub client_takes_stored : ℕ → World → List (ℕ × FromStore) → FromStore → Option Made
client_takes_stored n w stored said =
    with_client w n (λ c. Some (at_client n (record w { stored = stored }) (Some (message.FromStore said)) (on_stored c said)))

abbrev pub server_takes : ℕ → World → List (ℕ × ToServer) → ToServer → Option Made
server_takes n w up said =
    Some (at_server (record w { up = up }) (Some (message.ToServer said)) (on_take w.server n said))

abbrev pub server_takes_report : World → List ToServer → ToServer → Option Made
server_takes_report w reported said =
    Some (at_server (record w { reported = reported }) (Some (message.ToServer said)) (on_report w.server said))

abbrev pub store_takes : ℕ → World → List (ℕ × ToStore) → ToStore → Option Made
store_takes n w asked order =
    Some (at_store (record w { asked = asked }) (message.ToStore order) (on_asked w.object w.store n order))

abbrev pub store_takes_order : World → List ToStore → ToStore → Option Made
store_takes_order w ordered order =
    Some (at_store (record w { ordered = ordered }) (message.ToStore order) (on_ordered w.store order))

-- the row of a step, where it is enabled
abbrev pub row : World → Step → Option Made
row w (Op n) = with_client w n (λ c. some_row (at_client n w None) (on_op c))
row w (Flush n) = with_client w n (λ c. some_row (at_client n w None) (on_flush c))
row w (ClientFromServer n) = with_message n w.down (client_takes n w)
row w (ClientFromStore n) = with_message n w.stored (client_takes_stored n w)
row w (ServerTakes n) =
    if n == store_node w then with_first w.reported (server_takes_report w) else with_message n w.up (server_takes n w)
row w Commit = some_row (at_server w None) (on_commit w.server)
row w (Restart k) = some_row (at_server w None) (on_restart w.server k)
row w Tend = some_row (at_server w None) (on_tend w.server)
row w (StoreTakes n) = if n == 0 then with_first w.ordered (store_takes_order w) else with_message n w.asked (store_takes n w)

abbrev pub enabled : World → Step → Bool
enabled w step = is_some (row w step)

-- the world after a step; one that isn't enabled changes nothing
abbrev pub after_row : World → Option Made → World
after_row w None = w
after_row w (Some made) = made.world

abbrev pub after : World → List Step → World
after w [] = w
after w (step ∷ steps) = after (after_row w (row w step)) steps

-- the table's own event of a step
abbrev pub event_of : Step → Made → Event
event_of step made =
    record { node = made.node; step = step; taken = made.taken; sent = made.sent; effects = made.effects; replies = made.replies }

-- the history of a list of steps; it ends where one isn't enabled
abbrev pub run : World → List Step → List Event
run w [] = []
run w (step ∷ steps) = elim (row w step) [ None ↦ [] | Some made ↦ event_of step made ∷ run made.world steps ]

-- the lines of one client
abbrev pub line_for : ℕ → ℕ × Line → Option Line
line_for n text = if text.0 == n then Some text.1 else None

abbrev pub lines_of : ℕ → List (ℕ × Line) → List Line
lines_of n lines = filter_map (line_for n) lines

-- objects have 4,096 bytes where the script doesn't say otherwise
abbrev pub object_size : Option ℕ → ℕ
object_size None = 4096
object_size (Some size) = size

-- before the first step: nothing is written, sent or asked
abbrev pub start : Script → World
start script = record {
  object = object_size script.object;
  server = new_server script.clients;
  clients = map (λ n. (n, new_client n (script.clients + 1) (lines_of n script.lines))) (up_to script.clients);
  store = [];
  up = [];
  down = [];
  asked = [];
  stored = [];
  ordered = [];
  reported = [];
}

-- the journal: the entries that are durable
abbrev pub journal : World → List Entry
journal w = take w.server.durable w.server.entries

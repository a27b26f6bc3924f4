-- How channels stand for those of the table's world.
use Rattle.std.specs.Prelude.{◌≡◌, ℕ, ◌==◌, List, [], ◌∷◌, map, filter_map, if◌then◌else◌, Option, None, Some, option_map}
use Rattle.plain_types.specs.declared.history.Step.{Step}
use Rattle.plain_types.specs.declared.history.Step.TheVariants.{Op, Flush, ClientFromServer, ClientFromStore, ServerTakes, Commit, Restart, Tend, StoreTakes}
use Rattle.plain_types.specs.declared.message.Message.{Message}
use Rattle.plain_types.specs.declared.message.Message.TheVariants.{ToServer, ToClient, ToStore, FromStore}
use Rattle.plain_types.specs.declared.message.ToStore.{ToStore as Order}
use Rattle.step_table.specs.Messages.{plain_message}
use Rattle.step_table.specs.Nodes.{server_row, client_row, store_row}
use Rattle.step_table.specs.ServerState.{Server}
use Rattle.step_table.specs.ClientState.{Client}
use Rattle.step_table.specs.World.{World, Made, pop, store_node, some_row, at_server, at_client, at_store}
use Rattle.node_channels.specs.Channels.{Waiting, IsWhole, queue, without_first}

-- the messages of one client in a channel of the table
abbrev pub if_mine : {M : Type 0} → (M → Message) → ℕ → ℕ × M → Option Message
if_mine message n m = if m.0 == n then Some (message m.1) else None

abbrev pub mine : {M : Type 0} → (M → Message) → ℕ → List (ℕ × M) → List Message
mine message n channel = filter_map (if_mine message n) channel

-- what waits for a step in the table's world
abbrev pub waits : World → Step → List Message
waits w (ServerTakes n) = if n == store_node w then map ToServer w.reported else mine ToServer n w.up
waits w (ClientFromServer n) = mine ToClient n w.down
waits w (StoreTakes n) = if n == 0 then map ToStore w.ordered else mine ToStore n w.asked
waits w (ClientFromStore n) = mine FromStore n w.stored
waits w step = []

-- For each step the same messages wait in the same order, all but the traces in them, which give the same contexts. Under
-- the number of the store or of the server no message stands among those of clients.
pub record ChannelsStand (c : Waiting) (w : World) : Type 0 where
  pub whole : IsWhole c
  pub clients : c.clients ≡ w.server.clients
  pub same : (step : Step) → map plain_message (queue c step) ≡ map plain_message (waits w step)
  pub none_up : mine ToServer (store_node w) w.up ≡ []
  pub none_asked : mine ToStore 0 w.asked ≡ []

-- no channel of the table holds a message
pub record HoldsNone (w : World) : Type 0 where
  pub up : w.up ≡ []
  pub down : w.down ≡ []
  pub asked : w.asked ≡ []
  pub stored : w.stored ≡ []
  pub ordered : w.ordered ≡ []
  pub reported : w.reported ≡ []

-- what a step takes in the table's world, and the world without it
abbrev pub of_one : {M : Type 0} → (M → Message) → (List (ℕ × M) → World) → Option (M × List (ℕ × M)) → Option (Message × World)
of_one message left None = None
of_one message left (Some found) = Some (message found.0, left found.1)

abbrev pub of_list : {M : Type 0} → (M → Message) → (List M → World) → List M → Option (Message × World)
of_list message left [] = None
of_list message left (m ∷ rest) = Some (message m, left rest)

abbrev pub takes : World → Step → Option (Message × World)
takes w (ServerTakes n) =
    if n == store_node w then of_list ToServer (λ rest. record w { reported = rest }) w.reported
    else of_one ToServer (λ rest. record w { up = rest }) (pop n w.up)
takes w (ClientFromServer n) = of_one ToClient (λ rest. record w { down = rest }) (pop n w.down)
takes w (StoreTakes n) =
    if n == 0 then of_list ToStore (λ rest. record w { ordered = rest }) w.ordered
    else of_one ToStore (λ rest. record w { asked = rest }) (pop n w.asked)
takes w (ClientFromStore n) = of_one FromStore (λ rest. record w { stored = rest }) (pop n w.stored)
takes w step = None

-- what a step is handed in the table's world, and the world then: nothing, where it takes nothing
abbrev pub handed : World → Step → Option (Option Message × World)
handed w (Op n) = Some (None, w)
handed w (Flush n) = Some (None, w)
handed w Commit = Some (None, w)
handed w (Restart k) = Some (None, w)
handed w Tend = Some (None, w)
handed w step = option_map (λ (found : Message × World). (Some found.0, found.1)) (takes w step)

-- what the row of a node makes of the world that is left
abbrev pub by_server : Server → Step → Option Message × World → Option Made
by_server s step given = some_row (at_server given.1 given.0) (server_row s step given.0)

abbrev pub by_client : Client → ℕ → Step → Option Message × World → Option Made
by_client c n step given = some_row (at_client n given.1 given.0) (client_row c step given.0)

abbrev pub by_store : ℕ → List Order → Step → Message × World → Option Made
by_store object taken step found = some_row (at_store found.1 found.0) (store_row object taken step (Some found.0))

-- The channels give a step what the table gives it: nothing, or plainly the same message, and then the rest stands too.
abbrev pub GivesTheSame : Waiting → Step → Option Message → Option (Message × World) → Type 0
GivesTheSame c step None None = Unit {0}
GivesTheSame c step (Some message) (Some found) =
    (plain_message message ≡ plain_message found.0) × ChannelsStand (without_first c step) found.1
GivesTheSame c step given found = ⊥

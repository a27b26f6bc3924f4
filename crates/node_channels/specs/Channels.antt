-- What waits in the channels between all nodes. Node 0 is the server, then come the clients, and then the store.
use Rattle.std.specs.Prelude.{◌≡◌, ℕ, ◌+◌, ◌&&◌, ◌==◌, nat_le, nat_lt, Bool, true, false, List, [], ◌∷◌, ◌++◌, length, drop, get_or, set, replicate, sum_by, Option}
use Rattle.std.specs.List.{list_all, slice_get}
use Rattle.plain_types.specs.declared.history.Sent.{Sent}
use Rattle.plain_types.specs.declared.history.Step.{Step}
use Rattle.plain_types.specs.declared.history.Step.TheVariants.{ClientFromServer, ClientFromStore, ServerTakes, StoreTakes}
use Rattle.plain_types.specs.declared.message.Message.{Message}
use Rattle.node_core.specs.Steps.{is_client, message_fits, taking_step}

-- How many clients there are, and what waits on the way to and from the server, and to and from the store: a list of
-- messages for each node, the oldest first, at the place of the node's number.
pub record Waiting : Type 0 where
  pub clients : ℕ
  pub up : List (List Message)
  pub down : List (List Message)
  pub asked : List (List Message)
  pub stored : List (List Message)

-- what waits for a taking step: up and asked go by the node that sends, down and stored by the client that takes
abbrev pub queue : Waiting → Step → List Message
queue c (ServerTakes n) = get_or c.up n []
queue c (ClientFromServer n) = get_or c.down n []
queue c (StoreTakes n) = get_or c.asked n []
queue c (ClientFromStore n) = get_or c.stored n []
queue c step = []

-- the same channels, of which one holds these messages
abbrev pub with_queue : Waiting → Step → List Message → Waiting
with_queue c (ServerTakes n) messages = record c { up = set c.up n messages }
with_queue c (ClientFromServer n) messages = record c { down = set c.down n messages }
with_queue c (StoreTakes n) messages = record c { asked = set c.asked n messages }
with_queue c (ClientFromStore n) messages = record c { stored = set c.stored n messages }
with_queue c step messages = c

-- the oldest message of a list
abbrev pub first : List Message → Option Message
first messages = slice_get messages 0

-- the oldest message that waits for a step is taken
abbrev pub without_first : Waiting → Step → Waiting
without_first c step = with_queue c step (drop 1 (queue c step))

-- a message goes behind those that wait for a step
abbrev pub with_last : Waiting → Step → Message → Waiting
with_last c step message = with_queue c step (queue c step ++ message ∷ [])

-- what a node sends goes last into the channel to whom it is sent, in the order in which it is sent
abbrev pub with_one : Waiting → ℕ → Sent → Waiting
with_one c from sent = with_last c (taking_step c.clients from sent.to) sent.message

abbrev pub with_sent : Waiting → ℕ → List Sent → Waiting
with_sent c from [] = c
with_sent c from (m ∷ sent) = with_sent (with_one c from m) from sent

-- an empty channel for each node
abbrev pub no_messages : ℕ → Waiting
no_messages clients = record {
  clients = clients;
  up = replicate (clients + 2) [];
  down = replicate (clients + 2) [];
  asked = replicate (clients + 2) [];
  stored = replicate (clients + 2) [];
}

-- how many messages wait
abbrev pub count : Waiting → ℕ
count c = sum_by length c.up + sum_by length c.down + sum_by length c.asked + sum_by length c.stored

-- no node's channel is missing
pub record IsWhole (c : Waiting) : Type 0 where
  pub up : length c.up ≡ c.clients + 2
  pub down : length c.down ≡ c.clients + 2
  pub asked : length c.asked ≡ c.clients + 2
  pub stored : length c.stored ≡ c.clients + 2

-- a step in which a node takes from one that it talks with
abbrev pub is_taking : ℕ → Step → Bool
is_taking clients (ServerTakes n) = nat_lt 0 n && nat_le n (clients + 1)
is_taking clients (ClientFromServer n) = is_client clients n
is_taking clients (StoreTakes n) = nat_le n clients
is_taking clients (ClientFromStore n) = is_client clients n
is_taking clients step = false

-- a message may wait for a step
abbrev pub may_wait : ℕ → Step → Message → Bool
may_wait clients step message = is_taking clients step && message_fits clients step message

-- no channel is missing, and each holds only what its two nodes say to one another
pub record IsSound (c : Waiting) : Type 0 where
  pub whole : IsWhole c
  pub fits : (step : Step) → list_all (may_wait c.clients step) (queue c step) ≡ true

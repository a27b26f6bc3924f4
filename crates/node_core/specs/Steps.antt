-- Which step is whose, and what each step takes. Node 0 is the server, then come the clients, and then the store.
use Rattle.std.specs.Prelude.{◌≡◌, ℕ, ◌+◌, ◌<◌, Bool, true, false, not, ◌||◌, ◌&&◌, ◌==◌, nat_le, nat_lt, ◌⊎◌, if◌then◌else◌, Option, None, Some}
use Rattle.plain_types.specs.declared.history.Sent.{Sent}
use Rattle.plain_types.specs.declared.history.Step.{Step}
use Rattle.plain_types.specs.declared.history.Step.TheVariants.{Op, Flush, ClientFromServer, ClientFromStore, ServerTakes, Commit, Restart, Tend, StoreTakes}
use Rattle.plain_types.specs.declared.message.Message.{Message}
use Rattle.plain_types.specs.declared.message.Message.TheVariants.{ToServer, ToClient, ToStore, FromStore}
use Rattle.plain_types.specs.declared.message.ToServer.TheVariants as to_server
use Rattle.plain_types.specs.declared.message.ToStore.TheVariants as to_store

-- the number is a client's
abbrev pub is_client : ℕ → ℕ → Bool
is_client clients n = nat_lt 0 n && nat_le n clients

-- a step is one of this node, among so many clients
abbrev pub is_step_of : ℕ → ℕ → Step → Bool
is_step_of clients node (Op n) = n == node && is_client clients n
is_step_of clients node (Flush n) = n == node && is_client clients n
is_step_of clients node (ClientFromServer n) = n == node && is_client clients n
is_step_of clients node (ClientFromStore n) = n == node && is_client clients n
is_step_of clients node (ServerTakes n) = node == 0
is_step_of clients node Commit = node == 0
is_step_of clients node (Restart k) = node == 0
is_step_of clients node Tend = node == 0
is_step_of clients node (StoreTakes n) = node == clients + 1

-- the node that a taking step takes from
abbrev pub taken_from : ℕ → Step → Option ℕ
taken_from clients (ClientFromServer n) = Some 0
taken_from clients (ClientFromStore n) = Some (clients + 1)
taken_from clients (ServerTakes n) = Some n
taken_from clients (StoreTakes n) = Some n
taken_from clients step = None

-- the server and the store have channels with all, clients with those two alone
abbrev pub is_end : ℕ → ℕ → Bool
is_end clients n = n == 0 || n == clients + 1

abbrev pub are_peers : ℕ → ℕ → ℕ → Bool
are_peers clients a b =
    not (a == b) && nat_le a (clients + 1) && nat_le b (clients + 1) && (is_end clients a || is_end clients b)

-- the step takes from a peer of the node that makes it
abbrev pub takes_from_peer : ℕ → ℕ → Option ℕ → Bool
takes_from_peer clients node None = false
takes_from_peer clients node (Some from) = are_peers clients node from

-- the step takes nothing, or from a peer
abbrev pub takes_from_peer_if_any : ℕ → ℕ → Option ℕ → Bool
takes_from_peer_if_any clients node None = true
takes_from_peer_if_any clients node (Some from) = are_peers clients node from

abbrev pub is_report : Message → Bool
is_report (ToServer (to_server.Purged id)) = true
is_report (ToServer (to_server.Deleted ino)) = true
is_report message = false

abbrev pub is_order : Message → Bool
is_order (ToStore (to_store.Purge id)) = true
is_order (ToStore (to_store.Delete ino context)) = true
is_order message = false

abbrev pub is_to_server : Message → Bool
is_to_server (ToServer said) = true
is_to_server message = false

abbrev pub is_to_store : Message → Bool
is_to_store (ToStore order) = true
is_to_store message = false

abbrev pub is_to_client : Message → Bool
is_to_client (ToClient told) = true
is_to_client message = false

abbrev pub is_from_store : Message → Bool
is_from_store (FromStore said) = true
is_from_store message = false

-- A message fits a taking step: each pair of nodes has its kinds of messages.
abbrev pub message_fits : ℕ → Step → Message → Bool
message_fits clients (ClientFromServer n) message = is_to_client message
message_fits clients (ClientFromStore n) message = is_from_store message
message_fits clients (ServerTakes n) message =
    if n == clients + 1 then is_report message else is_to_server message && not (is_report message)
message_fits clients (StoreTakes n) message =
    if n == 0 then is_order message else is_to_store message && not (is_order message)
message_fits clients step message = false

-- what is handed to a step: a message that fits, or nothing where it takes nothing
abbrev pub nothing_fits : Option ℕ → Bool
nothing_fits None = true
nothing_fits (Some from) = false

abbrev pub taken_fits : ℕ → Step → Option Message → Bool
taken_fits clients step None = nothing_fits (taken_from clients step)
taken_fits clients step (Some message) = message_fits clients step message

-- the step in which a node takes from another
abbrev pub taking_step : ℕ → ℕ → ℕ → Step
taking_step clients from to =
    if to == 0 then ServerTakes from
    else (if to == clients + 1 then StoreTakes from
    else (if from == 0 then ClientFromServer to else ClientFromStore to))

-- what a node sends goes to a peer, and fits that one's taking
abbrev pub is_sent_well : ℕ → ℕ → Sent → Bool
is_sent_well clients node sent =
    are_peers clients node sent.to && message_fits clients (taking_step clients node sent.to) sent.message

-- the step that is recorded: the one asked for, or a restart where a failing disk was met
abbrev pub is_restart : Step → Bool
is_restart (Restart k) = true
is_restart step = false

abbrev pub IsRecorded : Step → Step → ℕ → ℕ → Type 0
IsRecorded asked recorded before now = (recorded ≡ asked) ⊎ ((is_restart recorded ≡ true) × (before < now))

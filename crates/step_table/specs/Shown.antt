-- What a client had been shown, and which cuts are closed. A cut of a snapshot keeps, of each client, as many of its first
-- changes as its number says.
use Rattle.std.specs.Prelude.{ℕ, ◌+◌, max, Bool, true, false, not, ◌||◌, ◌&&◌, ◌==◌, nat_lt, nat_le, List, [], ◌∷◌, ◌++◌, length, filter, take, fold, if◌then◌else◌, Option, None, Some}
use Rattle.std.specs.List.{list_any, list_all}
use Rattle.snap_ids.specs.declared.id.Ino.{Ino}
use Rattle.snap_ids.specs.Context.{Context}
use Rattle.plain_types.specs.declared.change.Change.TheVariants as change
use Rattle.plain_types.specs.declared.change.Effect.{Effect}
use Rattle.plain_types.specs.declared.entry.Entry.{Entry}
use Rattle.plain_types.specs.declared.entry.What.TheVariants.{Settle, Release}
use Rattle.plain_types.specs.declared.history.Event.{Event}
use Rattle.plain_types.specs.declared.history.Sent.{Sent}
use Rattle.plain_types.specs.declared.message.Message.{Message}
use Rattle.plain_types.specs.declared.message.Message.TheVariants as message
use Rattle.plain_types.specs.declared.message.ToServer.TheVariants as to_server
use Rattle.plain_tree.specs.State.{State, Handle, same_ino}
use Rattle.plain_tree.specs.Change.{open_of, is_refused, apply, state_after}
use Rattle.plain_tree.specs.History.{effects, is_of, told, stamp_of}
use Rattle.plain_journal.specs.Coverage.{context}
use Rattle.step_table.specs.ClientTakes.{conn_of, is_conn}

-- a client's connection number, and the entry stamp of the last message of that connection that it took, 0 at first
pub record Link : Type 0 where
  pub conn : ℕ
  pub entry : ℕ

abbrev pub first_link : Link
first_link = record { conn = 1; entry = 0 }

abbrev pub with_taken : Option Message → Link → Link
with_taken (Some (message.ToClient told)) link = record link { entry = if is_conn link.conn (conn_of told) then (stamp_of told).entry else link.entry }
with_taken taken link = link

-- a new connection begins with the message that asks for it
abbrev pub with_message : Link → Message → Link
with_message link (message.ToServer (to_server.Connect conn claims flushes asked)) = record link { conn = conn }
with_message link other = link

abbrev pub link_after : ℕ → Link → Event → Link
link_after client link event =
    if event.node == client then fold (λ l (sent : Sent). with_message l sent.message) (with_taken event.taken link) event.sent else link

-- the entries that a client's copies of contexts stem from, after these events
abbrev pub entries_known : ℕ → List Event → ℕ
entries_known client history = (fold (link_after client) first_link history).entry

-- The context of a change of bytes that a client makes at an event: that of the file after the entries that it knows of
-- then. The messages that change the file at the store carry it.
abbrev pub data_context : List Entry → List Event → ℕ → ℕ → Ino → Context
data_context journal history client event file = context (take (entries_known client (take (event + 1) history)) journal) file

-- a change that took effect: the event at which it did, and how many changes of the same client stand before it
pub record Placed : Type 0 where
  pub event : ℕ
  pub nth : ℕ
  pub effect : Effect

-- the changes of one event behind some before it
abbrev pub with_effect : ℕ → List Placed → Effect → List Placed
with_effect event before effect =
    before ++ record { event = event; nth = length (filter (λ (p : Placed). is_of effect.client p.effect) before); effect = effect } ∷ []

abbrev pub placed_from : ℕ → List Placed → List Event → List Placed
placed_from number before [] = before
placed_from number before (event ∷ history) = placed_from (number + 1) (fold (with_effect number) before event.effects) history

-- all changes of a history, in their order
abbrev pub placed : List Event → List Placed
placed history = placed_from 0 [] history

-- how many entries a client had heard of before an event, in all messages that it took, dropped ones too
abbrev pub heard_by : ℕ → ℕ → Option Message → ℕ
heard_by client heard (Some (message.ToClient told)) = max heard (stamp_of told).entry
heard_by client heard taken = heard

abbrev pub heard_before : List Event → ℕ → ℕ → ℕ
heard_before history client event =
    fold (λ heard (e : Event). if e.node == client then heard_by client heard e.taken else heard) 0 (take event history)

abbrev pub ino_of : Option Handle → Option Ino
ino_of None = None
ino_of (Some opened) = Some opened.ino

-- the file whose bytes a change changes, which the client had open then
abbrev pub file_changed : List Event → Placed → Option Ino
file_changed history p =
    let handles = (state_after (effects (take p.event history))).handles in
    elim p.effect.change [
      | change.WriteFile handle offset bytes ↦ ino_of (open_of handles p.effect.client handle)
      | change.Truncate handle size ↦ ino_of (open_of handles p.effect.client handle)
      | _ ↦ None
    ]

-- the message is a flush with this number
abbrev pub is_flush : ℕ → Message → Bool
is_flush number (message.ToServer (to_server.Flush conn flush)) = flush.number == number
is_flush number other = false

-- the event at which a client first sends the flush with a number; the end where it sends none
abbrev pub flush_sent : ℕ → ℕ → List Event → ℕ
flush_sent client number [] = 0
flush_sent client number (event ∷ history) =
    if event.node == client && list_any (λ (sent : Sent). is_flush number sent.message) event.sent then 0
    else flush_sent client number history + 1

-- An entry settles a change of this file's bytes: a flush of its client settles those with an older context than it says,
-- a release all that were made before it was sent.
abbrev pub settles : List Entry → List Event → Placed → Ino → Entry → Bool
settles journal history p file entry = entry.client == p.effect.client && (elim entry.what [
  | Settle ino follows upto size ↦
      same_ino ino file && nat_lt (data_context journal history p.effect.client p.event file).seq.0 upto.0
  | Release ino follows size ↦ same_ino ino file && nat_lt p.event (flush_sent entry.client entry.number history)
  | _ ↦ false
])

abbrev pub is_settled_in : List Entry → List Event → Placed → List Entry → Option Ino → Bool
is_settled_in journal history p entries None = false
is_settled_in journal history p entries (Some file) = list_any (settles journal history p file) entries

-- A client had been shown a change before an event: it is its own and was answered; or the server's, among the entries that
-- the client had heard of; or one of bytes, settled by these.
abbrev pub was_shown : List Entry → List Event → ℕ → ℕ → Placed → Bool
was_shown journal history client event p =
    let heard = heard_before history client event in
    (p.effect.client == client && nat_lt p.nth (told history client event))
    || (nat_lt 0 p.effect.entry && nat_le p.effect.entry heard)
    || (p.effect.entry == 0 && is_settled_in journal history p (take heard journal) (file_changed history p))

-- a cut keeps a change
abbrev pub keeps : (ℕ → ℕ) → Placed → Bool
keeps numbers p = nat_lt p.nth (numbers p.effect.client)

-- for each change that a cut keeps, it keeps all that the change's client had been shown when the change took effect
abbrev pub is_closed : List Entry → List Event → (ℕ → ℕ) → Bool
is_closed journal history numbers =
    let all = placed history in
    list_all (λ (p : Placed).
    not (keeps numbers p) || list_all (λ q. not (was_shown journal history p.effect.client p.event q) || keeps numbers q) all) all

-- none of some changes is refused when they are made one after another
abbrev pub all_succeed : State → List Effect → Bool
all_succeed state [] = true
all_succeed state (effect ∷ effects) =
    not (is_refused state effect.client effect.change) && all_succeed (apply state effect.client effect.change) effects

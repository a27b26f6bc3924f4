-- Which histories are legal for a script.
use Rattle.std.specs.Prelude.{◌≡◌, ℕ, ◌+◌, Bool, false, ◌&&◌, ◌==◌, List, [], ◌∷◌, ◌++◌, map, filter_map, if◌then◌else◌, Option, None, Some, option_map}
use Rattle.plain_types.specs.declared.history.Event.{Event}
use Rattle.plain_types.specs.declared.history.Sent.{Sent}
use Rattle.plain_types.specs.declared.history.Step.{Step}
use Rattle.plain_types.specs.declared.history.Step.TheVariants.{ClientFromServer, ClientFromStore, ServerTakes, StoreTakes}
use Rattle.plain_types.specs.declared.message.Message.{Message}
use Rattle.plain_types.specs.declared.script.Script.{Script}
use Rattle.step_table.specs.Messages.{plain_message, plain_sent}
use Rattle.step_table.specs.World.{World, Made, row, start}

-- An event is the row's: it says the same of the node, of what took effect and of what was replied, and of the messages
-- all but the traces in them, which give the same contexts.
pub record IsEventOf (event : Event) (made : Made) : Type 0 where
  pub node : event.node ≡ made.node
  pub taken : option_map plain_message event.taken ≡ option_map plain_message made.taken
  pub sent : map plain_sent event.sent ≡ map plain_sent made.sent
  pub effects : event.effects ≡ made.effects
  pub replies : event.replies ≡ made.replies

-- Event by event, the step is enabled and the event is its row's; the world goes on with the table's own messages.
abbrev pub LegalFrom : World → List Event → Type 0
LegalFrom w [] = Unit {0}
LegalFrom w (event ∷ history) = elim (row w event.step) [
  | None ↦ ⊥
  | Some made ↦ IsEventOf event made × LegalFrom made.world history
]

-- the node that a taking step takes from, where the store has this number
abbrev pub taken_from : ℕ → Step → Option ℕ
taken_from store (ClientFromServer n) = Some 0
taken_from store (ClientFromStore n) = Some store
taken_from store (ServerTakes n) = Some n
taken_from store (StoreTakes n) = Some n
taken_from store step = None

abbrev pub is_node : ℕ → Option ℕ → Bool
is_node n None = false
is_node n (Some other) = other == n

-- the messages that a node sent to another, in their order
abbrev pub message_to : ℕ → Sent → Option Message
message_to to sent = if sent.to == to then Some sent.message else None

abbrev pub sent_between : ℕ → ℕ → List Event → List Message
sent_between from to [] = []
sent_between from to (event ∷ history) =
    (if event.node == from then filter_map (message_to to) event.sent else []) ++ sent_between from to history

-- the messages that a node took from another
abbrev pub taken_list : Option Message → List Message
taken_list None = []
taken_list (Some taken) = taken ∷ []

abbrev pub taken_between : ℕ → ℕ → ℕ → List Event → List Message
taken_between store from to [] = []
taken_between store from to (event ∷ history) =
    (if event.node == to && is_node from (taken_from store event.step) then taken_list event.taken else [])
    ++ taken_between store from to history

-- each node takes from each other what that one sent, in this order, to the letter
abbrev pub Delivered : ℕ → List Event → Type 0
Delivered store history =
    (from to : ℕ) → (later : List Message) × (taken_between store from to history ++ later ≡ sent_between from to history)

-- a history is legal for a script
pub record Legal (history : List Event) (script : Script) : Type 0 where
  pub rows : LegalFrom (start script) history
  pub delivered : Delivered (script.clients + 1) history

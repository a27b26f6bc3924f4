-- What is made by an act that sends or replies alone.
use Rattle.std.specs.Prelude.{ℕ, true, [], ◌∷◌}
use Rattle.plain_types.specs.declared.answer.Answer.TheVariants.{Done}
use Rattle.plain_types.specs.declared.change.Change.{Change}
use Rattle.plain_types.specs.declared.history.Replied.{Replied}
use Rattle.plain_types.specs.declared.history.Sent.{Sent}
use Rattle.plain_types.specs.declared.message.Message.TheVariants as message
use Rattle.plain_types.specs.declared.message.ToStore.{ToStore}
use Rattle.client_state.specs.declared.acted.Acted.{Acted}

-- one message is all
abbrev pub only_sends : Sent → Acted
only_sends m = record { sent = m ∷ []; effects = []; replies = [] }

-- one reply is all
abbrev pub only_replies : Replied → Acted
only_replies r = record { sent = []; effects = []; replies = r ∷ [] }

-- a message to the store, which has this number
abbrev pub order_to : ℕ → ToStore → Sent
order_to store order = record { to = store; message = message.ToStore order }

-- a client's own change takes effect, and its line is answered
abbrev pub editing : ℕ → ℕ → Change → Acted
editing client number change = record {
  sent = [];
  effects = record { client = client; entry = 0; change = change } ∷ [];
  replies = record { client = client; line = number; changed = true; entry = 0; answer = Done } ∷ [];
}

-- The event of a client's line.
use Rattle.std.specs.Prelude.{ℕ, List, [], ◌∷◌, Option, None, Some, is_some}
use Rattle.plain_types.specs.declared.answer.Answer.{Answer}
use Rattle.plain_types.specs.declared.answer.Answer.TheVariants.{Done}
use Rattle.plain_types.specs.declared.change.Change.{Change}
use Rattle.plain_types.specs.declared.change.Effect.{Effect}
use Rattle.plain_types.specs.declared.history.Event.{Event}
use Rattle.plain_types.specs.declared.history.Replied.{Replied}
use Rattle.plain_types.specs.declared.history.Step.TheVariants.{Op}
use Rattle.plain_tree.specs.Line.{answer_to}
use Rattle.plain_journal.specs.Entries.{change_in}
use Rattle.direct_journal.specs.Direct.{told}
use Rattle.direct_journal.specs.Legal.{effects_of}
use Rattle.meta_state.specs.declared.decide.Decision.{Decision}
use Rattle.meta_state.specs.declared.decide.Decision.TheVariants.{Put, Say}

-- the client goes on by one line, with these effects and this reply, and no message
abbrev pub event_with : List Effect → Replied → Event
event_with effects reply = record {
  node = reply.client;
  step = Op reply.client;
  taken = None;
  sent = [];
  effects = effects;
  replies = reply ∷ [];
}

-- the event of a line after so many entries that makes this change and is told so
abbrev pub event_of : ℕ → ℕ → ℕ → Option Change → Answer → Event
event_of client number entries made said = event_with (effects_of client entries made) (record {
  client = client;
  line = number;
  changed = is_some made;
  entry = entries;
  answer = said;
})

-- the answer to a change
abbrev pub answer_for : Option Change → Answer
answer_for None = Done
answer_for (Some change) = answer_to change

-- the change that a decision makes, and what its client is told
abbrev pub made_by : Decision → Option Change
made_by (Put entry) = change_in entry.what
made_by (Say answer) = None

abbrev pub said_by : Decision → Answer
said_by (Put entry) = answer_for (change_in entry.what)
said_by (Say answer) = told answer

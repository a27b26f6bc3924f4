-- One server that answers each line at once knows the entries so far, and needs no more for its replies.
use Rattle.std.specs.Prelude.{◌≡◌, ℕ, List, [], ◌∷◌, ◌++◌, length, Option, Result}
use Rattle.plain_types.specs.declared.answer.Answer.{Answer}
use Rattle.plain_types.specs.declared.answer.Answer.TheVariants.{FoundLive, StatFile}
use Rattle.plain_types.specs.declared.answer.Refusal.{Refusal}
use Rattle.plain_types.specs.declared.change.Change.{Change}
use Rattle.plain_types.specs.declared.entry.Entry.{Entry}
use Rattle.plain_types.specs.declared.history.Event.{Event}
use Rattle.plain_types.specs.declared.request.Query.TheVariants as query
use Rattle.plain_types.specs.declared.script.Line.{Line}
use Rattle.plain_types.specs.declared.script.Line.TheVariants as line
use Rattle.plain_tree.specs.Line.{request_of, server_change}
use Rattle.plain_journal.specs.Answers.{answer_to}
use Rattle.plain_journal.specs.Entries.{state_after}
use Rattle.direct_journal.specs.Journal.{entries_in, next_snap}
use Rattle.direct_journal.specs.Legal.{Asked, IsEventOf, success, outcome_answer}

-- what the request of a line comes to after the entries
abbrev pub comes_to : List Entry → ℕ → Line → Option (Result Change Refusal)
comes_to entries client asked = server_change (state_after entries) client (next_snap entries) (request_of asked)

-- What a client is told where the server answers so. A live file that is found is told with its mode, and without a byte:
-- no line that is served writes one.
abbrev pub told : Answer → Answer
told (FoundLive ino perm size write_held) = StatFile perm 0
told answer = answer

-- what a server that knows the entries answers to a line
abbrev pub answer_after : List Entry → ℕ → Line → Answer
answer_after entries client (line.List path) = told (answer_to entries (query.List path))
answer_after entries client (line.Stat path) = told (answer_to entries (query.Stat path))
answer_after entries client (line.Realm path) = told (answer_to entries (query.Realm path))
answer_after entries client asked = outcome_answer (comes_to entries client asked)

-- the event of a line at a server that knows the entries
abbrev pub IsServedBy : List Entry → Asked → Event → Type 0
IsServedBy entries asked event = IsEventOf asked (length entries)
    (success (comes_to entries asked.client asked.line)) (answer_after entries asked.client asked.line) event

-- these events serve these lines after these entries
abbrev pub ServesAfter : List Entry → List Asked → List Event → Type 0
ServesAfter entries [] [] = Unit {0}
ServesAfter entries (asked ∷ lines) (event ∷ events) =
    IsServedBy entries asked event × ServesAfter (entries ++ entries_in event) lines events
ServesAfter entries [] (event ∷ events) = ⊥
ServesAfter entries (asked ∷ lines) [] = ⊥

-- all lines are those of client 1
abbrev pub OfOneClient : List (ℕ × Line) → Type 0
OfOneClient [] = Unit {0}
OfOneClient (line ∷ lines) = (line.0 ≡ 1) × OfOneClient lines

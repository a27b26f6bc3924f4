-- What events write down.
use Rattle.std.proofs.Common.{◌≡◌, ℕ, ◌+◌, List, [], ◌∷◌, ◌++◌, length, Option, None, Some, refl, sym, ap, ◌∙◌, arith}
use Rattle.snap_ids.specs.declared.id.SnapId.{SnapId}
use Rattle.plain_types.specs.declared.answer.Answer.{Answer}
use Rattle.plain_types.specs.declared.change.Change.{Change}
use Rattle.plain_types.specs.declared.change.Effect.{Effect}
use Rattle.plain_types.specs.declared.entry.Entry.{Entry}
use Rattle.plain_types.specs.declared.entry.What.{What}
use Rattle.plain_types.specs.declared.history.Event.{Event}
use Rattle.plain_tree.specs.State.{State}
use Rattle.plain_tree.specs.History.{effects}
use Rattle.plain_journal.specs.Entries.{change_in}
use Rattle.plain_journal.specs.Table.{effects_from}
use Rattle.direct_journal.specs.Journal.{entries_of, entries_in, journal_of}
use Rattle.direct_journal.specs.Legal.{Asked, IsEventOf, effects_of}
use Rattle.direct_journal.proofs.Entries.{effects_append}
use Rattle.direct_journal.proofs.Outcome.{IsMade, IsWritten, written}

-- what is made, if anything is, is written down
abbrev pub SomeWritten : Option Change → Type 0
SomeWritten None = Unit {0}
SomeWritten (Some made) = IsWritten made

pub some_written : (state : State) (client : ℕ) (id : SnapId) (o : Option Change) → ((made : Change) → o ≡ Some made → IsMade state client id made) → SomeWritten o
some_written state client id None is = tt
some_written state client id (Some made) is = written state id made (is made refl).next

-- the entry of a change
abbrev pub entry_for : ℕ → ℕ → What → Entry
entry_for client number what = record { client = client; number = number; what = what }

one_in : (client number entries : ℕ) (made : Change) (w : IsWritten made) → entries_of number (effects_of client entries (Some made)) ≡ entry_for client number w.what ∷ []
one_in client number entries made w = rw (w.said) refl

-- an event writes down one entry where it makes a change, else none
pub entries_here : (asked : Asked) (entries : ℕ) (o : Option Change) (answer : Answer) (event : Event) → IsEventOf asked entries o answer event → entries_in event ≡ entries_of asked.number (effects_of asked.client entries o)
entries_here asked entries o answer event is = rw (is.effects, is.replies) refl

pub nothing_in : (asked : Asked) (entries : ℕ) (answer : Answer) (event : Event) → IsEventOf asked entries None answer event → entries_in event ≡ []
nothing_in asked entries answer event is = entries_here asked entries None answer event is

pub entry_in : (asked : Asked) (entries : ℕ) (made : Change) (w : IsWritten made) (answer : Answer) (event : Event) → IsEventOf asked entries (Some made) answer event → entries_in event ≡ entry_for asked.client asked.number w.what ∷ []
entry_in asked entries made w answer event is = entries_here asked entries (Some made) answer event is ∙ one_in asked.client asked.number entries made w

-- an event's effects are those that its entries say, from the next place on
pub record IsDown (n : ℕ) (event : Event) : Type 0 where
  pub effects : event.effects ≡ effects_from (n + 1) (entries_in event)
  pub long : length (entries_in event) ≡ length event.effects

pub is_down : (asked : Asked) (n : ℕ) (o : Option Change) (answer : Answer) (event : Event) → SomeWritten o → IsEventOf asked n o answer event → IsDown n event
is_down asked n None answer event w is =
    let none : entries_in event ≡ [] = nothing_in asked n answer event is in
    record { effects = is.effects ∙ sym (ap (effects_from (n + 1)) none); long = ap length none ∙ sym (ap length is.effects) }
is_down asked n (Some made) answer event w is =
    let one : entries_in event ≡ entry_for asked.client asked.number w.what ∷ [] = entry_in asked n made w answer event is in
    record { effects = is.effects ∙ sym (said w.what w.says) ∙ sym (ap (effects_from (n + 1)) one); long = ap length one ∙ sym (ap length is.effects) }
  where
    said : (what : What) → change_in what ≡ Some made → effects_from (n + 1) (entry_for asked.client asked.number what ∷ []) ≡ effects_of asked.client n (Some made)
    said what says = rw says refl

abbrev pub AllDown : ℕ → List Event → Type 0
AllDown n [] = Unit {0}
AllDown n (event ∷ events) = IsDown n event × AllDown (n + length event.effects) events

-- the effects of all events are those that all entries say
pub effects_down : (n : ℕ) (events : List Event) → AllDown n events → effects events ≡ effects_from (n + 1) (journal_of events)
effects_down n [] all = refl
effects_down n (event ∷ events) all =
    ap (λ (l : List Effect). l ++ effects events) all.0.effects
    ∙ ap (λ (l : List Effect). effects_from (n + 1) (entries_in event) ++ l) (effects_down (n + length event.effects) events all.1)
    ∙ sym (effects_append (n + 1) (n + length event.effects + 1) (entries_in event) (journal_of events) (omega (arith, all.0.long)))

-- One line more that a server serves.
use Rattle.std.proofs.Common.{◌≡◌, List, [], ◌∷◌, ◌++◌, length, Option, None, Some, refl, sym, ap, ◌∙◌, subst, append_assoc}
use Rattle.std.proofs.lemmas.List.{append-nil}
use Rattle.plain_types.specs.declared.change.Change.{Change}
use Rattle.plain_types.specs.declared.entry.Entry.{Entry}
use Rattle.plain_types.specs.declared.entry.What.{What}
use Rattle.plain_types.specs.declared.history.Event.{Event}
use Rattle.direct_journal.specs.Direct.{comes_to, answer_after, IsServedBy, ServesAfter}
use Rattle.direct_journal.specs.Journal.{what_of, entries_of, entries_in, journal_of}
use Rattle.direct_journal.specs.Legal.{Asked, success, effects_of}
use Rattle.direct_journal.proofs.Written.{entry_for, entries_here}

pub serves_push : (entries : List Entry) (lines : List Asked) (events : List Event) (asked : Asked) (event : Event) → ServesAfter entries lines events → IsServedBy (entries ++ journal_of events) asked event → ServesAfter entries (lines ++ asked ∷ []) (events ++ event ∷ [])
serves_push entries [] [] asked event after served = (subst (λ (l : List Entry). IsServedBy l asked event) (append-nil entries) served, tt)
serves_push entries [] (first ∷ events) asked event after served = absurd after
serves_push entries (first ∷ lines) [] asked event after served = absurd after
serves_push entries (first ∷ lines) (one ∷ events) asked event after served = (
  after.0,
  serves_push (entries ++ entries_in one) lines events asked event after.1
      (subst (λ (l : List Entry). IsServedBy l asked event) (sym (append_assoc entries (entries_in one) (journal_of events))) served),
)

pub journal_push : (events : List Event) (event : Event) → journal_of (events ++ event ∷ []) ≡ journal_of events ++ entries_in event
journal_push [] event = append-nil (entries_in event)
journal_push (first ∷ events) event =
    ap (λ (l : List Entry). entries_in first ++ l) (journal_push events event)
    ∙ sym (append_assoc (entries_in first) (journal_of events) (entries_in event))

here : (entries : List Entry) (asked : Asked) (event : Event) (o : Option Change) → IsServedBy entries asked event → success (comes_to entries asked.client asked.line) ≡ o → entries_in event ≡ entries_of asked.number (effects_of asked.client (length entries) o)
here entries asked event o served is =
    entries_here asked (length entries) (success (comes_to entries asked.client asked.line)) (answer_after entries asked.client asked.line) event served
    ∙ ap (λ (made : Option Change). entries_of asked.number (effects_of asked.client (length entries) made)) is

pub no_change : (entries : List Entry) (asked : Asked) (event : Event) → IsServedBy entries asked event → success (comes_to entries asked.client asked.line) ≡ None → entries_in event ≡ []
no_change entries asked event served is = here entries asked event None served is

pub one_change : (entries : List Entry) (asked : Asked) (event : Event) (made : Change) (what : What) → IsServedBy entries asked event → success (comes_to entries asked.client asked.line) ≡ Some made → what_of made ≡ Some what → entries_in event ≡ entry_for asked.client asked.number what ∷ []
one_change entries asked event made what served is said = here entries asked event (Some made) served is ∙ rw said refl

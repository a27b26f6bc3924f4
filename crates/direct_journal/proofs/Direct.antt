-- What serves each line after the entries so far is legal in the whole history.
use Rattle.std.proofs.Common.{◌≡◌, ℕ, ◌+◌, List, [], ◌∷◌, ◌++◌, length, take, Option, refl, sym, ap, ◌∙◌, subst, length-append, append_assoc}
use Rattle.std.specs.Prelude.{filter}
use Rattle.snap_ids.specs.declared.id.SnapId.{SnapId}
use Rattle.plain_types.specs.declared.answer.Answer.{Answer}
use Rattle.plain_types.specs.declared.change.Change.{Change}
use Rattle.plain_types.specs.declared.entry.Entry.{Entry}
use Rattle.plain_types.specs.declared.history.Event.{Event}
use Rattle.plain_types.specs.declared.script.Line.{Line}
use Rattle.plain_tree.specs.Change as plain
use Rattle.plain_tree.specs.History.{effects, is_among, at_entry}
use Rattle.plain_tree.specs.History as words
use Rattle.plain_journal.specs.Entries.{state_after, before_snap, tree_at}
use Rattle.plain_journal.specs.Realms.{shown}
use Rattle.plain_journal.specs.Table.{effects_from}
use Rattle.direct_journal.specs.Cut.{tree}
use Rattle.direct_journal.specs.Direct.{comes_to, answer_after, IsServedBy, ServesAfter, OfOneClient}
use Rattle.direct_journal.specs.Journal.{entries_in, journal_of, journal_at, next_snap}
use Rattle.direct_journal.specs.Legal.{Asked, one_more, numbered_after, numbered, success, change_made, line_answer, IsEventOf, IsServed, Serves, Legal}
use Rattle.direct_journal.proofs.Agree.{AgreeOn, answer_same}
use Rattle.direct_journal.proofs.Effects.{AllSingle, single_from_event}
use Rattle.direct_journal.proofs.Entries.{state_of_effects, before_of_effects, among_first, tree_stays}
use Rattle.direct_journal.proofs.Kept.{tree_is}
use Rattle.direct_journal.proofs.Made.{shown_made}
use Rattle.direct_journal.proofs.Outcome.{by_request, is_made}
use Rattle.direct_journal.proofs.Written.{some_written, IsDown, AllDown, is_down, effects_down}

-- the history's effects are those that its entries say
abbrev pub AreDown : List Event → Type 0
AreDown history = effects history ≡ effects_from 1 (journal_of history)

-- then its state after so many effects is that after so many entries
pub state_at : (history : List Event) (n : ℕ) → AreDown history → at_entry history n ≡ state_after (journal_at history n)
state_at history n down =
    ap plain.state_after (ap (filter (is_among n)) down ∙ among_first n (journal_of history))
    ∙ state_of_effects 1 (journal_at history n)

-- and the tree of a snapshot is that of its entries
pub tree_of_journal : (history : List Event) (s : SnapId) → AllSingle history → AreDown history → tree history s ≡ tree_at (journal_of history) s
tree_of_journal history s all down =
    tree_is history s all
    ∙ ap plain.state_after (ap (words.before_snap s) down ∙ before_of_effects s 1 (journal_of history))
    ∙ state_of_effects 1 (before_snap s (journal_of history))

-- the first entries of a history
pub first_of : (done later : List Entry) → take (length done) (done ++ later) ≡ done
first_of [] later = refl
first_of (e ∷ done) later = ap (λ (l : List Entry). e ∷ l) (first_of done later)

-- an event of some change and answer is one of the same
pub event_with : {asked : Asked} {n : ℕ} {made other : Option Change} {answer another : Answer} {event : Event} → other ≡ made → another ≡ answer → IsEventOf asked n made answer event → IsEventOf asked n other another event
event_with {asked} {n} {made} {other} {answer} {another} {event} same told is =
    subst (λ (o : Option Change). IsEventOf asked n o another event) (sym same)
    (subst (λ (a : Answer). IsEventOf asked n made a event) (sym told) is)

-- a line that a server serves is served so in the history
served_in : (history : List Event) (done : List Entry) (asked : Asked) (event : Event) → at_entry history (length done) ≡ state_after done → journal_at history (length done) ≡ done → AgreeOn (shown done) (tree_at done) (tree history) → IsServedBy done asked event → IsServed history (length done) asked event
served_in history done asked event live now agree is = event_with same_change same_answer is
  where
    same_change : change_made (at_entry history (length done)) (journal_at history (length done)) asked.client asked.line ≡ success (comes_to done asked.client asked.line)
    same_change = rw (live, now) (ap success (by_request (state_after done) asked.client (next_snap done) asked.line is.served))

    same_answer : line_answer (at_entry history (length done)) (tree history) (journal_at history (length done)) asked.client asked.line ≡ answer_after done asked.client asked.line
    same_answer = rw (live, now) (answer_same done (tree history) asked.client asked.line agree is.served)

serves : (history : List Event) → AllSingle history → AreDown history → (done : List Entry) (lines : List Asked) (events : List Event) → journal_of history ≡ done ++ journal_of events → AllDown (length done) events → ServesAfter done lines events → Serves history (length done) lines events
serves history all down done [] [] more each after = tt
serves history all down done [] (event ∷ events) more each after = after
serves history all down done (asked ∷ lines) [] more each after = after
serves history all down done (asked ∷ lines) (event ∷ events) more each after = (
  served_in history done asked event live now agree after.0,
  subst (λ (n : ℕ). Serves history n lines events) long
      (serves history all down (done ++ entries_in event) lines events (more ∙ sym (append_assoc done (entries_in event) (journal_of events))) (subst (λ (n : ℕ). AllDown n events) (sym long) each.1) after.1),
)
  where
    long : length (done ++ entries_in event) ≡ length done + length event.effects
    long = length-append done (entries_in event) ∙ ap (λ (n : ℕ). length done + n) each.0.long

    now : journal_at history (length done) ≡ done
    now = ap (take (length done)) more ∙ first_of done (journal_of (event ∷ events))

    live : at_entry history (length done) ≡ state_after done
    live = state_at history (length done) down ∙ ap state_after now

    agree : AgreeOn (shown done) (tree_at done) (tree history)
    agree dir name s found = sym
        (tree_of_journal history s all down
        ∙ ap (λ (l : List Entry). tree_at l s) more
        ∙ tree_stays s done (journal_of (event ∷ events)) (shown_made done dir name s found))

-- what serves lines after entries is written down
all_down : (done : List Entry) (lines : List Asked) (events : List Event) → ServesAfter done lines events → AllDown (length done) events
all_down done [] [] after = tt
all_down done [] (event ∷ events) after = absurd after
all_down done (asked ∷ lines) [] after = absurd after
all_down done (asked ∷ lines) (event ∷ events) after = (
  here,
  subst (λ (n : ℕ). AllDown n events) long (all_down (done ++ entries_in event) lines events after.1),
)
  where
    here : IsDown (length done) event
    here = is_down asked (length done) (success (comes_to done asked.client asked.line)) (answer_after done asked.client asked.line) event
        (some_written (state_after done) asked.client (next_snap done) (success (comes_to done asked.client asked.line)) (is_made (state_after done) asked.client (next_snap done) asked.line))
        after.0

    long : length (done ++ entries_in event) ≡ length done + length event.effects
    long = length-append done (entries_in event) ∙ ap (λ (n : ℕ). length done + n) here.long

all_single : (done : List Entry) (before : ℕ → ℕ) (lines : List (ℕ × Line)) (events : List Event) → OfOneClient lines → ServesAfter done (numbered_after before lines) events → AllSingle events
all_single done before [] [] of_one after = tt
all_single done before [] (event ∷ events) of_one after = absurd after
all_single done before (line ∷ lines) [] of_one after = absurd after
all_single done before (line ∷ lines) (event ∷ events) of_one after = (
  single_from_event _ _ _ _ event of_one.0 after.0,
  all_single (done ++ entries_in event) (one_more line.0 before) lines events of_one.1 after.1,
)

-- the law
pub direct_is_legal : (lines : List (ℕ × Line)) (history : List Event) → OfOneClient lines → ServesAfter [] (numbered lines) history → Legal history lines
direct_is_legal lines history of_one after =
    serves history (all_single [] (λ client. 0) lines history of_one after) (effects_down 0 history down) [] (numbered lines) history refl down after
  where
    down : AllDown 0 history
    down = all_down [] (numbered lines) history after

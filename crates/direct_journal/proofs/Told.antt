-- What the entries of a legal direct history tell.
use Rattle.std.proofs.Common.{◌≡◌, ℕ, zero, suc, ◌+◌, ◌<◌, ◌≤◌, List, [], ◌∷◌, ◌++◌, length, take, true, false, Option, None, Some, refl, sym, ap, ◌∙◌, subst, length-append, append_assoc, arith}
use Rattle.std.proofs.lemmas.List.{append-nil}
use Rattle.std.proofs.lemmas.List.Sums.{fold-append}
use Rattle.std.proofs.lemmas.Bool.Decides.{nat_tests}
use Rattle.std.specs.Prelude.{◌&&◌, nat_lt}
use Rattle.snap_ids.specs.declared.id.SnapId.{SnapId}
use Rattle.plain_types.specs.declared.answer.Answer.{Answer}
use Rattle.plain_types.specs.declared.change.Change.{Change}
use Rattle.plain_types.specs.declared.change.Change.TheVariants as change
use Rattle.plain_types.specs.declared.change.Effect.{Effect}
use Rattle.plain_types.specs.declared.entry.Entry.{Entry}
use Rattle.plain_types.specs.declared.entry.What.{What}
use Rattle.plain_types.specs.declared.history.Event.{Event}
use Rattle.plain_types.specs.declared.script.Line.{Line}
use Rattle.plain_tree.specs.Change.{is_refused}
use Rattle.plain_tree.specs.History.{effects, at_entry}
use Rattle.plain_tree.specs.Line.{request_of, server_change}
use Rattle.plain_tree.proofs.Asked.{same_number}
use Rattle.plain_journal.specs.Entries.{change_in, state_after, tree_at, applied_by, applied}
use Rattle.plain_journal.specs.Legal.{fits, is_legal, legal_after, is_journal}
use Rattle.journal_laws.specs.Entries.{was_made}
use Rattle.direct_journal.specs.Cut.{tree}
use Rattle.direct_journal.specs.Direct.{comes_to, OfOneClient}
use Rattle.direct_journal.specs.Journal.{what_of, entries_in, journal_of, journal_at, next_snap}
use Rattle.direct_journal.specs.Legal.{Asked, one_more, numbered_after, numbered, success, change_made, IsEventOf, Serves, Legal}
use Rattle.direct_journal.proofs.Direct.{AreDown, state_at, tree_of_journal, first_of}
use Rattle.direct_journal.proofs.Effects.{AllSingle, single_from_event}
use Rattle.direct_journal.proofs.Entries.{tree_stays}
use Rattle.direct_journal.proofs.Outcome.{IsNext, by_request, written, is_made}
use Rattle.direct_journal.proofs.Written.{some_written, entry_for, nothing_in, entry_in, AllDown, is_down, effects_down}

-- a served line's change is that of its request
asked_change : (history : List Event) (n : ℕ) (asked : Asked) (event : Event) (made : Option Change) (answer : Answer) → IsEventOf asked n made answer event → change_made (at_entry history n) (journal_at history n) asked.client asked.line ≡ success (server_change (at_entry history n) asked.client (next_snap (journal_at history n)) (request_of asked.line))
asked_change history n asked event made answer is = ap success (by_request (at_entry history n) asked.client (next_snap (journal_at history n)) asked.line is.served)

-- what serves lines in a history is written down
down_from : (history : List Event) (n : ℕ) (lines : List Asked) (events : List Event) → Serves history n lines events → AllDown n events
down_from history n [] [] serves = tt
down_from history n [] (event ∷ events) serves = absurd serves
down_from history n (asked ∷ lines) [] serves = absurd serves
down_from history n (asked ∷ lines) (event ∷ events) serves = (
  is_down asked n _ _ event
      (some_written (at_entry history n) asked.client (next_snap (journal_at history n)) _ (λ made is.
      is_made (at_entry history n) asked.client (next_snap (journal_at history n)) asked.line made (sym (asked_change history n asked event _ _ serves.0) ∙ is)))
      serves.0,
  down_from history (n + length event.effects) lines events serves.1,
)

pub legal_down : (history : List Event) (lines : List (ℕ × Line)) → Legal history lines → AllDown 0 history
legal_down history lines legal = down_from history 0 (numbered lines) history legal

pub are_down : (history : List Event) (lines : List (ℕ × Line)) → Legal history lines → AreDown history
are_down history lines legal = effects_down 0 history (legal_down history lines legal)

single_in : (history : List Event) (n : ℕ) (before : ℕ → ℕ) (lines : List (ℕ × Line)) (events : List Event) → OfOneClient lines → Serves history n (numbered_after before lines) events → AllSingle events
single_in history n before [] [] of_one serves = tt
single_in history n before [] (event ∷ events) of_one serves = absurd serves
single_in history n before (line ∷ lines) [] of_one serves = absurd serves
single_in history n before (line ∷ lines) (event ∷ events) of_one serves = (
  single_from_event _ _ _ _ event of_one.0 serves.0,
  single_in history (n + length event.effects) (one_more line.0 before) lines events of_one.1 serves.1,
)

-- the state of a legal history is that of its entries
pub state_told : (history : List Event) (lines : List (ℕ × Line)) → Legal history lines → (n : ℕ) → at_entry history n ≡ state_after (journal_at history n)
state_told history lines legal n = state_at history n (are_down history lines legal)

-- so are its snapshots' trees
pub tree_told : (history : List Event) (lines : List (ℕ × Line)) → OfOneClient lines → Legal history lines → (s : SnapId) → tree history s ≡ tree_at (journal_of history) s
tree_told history lines of_one legal s =
    tree_of_journal history s (single_in history 0 (λ client. 0) lines history of_one legal) (are_down history lines legal)

-- a list is its first elements and the others
split_at : (n : ℕ) (entries : List Entry) → (later : List Entry) × (entries ≡ take n entries ++ later)
split_at zero entries = (entries, refl)
split_at (suc n) [] = ([], refl)
split_at (suc n) (e ∷ entries) = let rest = split_at n entries in (rest.0, ap (λ (l : List Entry). e ∷ l) rest.1)

pub tree_then : (history : List Event) (lines : List (ℕ × Line)) → OfOneClient lines → Legal history lines → (n : ℕ) (s : SnapId) → was_made s (journal_at history n) ≡ true → tree history s ≡ tree_at (journal_at history n) s
tree_then history lines of_one legal n s made =
    let split = split_at n (journal_of history) in
    tree_told history lines of_one legal s ∙ ap (λ (l : List Entry). tree_at l s) split.1 ∙ tree_stays s (journal_at history n) split.0 made

pub tree_more : (history : List Event) (lines : List (ℕ × Line)) → OfOneClient lines → Legal history lines → (s : SnapId) (later : List Entry) → was_made s (journal_of history) ≡ true → tree history s ≡ tree_at (journal_of history ++ later) s
tree_more history lines of_one legal s later made =
    tree_told history lines of_one legal s ∙ sym (tree_stays s (journal_of history) later made)

-- what a change writes down after entries fits them
pub record Follows (done : List Entry) (made : Change) (w : What) : Type 0 where
  pub fit : fits done w ≡ true
  pub says : change_in w ≡ Some made
  pub upto : applied_by (applied done) w ≤ applied done + 1

new_id : (n id : ℕ) → id ≡ n + 1 → n + 1 < 4611686018427387904 → (nat_lt n id && nat_lt id 4611686018427387904) ≡ true
new_id n id is below =
    let above : nat_lt n id ≡ true = grind (arith, nat_tests) in
    let given : nat_lt id 4611686018427387904 ≡ true = grind (arith, nat_tests) in
    rw (above, given) refl

abbrev SomeFollows : List Entry → Change → Option What → Type 0
SomeFollows done made None = Unit {0}
SomeFollows done made (Some w) = Follows done made w

next_follows : (done : List Entry) (made : Change) → IsNext (state_after done) (next_snap done) made → applied done + 1 < 4611686018427387904 → SomeFollows done made (what_of made)
next_follows done (change.Mkdir dir name ino) next below = record { fit = rw next (same_number _); says = refl; upto = omega arith }
next_follows done (change.Create dir name ino mode) next below = record { fit = rw next (same_number _); says = refl; upto = omega arith }
next_follows done (change.Link ino dir name) next below = record { fit = refl; says = refl; upto = omega arith }
next_follows done (change.Unlink dir name) next below = record { fit = refl; says = refl; upto = omega arith }
next_follows done (change.Rmdir dir name) next below = record { fit = refl; says = refl; upto = omega arith }
next_follows done (change.Rename dir name to_dir to_name) next below = record { fit = refl; says = refl; upto = omega arith }
next_follows done (change.Chmod ino mode) next below = record { fit = refl; says = refl; upto = omega arith }
next_follows done (change.OpenFile handle ino writable) next below = record { fit = refl; says = refl; upto = omega arith }
next_follows done (change.CloseFile handle) next below = record { fit = refl; says = refl; upto = omega arith }
next_follows done (change.Rmsnap id) next below = record { fit = refl; says = refl; upto = omega arith }
next_follows done (change.Mksnap id dir name) next below =
    let number : id.0 ≡ applied done + 1 = ap (λ (s : SnapId). s.0) next in
    record { fit = new_id (applied done) id.0 number below; says = refl; upto = omega (arith, number) }
next_follows done (change.WriteFile handle offset bytes) next below = tt
next_follows done (change.Truncate handle size) next below = tt

follows : (done : List Entry) (made : Change) (w : What) → what_of made ≡ Some w → IsNext (state_after done) (next_snap done) made → applied done + 1 < 4611686018427387904 → Follows done made w
follows done made w is next below = subst (SomeFollows done made) is (next_follows done made next below)

fine_legal : (done : List Entry) (client number : ℕ) (made : Change) (w : What) → Follows done made w → is_refused (state_after done) client made ≡ false → is_legal done (entry_for client number w) ≡ true
fine_legal done client number made w f fine = rw (f.says, fine, f.fit) refl

-- what a line that succeeds writes down may follow
pub written_legal : (done : List Entry) (client number : ℕ) (asked : Line) (made : Change) (w : What) → success (comes_to done client asked) ≡ Some made → what_of made ≡ Some w → applied done + 1 < 4611686018427387904 → is_legal done (entry_for client number w) ≡ true
written_legal done client number asked made w is said below =
    let m = is_made (state_after done) client (next_snap done) asked made is in
    fine_legal done client number made w (follows done made w said m.next below) m.fine

applied_more : (done : List Entry) (e : Entry) → applied (done ++ e ∷ []) ≡ applied_by (applied done) e.what
applied_more done e = fold-append (λ before (x : Entry). applied_by before x.what) 1 done (e ∷ [])

-- an event's entries may follow, and raise the last id by at most one each
record Goes (done : List Entry) (here : List Entry) : Type 0 where
  pub legal : (later : List Entry) → legal_after (done ++ here) later ≡ true → legal_after done (here ++ later) ≡ true
  pub upto : applied (done ++ here) ≤ applied done + length here

goes_none : (done here : List Entry) → here ≡ [] → Goes done here
goes_none done here is = subst (Goes done) (sym is) (record {
  legal = λ later l. subst (λ (d : List Entry). legal_after d later ≡ true) (append-nil done) l;
  upto = subst (λ (d : List Entry). applied d ≤ applied done + 0) (sym (append-nil done)) (omega arith);
})

goes_one : (done here : List Entry) (e : Entry) → here ≡ e ∷ [] → is_legal done e ≡ true → applied_by (applied done) e.what ≤ applied done + 1 → Goes done here
goes_one done here e is legal upto = subst (Goes done) (sym is) (record {
  legal = λ later l. rw (legal, l) refl;
  upto = subst (λ (n : ℕ). n ≤ applied done + 1) (sym (applied_more done e)) upto;
})

-- what holds where a change is made
abbrev IfMade : Option Change → Type 0 → Type 0
IfMade None P = Unit {0}
IfMade (Some made) P = P

goes : (done : List Entry) (asked : Asked) (n : ℕ) (o : Option Change) (answer : Answer) (event : Event) → success (comes_to done asked.client asked.line) ≡ o → IfMade o (applied done + 1 < 4611686018427387904) → IsEventOf asked n o answer event → Goes done (entries_in event)
goes done asked n None answer event made below is = goes_none done (entries_in event) (nothing_in asked n answer event is)
goes done asked n (Some c) answer event made below is =
    let m = is_made (state_after done) asked.client (next_snap done) asked.line c made in
    let w = written (state_after done) (next_snap done) c m.next in
    let f = follows done c w.what w.said m.next below in
    goes_one done (entries_in event) (entry_for asked.client asked.number w.what) (entry_in asked n c w answer event is) (fine_legal done asked.client asked.number c w.what f m.fine) f.upto

-- the change of an event at such entries, when it makes one, leaves room for the next id
room : (done : List Entry) (o : Option Change) (asked : Asked) (n : ℕ) (answer : Answer) (event : Event) (later : List Effect) → IsEventOf asked n o answer event → applied done ≤ length done + 1 → length done + length (event.effects ++ later) + 1 < 4611686018427387904 → IfMade o (applied done + 1 < 4611686018427387904)
room done None asked n answer event later is upto few = tt
room done (Some made) asked n answer event later is upto few =
    let one : length event.effects ≡ 1 = ap length is.effects in
    let all : length (event.effects ++ later) ≡ length event.effects + length later = length-append event.effects later in
    omega (arith, one, all, upto, few)

legal_from : (history : List Event) → AreDown history → (done : List Entry) (lines : List Asked) (events : List Event) → journal_of history ≡ done ++ journal_of events → AllDown (length done) events → applied done ≤ length done + 1 → length done + length (effects events) + 1 < 4611686018427387904 → Serves history (length done) lines events → legal_after done (journal_of events) ≡ true
legal_from history down done [] [] more each upto few serves = refl
legal_from history down done [] (event ∷ events) more each upto few serves = absurd serves
legal_from history down done (asked ∷ lines) [] more each upto few serves = absurd serves
legal_from history down done (asked ∷ lines) (event ∷ events) more each upto few serves =
    g.legal (journal_of events)
    (legal_from history down (done ++ here) lines events (more ∙ sym (append_assoc done here (journal_of events)))
    (subst (λ (n : ℕ). AllDown n events) (sym long) each.1)
    (omega (arith, g.upto, upto, length-append done here))
    (omega (arith, few, long, all))
    (subst (λ (n : ℕ). Serves history n lines events) (sym long) serves.1))
  where
    here : List Entry
    here = entries_in event

    now : journal_at history (length done) ≡ done
    now = ap (take (length done)) more ∙ first_of done (journal_of (event ∷ events))

    live : at_entry history (length done) ≡ state_after done
    live = state_at history (length done) down ∙ ap state_after now

    long : length (done ++ here) ≡ length done + length event.effects
    long = length-append done here ∙ ap (λ (n : ℕ). length done + n) each.0.long

    all : length (effects (event ∷ events)) ≡ length event.effects + length (effects events)
    all = length-append event.effects (effects events)

    o : Option Change
    o = change_made (at_entry history (length done)) (journal_at history (length done)) asked.client asked.line

    same_change : success (comes_to done asked.client asked.line) ≡ o
    same_change = rw (live, now) (ap success (sym (by_request (state_after done) asked.client (next_snap done) asked.line serves.0.served)))

    g : Goes done here
    g = goes done asked (length done) o _ event same_change (room done o asked (length done) _ event (effects events) serves.0 upto few) serves.0

-- the entries of a legal history are those of a journal
pub journal_legal : (history : List Event) (lines : List (ℕ × Line)) → Legal history lines → length (effects history) + 1 < 4611686018427387904 → is_journal (journal_of history) ≡ true
journal_legal history lines legal few =
    legal_from history (are_down history lines legal) [] (numbered lines) history refl (legal_down history lines legal) (omega arith) (omega (arith, few)) legal

-- Which histories are legal for a script: each line's reply is the plain tree's.
use Rattle.std.specs.Prelude.{◌≡◌, ℕ, ◌+◌, Bool, true, false, ◌&&◌, ◌==◌, is_some, List, [], ◌∷◌, length, filter, if◌then◌else◌, Option, None, Some, Result, Ok, Err}
use Rattle.std.specs.List.{AllByRecursion}
use Rattle.snap_ids.specs.declared.id.SnapId.{SnapId}
use Rattle.snap_ids.specs.Path.{Place, Live, Snaps, InSnap, place_of}
use Rattle.plain_types.specs.declared.answer.Answer.{Answer}
use Rattle.plain_types.specs.declared.answer.Answer.TheVariants.{Refused, RealmIs}
use Rattle.plain_types.specs.declared.answer.Refusal.{Refusal}
use Rattle.plain_types.specs.declared.answer.Refusal.TheVariants.{ReadOnly}
use Rattle.plain_types.specs.declared.change.Change.{Change}
use Rattle.plain_types.specs.declared.change.Effect.{Effect}
use Rattle.plain_types.specs.declared.entry.Entry.{Entry}
use Rattle.plain_types.specs.declared.history.Event.{Event}
use Rattle.plain_types.specs.declared.history.Replied.{Replied}
use Rattle.plain_types.specs.declared.history.Step.TheVariants.{Op}
use Rattle.plain_types.specs.declared.script.Line.{Line}
use Rattle.plain_types.specs.declared.script.Line.TheVariants as line
use Rattle.plain_tree.specs.State.{State}
use Rattle.plain_tree.specs.Query.{found_at, answered, list_answer, stat_answer, live_only}
use Rattle.plain_tree.specs.Line.{change_by, change_answer}
use Rattle.plain_tree.specs.History.{at_entry}
use Rattle.plain_journal.specs.Answers.{live_answer}
use Rattle.plain_journal.specs.Coverage.{context}
use Rattle.plain_journal.specs.Realms.{realm_at, shown}
use Rattle.direct_journal.specs.Cut.{tree}
use Rattle.direct_journal.specs.Journal.{journal_at, next_snap}
use Rattle.direct_journal.specs.Served.{is_live_place, is_served}

-- what a line comes to makes a change where it succeeds
abbrev pub success : Option (Result Change Refusal) → Option Change
success None = None
success (Some (Ok change)) = Some change
success (Some (Err refusal)) = None

-- the answer to what a line for a change comes to; no other line that is served has one
abbrev pub outcome_answer : Option (Result Change Refusal) → Answer
outcome_answer None = Refused ReadOnly
outcome_answer (Some result) = change_answer result

-- the change that a client's line makes; a snapshot gets the next id
abbrev pub change_made : State → List Entry → ℕ → Line → Option Change
change_made live entries client line = success (change_by live client (next_snap entries) line)

-- the plain answer to `ls`: names of snapshots are looked up among those that are shown after the entries, and what stands
-- behind one in the tree of that snapshot
abbrev pub listed : State → (SnapId → State) → List Entry → Place → Answer
listed live trees entries place =
    answered (found_at (shown entries) trees live place) (list_answer (shown entries) trees live)

-- the plain answer to a client's line after the entries
abbrev pub line_answer : State → (SnapId → State) → List Entry → ℕ → Line → Answer
line_answer live trees entries client (line.List path) = listed live trees entries (place_of path)
line_answer live trees entries client (line.Stat path) =
    answered (found_at (shown entries) trees live (place_of path)) (stat_answer trees live)
line_answer live trees entries client (line.Realm path) =
    live_answer (live_only live (place_of path)) (λ ino. RealmIs (realm_at entries ino) (context entries ino))
line_answer live trees entries client line = outcome_answer (change_by live client (next_snap entries) line)

-- a change that took effect after so many entries is the journal's next one
abbrev pub effects_of : ℕ → ℕ → Option Change → List Effect
effects_of client entries None = []
effects_of client entries (Some change) = record { client = client; entry = entries + 1; change = change } ∷ []

-- a client's line with its number among the client's, from 1
pub record Asked : Type 0 where
  pub client : ℕ
  pub number : ℕ
  pub line : Line

-- one more line of this client
abbrev pub one_more : ℕ → (ℕ → ℕ) → ℕ → ℕ
one_more client numbers other = if other == client then numbers other + 1 else numbers other

-- lines with their numbers, where so many of each client went before
abbrev pub numbered_after : (ℕ → ℕ) → List (ℕ × Line) → List Asked
numbered_after before [] = []
numbered_after before (line ∷ lines) =
    record { client = line.0; number = before line.0 + 1; line = line.1 } ∷ numbered_after (one_more line.0 before) lines

-- the lines of a script with their numbers
abbrev pub numbered : List (ℕ × Line) → List Asked
numbered lines = numbered_after (λ client. 0) lines

-- The event of a client's line after so many entries: the client goes on by one line, which makes this change and is
-- answered so at once.
pub record IsEventOf (asked : Asked) (entries : ℕ) (made : Option Change) (told : Answer) (event : Event) : Type 0 where
  pub served : is_served asked.line ≡ true
  pub node : event.node ≡ asked.client
  pub step : event.step ≡ Op asked.client
  pub taken : event.taken ≡ None
  pub sent : event.sent ≡ []
  pub effects : event.effects ≡ effects_of asked.client entries made
  pub replies : event.replies ≡ record {
    client = asked.client;
    line = asked.number;
    changed = is_some made;
    entry = entries;
    answer = told;
  } ∷ []

-- The event of a line in a history, after so many entries. What is live is the plain state after them; a snapshot has one
-- tree, that of its cut in the whole history.
abbrev pub IsServed : List Event → ℕ → Asked → Event → Type 0
IsServed history entries asked event = IsEventOf asked entries
    (change_made (at_entry history entries) (journal_at history entries) asked.client asked.line)
    (line_answer (at_entry history entries) (tree history) (journal_at history entries) asked.client asked.line)
    event

-- these events of a history serve these lines, one after another, from so many entries on
abbrev pub Serves : List Event → ℕ → List Asked → List Event → Type 0
Serves history entries [] [] = Unit {0}
Serves history entries (asked ∷ lines) (event ∷ events) =
    IsServed history entries asked event × Serves history (entries + length event.effects) lines events
Serves history entries [] (event ∷ events) = ⊥
Serves history entries (asked ∷ lines) [] = ⊥

-- the history serves the script's lines in their order, each with the plain tree's answer
abbrev pub Legal : List Event → List (ℕ × Line) → Type 0
Legal history lines = Serves history 0 (numbered lines) history

-- the reply to `ls` of a `.snap` has the names that are shown then, and that to `ls` under it is the answer in the one tree
-- of that snapshot
abbrev pub IsSnapReply : List Event → Place → Replied → Type 0
IsSnapReply history (Live path) reply = Unit {0}
IsSnapReply history (Snaps dir) reply =
    reply.answer ≡ listed (at_entry history reply.entry) (tree history) (journal_at history reply.entry) (Snaps dir)
IsSnapReply history (InSnap dir name below) reply =
    reply.answer ≡ listed (at_entry history reply.entry) (tree history) (journal_at history reply.entry) (InSnap dir name below)

abbrev pub IsFromSnap : List Event → Line → Replied → Type 0
IsFromSnap history (line.List path) reply = IsSnapReply history (place_of path) reply
IsFromSnap history line reply = Unit {0}

-- the line lists a `.snap`, or what stands under one
abbrev pub lists_snap : Line → Bool
lists_snap (line.List path) = if is_live_place (place_of path) then false else true
lists_snap line = false

-- the reply to any other line is the plain answer, whatever trees the snapshots have
abbrev pub IsFromLive : List Event → Line → Replied → Type 0
IsFromLive history line reply = lists_snap line ≡ false → (trees : SnapId → State)
    → reply.answer ≡ line_answer (at_entry history reply.entry) trees (journal_at history reply.entry) reply.client line

-- the reply answers this line of this client
abbrev pub is_reply_to : Asked → Replied → Bool
is_reply_to asked reply = reply.client == asked.client && reply.line == asked.number

-- the line has one reply among these, and that is as P says
pub record HasReply (P : Line → Replied → Type 0) (replies : List Replied) (asked : Asked) : Type 0 where
  pub reply : Replied
  pub one : filter (is_reply_to asked) replies ≡ reply ∷ []
  pub right : P asked.line reply

-- each line of each client has one reply, which is as P says, and there are no others
abbrev pub EachReply : (Line → Replied → Type 0) → List (ℕ × Line) → List Replied → Type 0
EachReply P lines replies = AllByRecursion (HasReply P replies) (numbered lines) × (length replies ≡ length lines)

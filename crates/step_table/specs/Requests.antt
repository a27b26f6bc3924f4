-- How the server treats a request.
use Rattle.std.specs.Prelude.{ℕ, zero, suc, Bool, true, false, not, ◌||◌, ◌&&◌, ◌==◌, nat_le, List, [], ◌∷◌, ◌++◌, if◌then◌else◌, Option, None, Some, is_some, Result, Ok, Err}
use Rattle.std.specs.List.{list_any}
use Rattle.snap_ids.specs.declared.id.SnapId.{SnapId}
use Rattle.snap_ids.specs.declared.values.Kind.{Kind}
use Rattle.snap_ids.specs.declared.values.Kind.TheVariants.{Dir, File}
use Rattle.plain_types.specs.declared.answer.Answer.{Answer}
use Rattle.plain_types.specs.declared.answer.Answer.TheVariants.{Done, Refused, Pending}
use Rattle.plain_types.specs.declared.answer.Refusal.{Refusal}
use Rattle.plain_types.specs.declared.change.Change.{Change}
use Rattle.plain_types.specs.declared.change.Change.TheVariants as change
use Rattle.plain_types.specs.declared.entry.What.{What}
use Rattle.plain_types.specs.declared.entry.What.TheVariants.{PrepareCreate, PrepareDestroy}
use Rattle.plain_types.specs.declared.request.Query.TheVariants as query
use Rattle.plain_types.specs.declared.request.Request.{Request}
use Rattle.plain_types.specs.declared.request.Request.TheVariants as request
use Rattle.plain_tree.specs.State.{kind_in}
use Rattle.plain_tree.specs.Line.{answer_to as answer_of}
use Rattle.plain_tree.specs.Query.{Found, InLive, SnapsOf, InTree}
use Rattle.plain_tree.specs.Request.{change_asked}
use Rattle.plain_journal.specs.Answers.{found, answer_to}
use Rattle.plain_journal.specs.Entries.{state_after, tree_at}
use Rattle.plain_journal.specs.Table.{next_snap, outstanding, last_effect, barrier}
use Rattle.held_files.specs.Files.{is_empty}
use Rattle.step_table.specs.ServerState.{Asked, Server, all_connected}
use Rattle.step_table.specs.Acts.{Act, AnswerIt, GrantIt, MakeEffect, Prepare, Wait, Defer, TakeHeld, LetGo, Raise, act, acts, each}
use Rattle.step_table.specs.Capabilities.{ask_cap, ask_found, owing}

-- one thing for a directory, another for a file
abbrev pub by_kind : Kind → List Act → List Act → List Act
by_kind Dir directory file = directory
by_kind File directory file = file

-- the answer about a file in a snapshot: pending while its flush is owed
abbrev pub settled_answer : Answer → Option ℕ → Answer
settled_answer answer None = answer
settled_answer answer (Some client) = Pending client

-- `cat` and `stat` of what was found, where the journal alone gives this answer: a live file wants a capability, and one in
-- a snapshot its flush
abbrev pub look_at : Server → Asked → Answer → Result Found Refusal → List Act
look_at s a answer (Ok (InLive ino)) =
    by_kind (kind_in (state_after s.entries).inodes ino) (AnswerIt answer ∷ []) (ask_found s a.client ino)
look_at s a answer (Ok (InTree id ino)) =
    by_kind (kind_in (tree_at s.entries id).inodes ino) (AnswerIt answer ∷ []) (AnswerIt (settled_answer answer (owing s ino id)) ∷ [])
look_at s a answer (Ok (SnapsOf dir)) = AnswerIt answer ∷ []
look_at s a answer (Err refusal) = AnswerIt answer ∷ []

-- a barrier that was passed is answered; another is held until all clients are at it
abbrev pub at_barrier : Server → ℕ → List Act
at_barrier s number = if nat_le number (barrier s.entries) then AnswerIt Done ∷ [] else Wait ∷ []

-- an operation is outstanding, or others are deferred and count
abbrev pub is_busy : Bool → Server → Bool
is_busy alone s = is_some (outstanding s.entries) || (not alone && not (is_empty s.deferred))

-- an operation on the snapshot table is prepared, or deferred
abbrev pub prepare : Bool → Server → What → List Act
prepare alone s said = if is_busy alone s then Defer ∷ [] else Prepare said ∷ []

-- a change that succeeds
abbrev pub make : Bool → Server → Change → List Act
make alone s (change.Mksnap id dir name) = prepare alone s (PrepareCreate id)
make alone s (change.Rmsnap id) = prepare alone s (PrepareDestroy id)
make alone s made = MakeEffect made ∷ AnswerIt (answer_of made) ∷ []

-- what a request for a change comes to
abbrev pub decided : Bool → Server → Option (Result Change Refusal) → List Act
decided alone s None = []
decided alone s (Some (Err refusal)) = AnswerIt (Refused refusal) ∷ []
decided alone s (Some (Ok made)) = make alone s made

-- the id that a snapshot gets which is prepared now
abbrev pub next_id : Server → SnapId
next_id s = record { 0 = next_snap s.entries }

-- a request that had no effect yet
abbrev pub treat_new : Bool → Server → Asked → Request → List Act
treat_new alone s a (request.Cap ino mode) = ask_cap s a.client ino mode (GrantIt ino mode)
treat_new alone s a (request.Cat path) = look_at s a (answer_to s.entries (query.Cat path)) (found s.entries path)
treat_new alone s a (request.Stat path) = look_at s a (answer_to s.entries (query.Stat path)) (found s.entries path)
treat_new alone s a (request.List path) = AnswerIt (answer_to s.entries (query.List path)) ∷ []
treat_new alone s a (request.Realm path) = AnswerIt (answer_to s.entries (query.Realm path)) ∷ []
treat_new alone s a (request.Clones path index) = AnswerIt (answer_to s.entries (query.Clones path index)) ∷ []
treat_new alone s a (request.Barrier number) = at_barrier s number
treat_new alone s a asked = decided alone s (change_asked (state_after s.entries) a.client (next_id s) asked)

-- the request is that of the outstanding operation
abbrev pub is_operation : Server → Asked → Bool
is_operation s a = elim s.operation [ None ↦ false | Some o ↦ o.client == a.client && o.tid == a.tid ]

abbrev pub kept_for : ℕ → Option (ℕ × Answer) → Option Answer
kept_for tid None = None
kept_for tid (Some kept) = if kept.0 == tid then Some kept.1 else None

-- the answer that was given to the request, where it had its effect
abbrev pub kept_answer : Server → Asked → Option Answer
kept_answer s a = kept_for a.tid (last_effect s.entries a.client)

-- a request whose effect is known is answered again, and that of the outstanding operation does nothing
abbrev pub treat_known : Bool → Server → Asked → Option Answer → List Act
treat_known alone s a (Some answer) = AnswerIt answer ∷ []
treat_known alone s a None = if is_operation s a then [] else treat_new alone s a a.request

-- The request in hand is treated; `alone`: as if no other were deferred. While a client isn't connected since the restart
-- it is held.
abbrev pub treat : Bool → Server → Asked → List Act
treat alone s a = if all_connected s then treat_known alone s a (kept_answer s a) else Wait ∷ []

-- held requests are decided anew after such an act: a holder has gone, or Read was raised to Write
abbrev pub opens : Act → Bool
opens (LetGo client ino) = true
opens (Raise client ino settled) = true
opens a = false

-- the held requests are decided anew, in order of arrival
abbrev pub decide_anew : Server → List Act
decide_anew s = each (λ t (a : Asked). TakeHeld a.client ∷ treat false (act t (TakeHeld a.client)) a) s s.held

-- Acts, and after them passes over the held requests until one opens nothing, at most so many. A pass that opens grants
-- at least one request, so there are at most as many as held requests and one more.
abbrev pub then_held : ℕ → Server → List Act → List Act
then_held zero s done = done
then_held (suc more) s done = elim (list_any opens done) [
  | false ↦ done
  | true ↦ let now = acts s done in done ++ then_held more now (decide_anew now)
]

-- The small changes of the server's state. A rule is a list of them.
use Rattle.std.specs.Prelude.{ℕ, max, Bool, not, ◌||◌, ◌&&◌, ◌==◌, nat_le, List, [], ◌∷◌, ◌++◌, map, filter, drop, bytes_eq, if◌then◌else◌, Option, None, Some}
use Rattle.snap_ids.specs.declared.id.Ino.{Ino}
use Rattle.snap_ids.specs.declared.id.SnapId.{SnapId}
use Rattle.snap_ids.specs.declared.values.Mode.{Mode}
use Rattle.snap_ids.specs.declared.values.Mode.TheVariants.{Write}
use Rattle.snap_ids.specs.Context.{Context}
use Rattle.plain_types.specs.declared.answer.Answer.{Answer}
use Rattle.plain_types.specs.declared.change.Change.{Change}
use Rattle.plain_types.specs.declared.change.Change.TheVariants as change
use Rattle.plain_types.specs.declared.entry.Entry.{Entry}
use Rattle.plain_types.specs.declared.entry.What.{What}
use Rattle.plain_types.specs.declared.entry.What.TheVariants as what
use Rattle.plain_types.specs.declared.history.Sent.{Sent}
use Rattle.plain_types.specs.declared.message.ToStore.TheVariants.{Purge, Delete}
use Rattle.plain_journal.specs.Coverage.{context}
use Rattle.step_table.specs.Row.{Row, sends}
use Rattle.step_table.specs.ServerState.{Asked, Holder, Server, Answered, Granted, WantedBack, Changed, Acked, up_to, is_holder, is_writer, written_by, tell, tell_restart, send_store}

-- One small change. Those on a request are on the one in hand.
pub data Act : Type 0 where
  TellRecall : ℕ → Ino → Act
  TellAck : ℕ → ℕ → Act
  TellRestart : ℕ → Act
  AnswerIt : Answer → Act
  GrantIt : Ino → Mode → Act
  MakeEffect : Change → Act
  Prepare : What → Act
  Wait : Act
  Defer : Act
  DeferFirst : Act
  TakeHeld : ℕ → Act
  TakeDeferred : Act
  TakeOperation : Act
  Buffer : Entry → Act
  SendPurge : SnapId → Act
  SendDelete : Ino → Act
  Hold : Holder → Act
  Raise : ℕ → Ino → SnapId → Act
  MarkRecalled : ℕ → Ino → Act
  Settled : ℕ → Ino → SnapId → Act
  LetGo : ℕ → Ino → Act
  LetAllGo : ℕ → Act

-- ids are the same
abbrev pub same_ids : List SnapId → List SnapId → Bool
same_ids a b = bytes_eq (map (λ (s : SnapId). s.0) a) (map (λ (s : SnapId). s.0) b)

abbrev pub same_context : Context → Context → Bool
same_context a b = a.seq.0 == b.seq.0 && same_ids a.ids b.ids

-- the files that a client holds for Write and whose context is another than it was after the entries `before`
abbrev pub changed_files : List Entry → Server → ℕ → List Ino
changed_files before s client = filter (λ ino. not (same_context (context before ino) (context s.entries ino))) (written_by s client)

abbrev pub tell_changed : Server → ℕ → List Ino → Server
tell_changed s client [] = s
tell_changed s client (ino ∷ inos) = tell s client (Changed (ino ∷ inos))

-- each of the clients is told of them
abbrev pub notices : List Entry → Server → List ℕ → Server
notices before s [] = s
notices before s (client ∷ clients) = notices before (tell_changed s client (changed_files before s client)) clients

-- an entry is buffered, and the writers whose contexts it changes are told
abbrev pub buffer : Server → Entry → Server
buffer s entry = notices s.entries (record s { entries = s.entries ++ entry ∷ [] }) (up_to s.clients)

-- the entry that says a change of the tree; a change of bytes has none
abbrev pub written_down : Change → Option What
written_down (change.Mkdir dir name ino) = Some (what.Mkdir dir name ino)
written_down (change.Create dir name ino mode) = Some (what.Create dir name ino mode)
written_down (change.Link ino dir name) = Some (what.Link ino dir name)
written_down (change.Unlink dir name) = Some (what.Unlink dir name)
written_down (change.Rmdir dir name) = Some (what.Rmdir dir name)
written_down (change.Rename dir name to_dir to_name) = Some (what.Rename dir name to_dir to_name)
written_down (change.Chmod ino mode) = Some (what.Chmod ino mode)
written_down (change.OpenFile handle ino writable) = Some (what.OpenFile handle ino writable)
written_down (change.CloseFile handle) = Some (what.CloseFile handle)
written_down (change.Mksnap id dir name) = Some (what.Mksnap id dir name)
written_down (change.Rmsnap id) = Some (what.Rmsnap id)
written_down (change.WriteFile handle offset bytes) = None
written_down (change.Truncate handle size) = None

-- an entry that a request makes has the request's client and number
abbrev pub entry_for : Asked → What → Entry
entry_for a said = record { client = a.client; number = a.tid; what = said }

-- an entry that the server makes by itself
abbrev pub own_entry : What → Entry
own_entry said = record { client = 0; number = 0; what = said }

abbrev pub of_client : ℕ → Asked → Bool
of_client client a = a.client == client

abbrev pub first_of : List Asked → Option Asked
first_of [] = None
first_of (a ∷ more) = Some a

abbrev pub as_list : Option Asked → List Asked
as_list None = []
as_list (Some a) = a ∷ []

-- the request in hand is answered, or granted, and is done with
abbrev pub answer_hand : Server → Answer → Option Asked → Server
answer_hand s answer None = s
answer_hand s answer (Some a) = tell (record s { hand = None }) a.client (Answered a.tid answer)

abbrev pub grant_hand : Server → Ino → Mode → Option Asked → Server
grant_hand s ino mode None = s
grant_hand s ino mode (Some a) = tell (record s { hand = None }) a.client (Granted a.tid ino mode)

-- the request in hand has its effect
abbrev pub buffer_for : Server → Asked → Option What → Server
buffer_for s a None = s
buffer_for s a (Some said) = buffer s (entry_for a said)

abbrev pub effect_hand : Server → Change → Option Asked → Server
effect_hand s change None = s
effect_hand s change (Some a) = buffer_for s a (written_down change)

-- the request in hand becomes the outstanding operation
abbrev pub prepare_hand : Server → What → Option Asked → Server
prepare_hand s said None = s
prepare_hand s said (Some a) = buffer (record s { operation = Some a; hand = None }) (entry_for a said)

-- a holder after a raise from Read to Write, after a recall, and after a flush, where it is this one
abbrev pub raised : ℕ → Ino → SnapId → Holder → Holder
raised client ino settled h =
    let is = is_holder client ino h in
    record h { mode = if is then Write else h.mode; settled = if is then settled else h.settled; recalled = not is && h.recalled }

abbrev pub recalled : ℕ → Ino → Holder → Holder
recalled client ino h = record h { recalled = h.recalled || is_holder client ino h }

abbrev pub settled : ℕ → Ino → SnapId → Holder → Holder
settled client ino upto h = record h { settled = if is_writer client ino h then record { 0 = max upto.0 h.settled.0 } else h.settled }

abbrev pub act : Server → Act → Server
act s (TellRecall client ino) = tell s client (WantedBack ino)
act s (TellAck client number) = tell s client (Acked number)
act s (TellRestart client) = tell_restart s client
act s (AnswerIt answer) = answer_hand s answer s.hand
act s (GrantIt ino mode) = grant_hand s ino mode s.hand
act s (MakeEffect change) = effect_hand s change s.hand
act s (Prepare said) = prepare_hand s said s.hand
act s Wait = record s { held = s.held ++ as_list s.hand; hand = None }
act s Defer = record s { deferred = s.deferred ++ as_list s.hand; hand = None }
act s DeferFirst = record s { deferred = as_list s.hand ++ s.deferred; hand = None }
act s (TakeHeld client) =
    record s { hand = first_of (filter (of_client client) s.held); held = filter (λ a. not (of_client client a)) s.held }
act s TakeDeferred = record s { hand = first_of s.deferred; deferred = drop 1 s.deferred }
act s TakeOperation = record s { hand = s.operation; operation = None }
act s (Buffer entry) = buffer s entry
act s (SendPurge id) = send_store (record s { purging = s.purging ++ id ∷ [] }) (Purge id)
act s (SendDelete ino) = send_store (record s { deleting = s.deleting ++ ino ∷ [] }) (Delete ino (context s.entries ino))
act s (Hold h) = record s { holders = s.holders ++ h ∷ [] }
act s (Raise client ino upto) = record s { holders = map (raised client ino upto) s.holders }
act s (MarkRecalled client ino) = record s { holders = map (recalled client ino) s.holders }
act s (Settled client ino upto) = record s { holders = map (settled client ino upto) s.holders }
act s (LetGo client ino) = record s { holders = filter (λ h. not (is_holder client ino h)) s.holders }
act s (LetAllGo client) = record s { holders = filter (λ h. not (h.client == client)) s.holders }

abbrev pub acts : Server → List Act → Server
acts s [] = s
acts s (a ∷ more) = acts (act s a) more

-- acts, and then those that the state after them asks for
abbrev pub and_then : Server → List Act → (Server → List Act) → List Act
and_then s first next = first ++ next (acts s first)

-- the acts for each of a list, in the state that those before it left
abbrev pub each : {X : Type 0} → (Server → X → List Act) → Server → List X → List Act
each rule s [] = []
each rule s (x ∷ xs) = let now = rule s x in now ++ each rule (acts s now) xs

-- what was made when all entries were durable is sent, up to the first that must wait
abbrev pub goes : ℕ → List (ℕ × Sent) → List Sent
goes durable [] = []
goes durable (m ∷ mail) = if nat_le m.0 durable then m.1 ∷ goes durable mail else []

abbrev pub waits : ℕ → List (ℕ × Sent) → List (ℕ × Sent)
waits durable [] = []
waits durable (m ∷ mail) = if nat_le m.0 durable then waits durable mail else m ∷ mail

-- the end of each step: what needn't wait is sent, and nothing is in hand
abbrev pub hand_out : Server → Row Server
hand_out s = sends (record s { mail = waits s.durable s.mail; hand = None }) (goes s.durable s.mail)

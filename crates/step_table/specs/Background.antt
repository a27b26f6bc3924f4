-- The server's background turn: the first of its five rules that applies.
use Rattle.std.specs.Prelude.{ℕ, Bool, true, false, not, ◌&&◌, ◌==◌, nat_lt, nat_le, List, [], ◌∷◌, take, filter, filter_map, flat_map, if◌then◌else◌, Option, None, Some, is_none, Result, Ok, Err}
use Rattle.std.specs.List.{list_any, list_all}
use Rattle.snap_ids.specs.declared.id.Ino.{Ino}
use Rattle.snap_ids.specs.declared.id.SnapId.{SnapId}
use Rattle.snap_ids.specs.Context.{is_listed}
use Rattle.plain_types.specs.declared.answer.Answer.TheVariants.{Done, Refused}
use Rattle.plain_types.specs.declared.answer.Refusal.{Refusal}
use Rattle.plain_types.specs.declared.change.Change.{Change}
use Rattle.plain_types.specs.declared.change.Change.TheVariants.{Rmsnap}
use Rattle.plain_types.specs.declared.entry.Entry.{Entry}
use Rattle.plain_types.specs.declared.entry.What.TheVariants.{Rollback, Trim, Barrier}
use Rattle.plain_types.specs.declared.request.Request.{Request}
use Rattle.plain_types.specs.declared.request.Request.TheVariants as request
use Rattle.plain_tree.specs.State.{same_ino}
use Rattle.plain_tree.specs.Line.{answer_to as answer_of}
use Rattle.plain_tree.specs.Request.{change_asked}
use Rattle.plain_journal.specs.Entries.{state_after}
use Rattle.plain_journal.specs.Table.{outstanding, to_purge, removed_by, dead}
use Rattle.held_files.specs.Files.{is_empty}
use Rattle.step_table.specs.ServerState.{Asked, Server, up_to, all_connected, is_holder}
use Rattle.step_table.specs.Acts.{Act, AnswerIt, MakeEffect, DeferFirst, TakeHeld, TakeDeferred, TakeOperation, Buffer, SendPurge, SendDelete, own_entry, of_client, and_then}
use Rattle.step_table.specs.Capabilities.{is_recalled, recalls, is_settled}
use Rattle.step_table.specs.Requests.{treat}

abbrev pub roll_back : SnapId → Act
roll_back id = Buffer (own_entry (Rollback id))

-- a prepared operation whose change succeeds is made; a removal that now names another snapshot is rolled back, and
-- deferred as the first
abbrev pub finish_with : SnapId → Change → List Act
finish_with id (Rmsnap now) =
    if now.0 == id.0 then MakeEffect (Rmsnap now) ∷ AnswerIt Done ∷ [] else roll_back id ∷ DeferFirst ∷ []
finish_with id made = MakeEffect made ∷ AnswerIt (answer_of made) ∷ []

-- its request is decided anew; where it is refused now, it is rolled back
abbrev pub finish : SnapId → Option (Result Change Refusal) → List Act
finish id None = []
finish id (Some (Err refusal)) = roll_back id ∷ AnswerIt (Refused refusal) ∷ []
finish id (Some (Ok made)) = finish_with id made

-- the least of some ids
abbrev pub least_of : SnapId → Option SnapId → Option SnapId
least_of s None = Some s
least_of s (Some t) = Some (if nat_lt s.0 t.0 then s else t)

abbrev pub least : List SnapId → Option SnapId
least [] = None
least (s ∷ ids) = least_of s (least ids)

-- the ids that these entries remove
abbrev pub removed : List Entry → List SnapId
removed entries = filter_map (λ (entry : Entry). removed_by entry.what) entries

-- the ids to be purged whose removal is durable, and whose purge wasn't sent since the restart
abbrev pub unsent_purges : Server → List SnapId
unsent_purges s =
    filter (λ id. is_listed id (removed (take s.durable s.entries)) && not (is_listed id s.purging)) (to_purge s.entries)

-- the clients that hold a file, rising
abbrev pub holders_of : Server → Ino → List ℕ
holders_of s ino = filter (λ c. list_any (is_holder c ino) s.holders) (up_to s.clients)

-- a dead file has a holder that isn't recalled, or no holder and its deletion wasn't sent since the restart
abbrev pub is_due : Server → Ino → Bool
is_due s ino =
    if is_empty (holders_of s ino) then not (list_any (same_ino ino) s.deleting)
    else list_any (λ c. not (is_recalled s ino c)) (holders_of s ino)

-- the first of some files; dead files are given by rising inode
abbrev pub first_file : List Ino → Option Ino
first_file [] = None
first_file (ino ∷ inos) = Some ino

abbrev pub barrier_of : Request → Option ℕ
barrier_of (request.Barrier number) = Some number
barrier_of asked = None

abbrev pub is_number : ℕ → Option ℕ → Bool
is_number number None = false
is_number number (Some other) = other == number

-- a client waits at this barrier
abbrev pub waits_at : Server → ℕ → ℕ → Bool
waits_at s number client = list_any (λ (a : Asked). of_client client a && is_number number (barrier_of a.request)) s.held

-- the barrier of the first held request
abbrev pub first_barrier : List Asked → Option ℕ
first_barrier [] = None
first_barrier (a ∷ more) = barrier_of a.request

-- nothing is unfinished: no operation, no purge, no dead file, no flush
abbrev pub is_finished : Server → Bool
is_finished s =
    is_none (outstanding s.entries) && is_empty s.deferred && is_empty (to_purge s.entries) && is_empty (dead s.entries)
    && list_all (is_settled s) s.holders

-- a client's barrier is answered
abbrev pub open_to : ℕ → List Act
open_to client = TakeHeld client ∷ AnswerIt Done ∷ []

-- The last rule: all clients wait at one barrier, and nothing is unfinished. They are answered.
abbrev pub turn_barrier : Server → Option ℕ → Option (List Act)
turn_barrier s None = None
turn_barrier s (Some number) =
    if list_all (waits_at s number) (up_to s.clients) && is_finished s
    then Some (Buffer (own_entry (Barrier number)) ∷ flat_map open_to (up_to s.clients))
    else None

-- The fourth: the least dead file that is due. Its holders are recalled, or it is deleted.
abbrev pub turn_dead : Server → Option Ino → Option (List Act)
turn_dead s None = turn_barrier s (first_barrier s.held)
turn_dead s (Some ino) = Some (if is_empty (holders_of s ino) then SendDelete ino ∷ [] else recalls s ino (holders_of s ino))

-- The third: the least id to be purged. What the server keeps for it is trimmed, and the store is told.
abbrev pub turn_purge : Server → Option SnapId → Option (List Act)
turn_purge s None = turn_dead s (first_file (filter (is_due s) (dead s.entries)))
turn_purge s (Some id) = Some (Buffer (own_entry (Trim id)) ∷ SendPurge id ∷ [])

-- The second, where no operation is outstanding: the first deferred request is treated, as if no other were deferred.
abbrev pub turn_deferred : Server → List Asked → Option (List Act)
turn_deferred s [] = turn_purge s (least (unsent_purges s))
turn_deferred s (a ∷ more) = Some (and_then s (TakeDeferred ∷ []) (λ t. treat true t a))

-- The first: the outstanding operation, if its entry is durable.
abbrev pub turn_operation : Server → SnapId → Option Asked → Option (List Act)
turn_operation s id None = None
turn_operation s id (Some a) = Some (TakeOperation ∷ finish id (change_asked (state_after s.entries) a.client id a.request))

abbrev pub turn_at : Server → Option (SnapId × ℕ) → Option (List Act)
turn_at s None = turn_deferred s s.deferred
turn_at s (Some o) = if nat_le o.1 s.durable then turn_operation s o.0 s.operation else turn_purge s (least (unsent_purges s))

-- what the background turn does, where it has something to do and every client is connected
abbrev pub turn : Server → Option (List Act)
turn s = if all_connected s then turn_at s (outstanding s.entries) else None

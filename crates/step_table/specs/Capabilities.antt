-- Who may hold a file: many clients for Read, or one for Write.
use Rattle.std.specs.Prelude.{◌≡◌, ℕ, Bool, true, false, not, ◌||◌, ◌&&◌, ◌==◌, nat_lt, List, [], ◌∷◌, ◌++◌, filter, find, flat_map, if◌then◌else◌, Option, None, Some}
use Rattle.std.specs.List.{list_any}
use Rattle.snap_ids.specs.declared.id.Ino.{Ino}
use Rattle.snap_ids.specs.declared.id.SnapId.{SnapId}
use Rattle.snap_ids.specs.declared.id.TheConstants.{NOSNAP}
use Rattle.snap_ids.specs.declared.values.Mode.{Mode}
use Rattle.snap_ids.specs.declared.values.Mode.TheVariants.{Read}
use Rattle.plain_types.specs.declared.answer.Answer.{Answer}
use Rattle.plain_types.specs.declared.answer.Answer.TheVariants.{FoundLive}
use Rattle.plain_tree.specs.State.{same_ino, inode_in}
use Rattle.plain_journal.specs.Coverage.{context, covering}
use Rattle.plain_journal.specs.Entries.{state_after, applied}
use Rattle.plain_journal.specs.Settled.{settled_size}
use Rattle.held_files.specs.Files.{is_write}
use Rattle.snap_ids.specs.Context.{is_listed}
use Rattle.step_table.specs.ServerState.{Holder, Server, up_to, is_holder, is_writer}
use Rattle.step_table.specs.Acts.{Act, TellRecall, MarkRecalled, Hold, Raise, AnswerIt, Wait}

-- Another client holds the file in conflict with a mode: asking for Write conflicts with every other holder, and asking
-- for Read with another's Write.
abbrev pub is_against : ℕ → Ino → Mode → Holder → Bool
is_against client ino mode h = not (h.client == client) && same_ino h.ino ino && (is_write mode || is_write h.mode)

abbrev pub in_conflict : Server → ℕ → Ino → Mode → Bool
in_conflict s client ino mode = list_any (is_against client ino mode) s.holders

-- the clients that do, rising
abbrev pub against : Server → ℕ → Ino → Mode → List ℕ
against s client ino mode =
    filter (λ c. list_any (λ h. h.client == c && is_against client ino mode h) s.holders) (up_to s.clients)

-- two holders of one file, of which one has Write, or that are one client
abbrev pub clash : Holder → Holder → Bool
clash g h = same_ino g.ino h.ino && (is_write g.mode || is_write h.mode || g.client == h.client)

-- no two holders clash: a file has one holder for Write, and then no other
abbrev pub OneWriter : List Holder → Type 0
OneWriter [] = Unit {0}
OneWriter (h ∷ holders) = (list_any (clash h) holders ≡ false) × OneWriter holders

abbrev pub is_recalled : Server → Ino → ℕ → Bool
is_recalled s ino client = list_any (λ h. is_holder client ino h && h.recalled) s.holders

-- a client is asked to give a file back, once in its tenure
abbrev pub recall : Server → Ino → ℕ → List Act
recall s ino client = if is_recalled s ino client then [] else MarkRecalled client ino ∷ TellRecall client ino ∷ []

abbrev pub recalls : Server → Ino → List ℕ → List Act
recalls s ino clients = flat_map (recall s ino) clients

-- a client's new tenure; it owes nothing up to the last snapshot
abbrev pub tenure : Server → ℕ → Ino → Mode → Holder
tenure s client ino mode =
    record { client = client; ino = ino; mode = mode; settled = record { 0 = applied s.entries }; recalled = false }

-- a file is held newly, or its holder's Read is raised to Write; who holds it in this mode goes on holding it
abbrev pub give_to : Server → ℕ → Ino → Mode → Option Holder → List Act
give_to s client ino mode None = Hold (tenure s client ino mode) ∷ []
give_to s client ino mode (Some h) =
    if is_write mode && not (is_write h.mode) then Raise client ino (record { 0 = applied s.entries }) ∷ [] else []

abbrev pub give : Server → ℕ → Ino → Mode → List Act
give s client ino mode = give_to s client ino mode (find (is_holder client ino) s.holders)

-- with no conflict the request is granted by this act, else the holders are recalled and it is held
abbrev pub ask_cap : Server → ℕ → Ino → Mode → Act → List Act
ask_cap s client ino mode granted =
    if in_conflict s client ino mode then recalls s ino (against s client ino mode) ++ Wait ∷ []
    else give s client ino mode ++ granted ∷ []

-- a live file is found, for a client that holds it for Write or for one that doesn't
abbrev pub found_live : Server → Ino → Bool → Answer
found_live s ino write_held =
    FoundLive ino (inode_in (state_after s.entries).inodes ino).mode (settled_size s.entries ino NOSNAP) write_held

-- a live `cat` or `stat` of a file asks for Read, unless the asker holds it for Write itself
abbrev pub ask_found : Server → ℕ → Ino → List Act
ask_found s client ino =
    if list_any (is_writer client ino) s.holders then AnswerIt (found_live s ino true) ∷ []
    else ask_cap s client ino Read (AnswerIt (found_live s ino false))

-- A holder for Write owes a file's flush for a snapshot that covers the file and is above what it settled. Ceph's clients
-- flush lazily too.
abbrev pub owes : Server → Ino → SnapId → Holder → Bool
owes s ino id h = same_ino h.ino ino && is_write h.mode && nat_lt h.settled.0 id.0 && is_listed id (covering s.entries ino)

-- the client that does
abbrev pub owing : Server → Ino → SnapId → Option ℕ
owing s ino id = elim (find (owes s ino id) s.holders) [ None ↦ None | Some h ↦ Some h.client ]

-- a holder owes no flush of its file at all
abbrev pub is_settled : Server → Holder → Bool
is_settled s h = not (is_write h.mode && nat_lt h.settled.0 (context s.entries h.ino).seq.0)

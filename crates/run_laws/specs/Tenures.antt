-- Which files are held: by what the clients count, by what is on its way to them, and by the server's table.
use Rattle.std.specs.Prelude.{◌+◌, ◌≡◌, ◌<◌, ◌≤◌, ℕ, Bool, false, true, ◌&&◌, ◌==◌, List, [], ◌∷◌, ◌++◌, take, Option, None, Some, IfSome, is_some, ◌⊎◌}
use Rattle.std.specs.List.{list_any}
use Rattle.snap_ids.specs.declared.id.Ino.{Ino}
use Rattle.snap_ids.specs.declared.values.Mode.{Mode}
use Rattle.snap_ids.specs.declared.values.Mode.TheVariants.{Read, Write}
use Rattle.plain_types.specs.declared.answer.Answer.{Answer}
use Rattle.plain_types.specs.declared.answer.Answer.TheVariants.{FoundLive}
use Rattle.plain_types.specs.declared.entry.Entry.{Entry}
use Rattle.plain_types.specs.declared.message.FlushMsg.{FlushMsg}
use Rattle.plain_types.specs.declared.message.ToClient.{ToClient}
use Rattle.plain_types.specs.declared.message.ToClient.TheVariants.{Reply, Grant}
use Rattle.plain_types.specs.declared.request.Request.{Request}
use Rattle.plain_types.specs.declared.request.Request.TheVariants.{Cap, Cat, Stat, Barrier}
use Rattle.plain_types.specs.declared.message.ToServer.{ToServer}
use Rattle.plain_types.specs.declared.message.ToServer.TheVariants.{Flush}
use Rattle.plain_journal.specs.Entries.{state_after}
use Rattle.plain_journal.specs.Legal.{is_made_file}
use Rattle.plain_journal.specs.Table.{barrier, last_flush}
use Rattle.held_files.specs.Files.{HeldFile, HeldFiles, is_ino, is_held, is_writer, is_write}
use Rattle.step_table.specs.ServerState.{Asked, Holder, Server, number_of, is_holder, is_writer as writes_at, all_connected}
use Rattle.step_table.specs.Acts.{of_client, as_list}
use Rattle.step_table.specs.ClientState.{Under, Open}
use Rattle.run_laws.specs.Links.{View, mail_of}
use Rattle.run_laws.specs.Requests.{count, asks}

-- the entries made this file
abbrev pub IsMade : List Entry → Ino → Type 0
IsMade entries ino = is_made_file (state_after entries) ino ≡ true

-- Each file that a client holds is one that the durable entries made.
abbrev pub HeldIsMade : View
HeldIsMade n c up down s = (ino : Ino) → is_held ino c.files ≡ true → IsMade (take s.durable s.entries) ino

-- of a file that is held for Read nothing waits, and nothing that was sent is unacknowledged
abbrev pub ReaderIsClean : HeldFile → Type 0
ReaderIsClean file = is_write file.mode ≡ false → (file.unacked ≡ []) × (file.unsent ≡ [])

abbrev pub AllClean : HeldFiles → Type 0
AllClean [] = Unit {0}
AllClean (f ∷ files) = ReaderIsClean f.1 × AllClean files

-- A client keeps nothing back of a file that it holds for Read.
abbrev pub ReadersKeepNothing : View
ReadersKeepNothing n c up down s = AllClean c.files

-- a list in which no file stands twice
abbrev pub Distinct : HeldFiles → Type 0
Distinct [] = Unit {0}
Distinct (f ∷ files) = (is_held f.0 files ≡ false) × Distinct files

-- A client holds a file once.
abbrev pub HeldOnce : View
HeldOnce n c up down s = Distinct c.files

-- the file that a message gives: the one that is granted, or a live one that was found
abbrev pub found_file : Answer → Option Ino
found_file (FoundLive ino perm size write_held) = Some ino
found_file said = None

abbrev pub given_file : ToClient → Option Ino
given_file (Grant conn tid stamp ino mode size file) = Some ino
given_file (Reply conn tid stamp said) = found_file said
given_file m = None

abbrev pub AllGivenMade : List Entry → List ToClient → Type 0
AllGivenMade entries [] = Unit {0}
AllGivenMade entries (m ∷ down) = IfSome (given_file m) (IsMade entries) × AllGivenMade entries down

-- Each file that a message on its way gives a client is one that the durable entries made.
abbrev pub GivenIsMade : View
GivenIsMade n c up down s = AllGivenMade (take s.durable s.entries) down

-- a holder of the server's table: the entries made its file, and it is connected
abbrev pub HoldsMade : List Entry → List (ℕ × ℕ) → Holder → Type 0
HoldsMade entries current h = IsMade entries h.ino × (is_some (number_of current h.client) ≡ true)

-- each of them, and none stands there twice with a file
abbrev pub AllHoldMade : List Entry → List (ℕ × ℕ) → List Holder → Type 0
AllHoldMade entries current [] = Unit {0}
AllHoldMade entries current (h ∷ holders) = HoldsMade entries current h × AllHoldMade entries current holders

abbrev pub EachOnce : List Holder → Type 0
EachOnce [] = Unit {0}
EachOnce (h ∷ holders) = (list_any (is_holder h.client h.ino) holders ≡ false) × EachOnce holders

-- a request that the server keeps: its client is connected, and a capability is asked for a file that the entries made
abbrev pub CapIsMade : List Entry → Request → Type 0
CapIsMade entries (Cap ino mode) = IsMade entries ino
CapIsMade entries asked = Unit {0}

abbrev pub AllAskMade : List Entry → List (ℕ × ℕ) → List Asked → Type 0
AllAskMade entries current [] = Unit {0}
AllAskMade entries current (a ∷ list) =
    (CapIsMade entries a.request × (is_some (number_of current a.client) ≡ true)) × AllAskMade entries current list

-- what may wait where all clients are connected: who asks for a file that others hold, and who is at a barrier that isn't
-- opened
abbrev pub MayWait : List Entry → Request → Type 0
MayWait entries (Cap ino mode) = Unit {0}
MayWait entries (Cat path) = Unit {0}
MayWait entries (Stat path) = Unit {0}
MayWait entries (Barrier number) = barrier entries < number
MayWait entries asked = ⊥

abbrev pub AllMayWait : ℕ → List Entry → List Asked → Type 0
AllMayWait n entries [] = Unit {0}
AllMayWait n entries (a ∷ list) = (of_client n a ≡ true → MayWait entries a.request) × AllMayWait n entries list

-- Where all clients are connected, what the server holds of a client may wait.
abbrev pub HeldMayWait : View
HeldMayWait n c up down s = all_connected s ≡ true → AllMayWait n s.entries s.held

-- the server's table has a client with a file, in this mode at least
abbrev pub InTable : ℕ → Ino → Mode → List Holder → Type 0
InTable n ino Read holders = list_any (is_holder n ino) holders ≡ true
InTable n ino Write holders = list_any (writes_at n ino) holders ≡ true

-- what a client holds is in the table
abbrev pub HeldInTable : ℕ → HeldFiles → List Holder → Type 0
HeldInTable n files holders =
    (ino : Ino) → (is_held ino files ≡ true → InTable n ino Read holders) × (is_writer ino files ≡ true → InTable n ino Write holders)

-- so is what is granted to it by a message of its connection
abbrev pub GrantInTable : ℕ → ℕ → List Holder → ToClient → Type 0
GrantInTable n conn holders (Grant k tid stamp ino mode size file) = (k == conn) ≡ true → InTable n ino mode holders
GrantInTable n conn holders m = Unit {0}

abbrev pub AllGrantsInTable : ℕ → ℕ → List Holder → List ToClient → Type 0
AllGrantsInTable n conn holders [] = Unit {0}
AllGrantsInTable n conn holders (m ∷ down) = GrantInTable n conn holders m × AllGrantsInTable n conn holders down

-- Where the server has a connection of a client, its table has all that the client holds and that it is granted.
abbrev pub TableCovers : View
TableCovers n c up down s =
    IfSome (number_of s.current n) (λ k.
    HeldInTable n c.files s.holders × AllGrantsInTable n c.conn s.holders (down ++ mail_of n s.mail))

-- the files that a client let go since its open request was sent
abbrev pub gone_in : Under → List Ino
gone_in (Open number tid text asked let_go) = let_go
gone_in under = []

abbrev pub is_gone : Ino → List Ino → Bool
is_gone ino gone = list_any (is_ino ino) gone

-- an answer says whether its client writes the file that it finds, where that wasn't let go
abbrev pub SaysWriterIn : List Ino → HeldFiles → Answer → Type 0
SaysWriterIn gone files (FoundLive ino perm size write_held) = is_gone ino gone ≡ false → write_held ≡ is_writer ino files
SaysWriterIn gone files said = Unit {0}

abbrev pub SaysWriterAt : ℕ → List Ino → HeldFiles → ToClient → Type 0
SaysWriterAt conn gone files (Reply k tid stamp said) = (k == conn) ≡ true → SaysWriterIn gone files said
SaysWriterAt conn gone files m = Unit {0}

abbrev pub AllSayWriter : ℕ → List Ino → HeldFiles → List ToClient → Type 0
AllSayWriter conn gone files [] = Unit {0}
AllSayWriter conn gone files (m ∷ down) = SaysWriterAt conn gone files m × AllSayWriter conn gone files down

-- Each answer of the connection that finds a file says whether the client writes it.
abbrev pub SaysWriter : View
SaysWriter n c up down s = AllSayWriter c.conn (gone_in c.under) c.files (down ++ mail_of n s.mail)

-- a message of a connection releases a file
abbrev pub is_release : ℕ → Ino → ToServer → Bool
is_release k ino (Flush conn f) = conn == k && (f.release && is_ino ino f.ino)
is_release k ino m = false

-- what is asked, and what is open, is this file for Write
abbrev pub asks_write : Ino → Request → Bool
asks_write ino (Cap file mode) = is_ino ino file && is_write mode
asks_write ino asked = false

abbrev pub wants_write : Ino → Under → Bool
wants_write ino (Open number tid text asked let_go) = asks_write ino asked
wants_write ino under = false

-- no request of a client is on the way to the server, or waits at it
abbrev pub IsTreated : ℕ → List ToServer → Server → Type 0
IsTreated n up s = asks up + (count n s.held + count n s.deferred + count n (as_list s.operation)) ≡ 0

-- Where the server's table has a client as the writer of a file, the client writes it, or its release is on the way, or it
-- has asked for it and its request is treated.
abbrev pub WriterIsKnown : View
WriterIsKnown n c up down s =
    IfSome (number_of s.current n) (λ k. (ino : Ino) → list_any (writes_at n ino) s.holders ≡ true
    → (is_writer ino c.files ≡ true)
    ⊎ ((list_any (is_release k ino) up ≡ true) ⊎ ((wants_write ino c.under ≡ true) × IsTreated n up s)))

-- a message of a connection is a flush of a file
abbrev pub flushes_file : ℕ → Ino → ToServer → Bool
flushes_file k ino (Flush conn f) = conn == k && is_ino ino f.ino
flushes_file k ino m = false

-- a request to write a file is of a client that the table doesn't have as its writer
abbrev pub IsUnwritten : ℕ → List Holder → Request → Type 0
IsUnwritten n holders (Cap ino Write) = list_any (writes_at n ino) holders ≡ false
IsUnwritten n holders asked = Unit {0}

abbrev pub AllUnwritten : ℕ → List Holder → List Asked → Type 0
AllUnwritten n holders [] = Unit {0}
AllUnwritten n holders (a ∷ list) = (of_client n a ≡ true → IsUnwritten n holders a.request) × AllUnwritten n holders list

-- Where the server has the client's present connection and holds its request to write a file, its table doesn't have the
-- client as the file's writer.
abbrev pub WaitsUnwritten : View
WaitsUnwritten n c up down s = number_of s.current n ≡ Some c.conn → AllUnwritten n s.holders s.held

-- a flush on the way: the server's table has its client as the writer of the file; and behind a release of a file no flush of
-- it comes
abbrev pub IsFlushed : ℕ → ℕ → List Holder → List ToServer → ToServer → Type 0
IsFlushed n k holders behind m =
    (ino : Ino) → (flushes_file k ino m ≡ true → list_any (writes_at n ino) holders ≡ true)
    × (is_release k ino m ≡ true → list_any (flushes_file k ino) behind ≡ false)

abbrev pub AllFlushed : ℕ → ℕ → List Holder → List ToServer → Type 0
AllFlushed n k holders [] = Unit {0}
AllFlushed n k holders (m ∷ up) = IsFlushed n k holders up m × AllFlushed n k holders up

-- Where the server has a connection of a client, each flush on the way in it is of a file that the table has the client write,
-- and behind a file's release there is none of the file.
abbrev pub FlushedIsWritten : View
FlushedIsWritten n c up down s = IfSome (number_of s.current n) (λ k. AllFlushed n k s.holders up)

-- the releases of a file among these are numbered up to this
abbrev pub AllReleased : Ino → ℕ → List FlushMsg → Type 0
AllReleased ino last [] = Unit {0}
AllReleased ino last (f ∷ flushes) = ((f.release && is_ino ino f.ino) ≡ true → f.number ≤ last) × AllReleased ino last flushes

-- Where a client holds a file, all its earlier releases of it are durable.
abbrev pub HeldAfterRelease : View
HeldAfterRelease n c up down s =
    (ino : Ino) → is_held ino c.files ≡ true → AllReleased ino (last_flush (take s.durable s.entries) n) c.unacked

-- a request that wants a file, and a holder that was asked to give its file back
abbrev pub wants_file : Request → Bool
wants_file (Cap ino mode) = true
wants_file (Cat path) = true
wants_file (Stat path) = true
wants_file asked = false

abbrev pub was_recalled : Holder → Bool
was_recalled h = h.recalled

abbrev pub wants_of : ℕ → Asked → Bool
wants_of n a = of_client n a && wants_file a.request

-- Where all clients are connected and a client's request for a file is held, some holder is recalled.
abbrev pub SomeIsRecalled : View
SomeIsRecalled n c up down s =
    all_connected s ≡ true → list_any (wants_of n) s.held ≡ true → list_any was_recalled s.holders ≡ true

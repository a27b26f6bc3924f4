-- The rows of what a client takes.
use Rattle.std.specs.Prelude.{ℕ, Bool, true, false, not, ◌||◌, ◌&&◌, ◌==◌, nat_lt, nat_le, List, [], ◌∷◌, ◌++◌, filter, fold, if◌then◌else◌, Option, None, Some, is_none}
use Rattle.std.specs.List.{list_any}
use Rattle.snap_ids.specs.declared.id.Ino.{Ino}
use Rattle.snap_ids.specs.declared.id.SnapId.{SnapId}
use Rattle.snap_ids.specs.declared.values.Mode.{Mode}
use Rattle.snap_ids.specs.declared.values.Mode.TheVariants.{Read, Write}
use Rattle.snap_ids.specs.Context.{Context}
use Rattle.plain_types.specs.declared.answer.Answer.{Answer}
use Rattle.plain_types.specs.declared.answer.Answer.TheVariants as answer
use Rattle.plain_types.specs.declared.message.FileTrace.{FileTrace}
use Rattle.plain_types.specs.declared.message.FlushMsg.{FlushMsg}
use Rattle.plain_types.specs.declared.message.FromStore.{FromStore}
use Rattle.plain_types.specs.declared.message.FromStore.TheVariants.{Stored, Got, NotThere, CloneListIs}
use Rattle.plain_types.specs.declared.message.Stamp.{Stamp}
use Rattle.plain_types.specs.declared.message.ToClient.{ToClient}
use Rattle.plain_types.specs.declared.message.ToClient.TheVariants.{Reply, Grant, Recall, Notice, FlushAck, Welcome, Restarted}
use Rattle.plain_types.specs.declared.message.ToServer.TheVariants.{DropRead}
use Rattle.plain_types.specs.declared.message.ToStore.TheVariants.{ReadSnap, ListClones}
use Rattle.plain_types.specs.declared.request.Request.{Request}
use Rattle.plain_types.specs.declared.request.Request.TheVariants as request
use Rattle.plain_types.specs.declared.script.Line.{Line}
use Rattle.plain_tree.specs.State.{Handle}
use Rattle.plain_tree.specs.Change.{is_handle}
use Rattle.plain_tree.specs.History.{stamp_of}
use Rattle.held_files.specs.Buffer.{read_over}
use Rattle.held_files.specs.Files.{HeldFile, HeldFiles, is_write, is_ino, file_of, is_writer, with_file, hold, with_mark, recalled, stored, settled_to, buffer_of}
use Rattle.step_table.specs.Messages.{to_client_fits, from_store_fits, context_by}
use Rattle.step_table.specs.Row.{Row}
use Rattle.step_table.specs.ClientState.{Under, Idle, Open, AtStore, Heard, Client, to_server, stays, asks_store, replies, context_in, with_context, on_file, size_of, asks, reads_head, Edit, edit_of, edits, connects}

-- where a file's sequence id grows from an old one to a new one, a mark of its size is kept for the server
abbrev pub marked : Context → Context → HeldFile → HeldFile
marked old new file =
    if nat_lt old.seq.0 new.seq.0 then with_mark (record { follows = old.seq; upto = new.seq; size = file.size }) file else file

-- a file that is held for Write has a new context
abbrev pub renewed : Client → Ino → Context → Client
renewed c ino new = record c {
  files = with_file ino (marked (context_in c.contexts ino) new) c.files;
  contexts = with_context ino new c.contexts;
}

-- the contexts of an update are taken; a file that isn't held for Write is passed over
abbrev pub updated : Client → List FileTrace → Client
updated c [] = c
updated c (file ∷ update) = updated (if is_writer file.ino c.files then renewed c file.ino (context_by file) else c) update

-- an acknowledged mark settles its file
abbrev pub settled_by : HeldFiles → FlushMsg → HeldFiles
settled_by files f = if f.release then files else with_file f.ino (settled_to f.upto) files

-- the flushes that pass the test are acknowledged
abbrev pub acked : Client → (ℕ → Bool) → Client
acked c which = record c {
  files = fold settled_by c.files (filter (λ (f : FlushMsg). which f.number) c.unacked);
  unacked = filter (λ (f : FlushMsg). not (which f.number)) c.unacked;
}

-- the line that asked for a capability goes on with it: a change takes effect, a read asks the store
abbrev pub goes_on : Client → ℕ → Ino → Option Edit → Row Client
goes_on c number ino (Some e) = edits c number ino e
goes_on c number ino None = reads_head c number 0 ino

-- a file is granted; for Write with its context
abbrev pub granted : Client → Ino → Mode → ℕ → SnapId → FileTrace → Client
granted c ino mode size settled file = record c {
  under = Idle;
  files = hold ino mode size settled c.files;
  contexts = if is_write mode then with_context ino (context_by file) c.contexts else c.contexts;
}

abbrev pub same_mode : Mode → Mode → Bool
same_mode Read Read = true
same_mode Write Write = true
same_mode a b = false

-- the request is for this capability
abbrev pub asks_for : Request → Ino → Mode → Bool
asks_for (request.Cap file wanted) ino mode = is_ino ino file && same_mode mode wanted
asks_for asked ino mode = false

-- a Grant is taken where it is what the open request asked for, and the file isn't held for Write
abbrev pub take_grant : Client → ℕ → Stamp → Ino → Mode → ℕ → FileTrace → Under → Row Client
take_grant c tid stamp ino mode size file (Open number open_tid text asked let_go) =
    if open_tid == tid && asks_for asked ino mode && not (is_writer ino c.files)
    then goes_on (granted c ino mode size stamp.snap file) number ino (edit_of text) else stays c
take_grant c tid stamp ino mode size file under = stays c

-- what is open after an answer
abbrev pub handles_after : Client → Answer → Request → List Handle
handles_after c (answer.Opened ino) (request.Open handle path writable) =
    c.handles ++ record { client = c.number; handle = handle; ino = ino; writable = writable } ∷ []
handles_after c answer.Done (request.Close handle) = filter (λ opened. not (is_handle c.number handle opened)) c.handles
handles_after c said asked = c.handles

-- the answer says that the request's change was made
abbrev pub is_success : Request → Answer → Bool
is_success (request.Barrier number) said = false
is_success asked answer.Done = true
is_success asked (answer.Snap id) = true
is_success asked (answer.Opened ino) = true
is_success asked said = false

abbrev pub wants_bytes : Request → Bool
wants_bytes (request.Cat path) = true
wants_bytes asked = false

-- `cat` goes on with the store, and `stat` needs no bytes
abbrev pub with_found : Client → ℕ → Request → ℕ → Ino → ℕ → Row Client
with_found c number asked entry ino perm =
    if wants_bytes asked then reads_head c number entry ino
    else replies (record c { under = Idle }) number false entry (answer.StatFile perm (size_of c ino))

-- a live file that is found is held for Read, unless the client writes it
abbrev pub found : Client → Ino → ℕ → SnapId → Bool → Client
found c ino size settled write_held = record c { files = if write_held then c.files else hold ino Read size settled c.files }

-- A file that the client let go since it last sent the request is let go again, and it asks anew: the server may have given
-- it the file before it took the release.
abbrev pub asks_anew : Client → ℕ → Line → Request → Ino → Row Client
asks_anew c number text asked ino =
    let again = asks c number text asked in record again { sent = to_server (DropRead c.conn ino) ∷ again.sent }

-- the answer to the open request
abbrev pub take_answer : Client → ℕ → Line → Request → List Ino → Stamp → Answer → Row Client
take_answer c number text asked let_go stamp (answer.FoundLive ino perm size write_held) =
    if list_any (is_ino ino) let_go then asks_anew c number text asked ino
    else with_found (found c ino size stamp.snap write_held) number asked stamp.entry ino perm
take_answer c number text asked let_go stamp (answer.FoundSnap ino snap size) =
    asks_store (record c { under = AtStore number stamp.entry ino false }) (ReadSnap number ino size snap)
take_answer c number text asked let_go stamp (answer.FoundObject ino index) =
    asks_store (record c { under = AtStore number stamp.entry ino false }) (ListClones number ino index)
take_answer c number text asked let_go stamp said =
    replies (record c { under = Idle; handles = handles_after c said asked }) number (is_success asked said) stamp.entry said

-- an answer can be taken where it isn't for a reader of a file that the client holds for Write
abbrev pub takes_answer : Client → Answer → Bool
takes_answer c (answer.FoundLive ino perm size write_held) = write_held || not (is_writer ino c.files)
takes_answer c said = true

abbrev pub take_reply : Client → ℕ → Stamp → Answer → Under → Row Client
take_reply c tid stamp said (Open number open_tid text asked let_go) =
    if open_tid == tid && takes_answer c said then take_answer c number text asked let_go stamp said else stays c
take_reply c tid stamp said under = stays c

-- the connection number of a message of the server; a restart is told without one
abbrev pub conn_of : ToClient → Option ℕ
conn_of (Reply conn tid stamp said) = Some conn
conn_of (Grant conn tid stamp ino mode size file) = Some conn
conn_of (Recall conn stamp ino) = Some conn
conn_of (Notice conn stamp update) = Some conn
conn_of (FlushAck conn stamp number) = Some conn
conn_of (Welcome conn stamp flushed update) = Some conn
conn_of (Restarted stamp) = None

abbrev pub is_conn : ℕ → Option ℕ → Bool
is_conn conn None = false
is_conn conn (Some other) = other == conn

-- a message of the client's connection
abbrev pub is_own : Client → ToClient → Bool
is_own c told = is_conn c.conn (conn_of told)

-- a message is taken where it is of the connection, or has no number
abbrev pub may_take : Client → ToClient → Bool
may_take c told = is_none (conn_of told) || is_own c told

abbrev pub take_own : Client → ToClient → Row Client
take_own c (Restarted stamp) = connects c
take_own c (Reply conn tid stamp said) = take_reply c tid stamp said c.under
take_own c (Grant conn tid stamp ino mode size file) = take_grant c tid stamp ino mode size file c.under
take_own c (Recall conn stamp ino) = stays (on_file c ino recalled)
take_own c (Notice conn stamp update) = stays (updated c update)
take_own c (FlushAck conn stamp number) = stays (acked c (λ n. n == number))
take_own c (Welcome conn stamp last update) =
    stays (updated (acked (record c { frozen = false }) (λ n. nat_le n last)) update)

-- what a client has heard after a message
abbrev pub hears : Heard → Bool → ℕ → Heard
hears heard is_own entry = record { any = entry; own = if is_own then entry else heard.own }

abbrev pub having_heard : Client → ToClient → Client
having_heard c told = record c { heard = hears c.heard (is_own c told) (stamp_of told).entry }

-- a client takes from the server; a message of another connection, or with a number that can't be, is dropped
abbrev pub on_told : Client → ToClient → Row Client
on_told c told =
    if may_take c told && to_client_fits told then take_own (having_heard c told) told else stays (having_heard c told)

-- a file's stored bytes, under what the client keeps back of them where it holds the file for Write
abbrev pub bytes_with : Option HeldFile → Bool → List ℕ → List ℕ
bytes_with None head bytes = bytes
bytes_with (Some file) head bytes = if head && is_write file.mode then read_over (buffer_of file) bytes else bytes

abbrev pub key_of : FromStore → Option ℕ
key_of (Got key bytes) = Some key
key_of (NotThere key) = Some key
key_of (CloneListIs key list) = Some key
key_of (Stored ino) = None

abbrev pub is_key : ℕ → Option ℕ → Bool
is_key number None = false
is_key number (Some key) = key == number

abbrev pub store_answer : Client → Ino → Bool → FromStore → Answer
store_answer c ino head (Got key bytes) = answer.FileBytes (bytes_with (file_of ino c.files) head bytes)
store_answer c ino head (CloneListIs key list) = answer.ClonesAre list
store_answer c ino head said = answer.Gone

-- the store's answer to the line under way
abbrev pub take_read : Client → FromStore → Under → Row Client
take_read c said (AtStore number entry ino head) =
    if is_key number (key_of said)
    then replies (record c { under = Idle }) number false entry (store_answer c ino head said) else stays c
take_read c said under = stays c

abbrev pub take_stored : Client → FromStore → Row Client
take_stored c (Stored ino) = stays (on_file c ino stored)
take_stored c said = take_read c said c.under

-- a client takes from the store
abbrev pub on_stored : Client → FromStore → Row Client
on_stored c said = if from_store_fits said then take_stored c said else stays c

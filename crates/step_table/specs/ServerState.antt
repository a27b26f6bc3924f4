-- The server's table state, and what is read off it.
use Rattle.std.specs.Prelude.{ℕ, zero, suc, ◌+◌, ◌-◌, Bool, false, ◌&&◌, ◌==◌, List, [], ◌∷◌, ◌++◌, length, map, filter, if◌then◌else◌, Option, None, Some, is_some}
use Rattle.std.specs.List.{list_any, list_all}
use Rattle.snap_ids.specs.declared.id.Ino.{Ino}
use Rattle.snap_ids.specs.declared.id.SnapId.{SnapId}
use Rattle.snap_ids.specs.declared.id.TheConstants.{NOSNAP}
use Rattle.snap_ids.specs.declared.values.Mode.{Mode}
use Rattle.plain_types.specs.declared.answer.Answer.{Answer}
use Rattle.plain_types.specs.declared.entry.Entry.{Entry}
use Rattle.plain_types.specs.declared.history.Sent.{Sent}
use Rattle.plain_types.specs.declared.message.FileTrace.{FileTrace}
use Rattle.plain_types.specs.declared.message.Message.TheVariants as message
use Rattle.plain_types.specs.declared.message.Stamp.{Stamp}
use Rattle.plain_types.specs.declared.message.ToClient.{ToClient}
use Rattle.plain_types.specs.declared.message.ToClient.TheVariants.{Reply, Grant, Recall, Notice, FlushAck, Welcome, Restarted}
use Rattle.plain_types.specs.declared.message.ToStore.{ToStore}
use Rattle.plain_types.specs.declared.request.Request.{Request}
use Rattle.plain_tree.specs.State.{Inode, same_ino}
use Rattle.plain_journal.specs.Coverage.{context}
use Rattle.plain_journal.specs.Entries.{state_after, applied}
use Rattle.plain_journal.specs.Settled.{settled_size}
use Rattle.plain_journal.specs.Table.{last_flush}
use Rattle.held_files.specs.Files.{is_write}
use Rattle.step_table.specs.Messages.{trace_with}

-- a request as the server took it
pub record Asked : Type 0 where
  pub client : ℕ
  pub tid : ℕ
  pub request : Request

-- a client that holds a file, the id up to which its flushes are settled, and whether it was asked to give the file back
pub record Holder : Type 0 where
  pub client : ℕ
  pub ino : Ino
  pub mode : Mode
  pub settled : SnapId
  pub recalled : Bool

-- The server's table state: how many clients there are; the entries of the journal, and how many of them are durable; what
-- it made and hasn't sent, each with the number of entries at that time; the request that is being treated; the
-- connection number of each client that is connected, the newest first; who holds what; the requests that are held, and the
-- operations on the snapshot table that are deferred, by arrival; the request of the outstanding operation; and since the
-- last restart, the ids whose purge and the files whose deletion was sent to the store.
pub record Server : Type 0 where
  pub clients : ℕ
  pub entries : List Entry
  pub durable : ℕ
  pub mail : List (ℕ × Sent)
  pub hand : Option Asked
  pub current : List (ℕ × ℕ)
  pub holders : List Holder
  pub held : List Asked
  pub deferred : List Asked
  pub operation : Option Asked
  pub purging : List SnapId
  pub deleting : List Ino

-- the clients by number
abbrev pub up_to : ℕ → List ℕ
up_to zero = []
up_to (suc n) = up_to n ++ (n + 1) ∷ []

-- the connection number of a client that is connected
abbrev pub number_of : List (ℕ × ℕ) → ℕ → Option ℕ
number_of [] client = None
number_of (c ∷ current) client = if c.0 == client then Some c.1 else number_of current client

abbrev pub all_connected : Server → Bool
all_connected s = list_all (λ c. is_some (number_of s.current c)) (up_to s.clients)

abbrev pub is_current : Server → ℕ → ℕ → Bool
is_current s client conn = elim (number_of s.current client) [ None ↦ false | Some number ↦ number == conn ]

-- the same number, 0 where the client isn't connected
abbrev pub connection : Server → ℕ → ℕ
connection s client = elim (number_of s.current client) [ None ↦ 0 | Some number ↦ number ]

-- how many entries aren't durable
abbrev pub buffered : Server → ℕ
buffered s = length s.entries - s.durable

-- the stamp of a message that is made now
abbrev pub stamp : Server → Stamp
stamp s = record { snap = record { 0 = applied s.entries }; entry = length s.entries }

-- a file's trace, with its context
abbrev pub trace_of : Server → Ino → FileTrace
trace_of s ino = trace_with ino (context s.entries ino)

abbrev pub is_holder : ℕ → Ino → Holder → Bool
is_holder client ino h = h.client == client && same_ino h.ino ino

abbrev pub is_writer : ℕ → Ino → Holder → Bool
is_writer client ino h = is_holder client ino h && is_write h.mode

-- The files that a client holds for Write, by rising inode. Inodes are given in rising order, so that is the order in
-- which they were made.
abbrev pub written_by : Server → ℕ → List Ino
written_by s client =
    filter (λ ino. list_any (is_writer client ino) s.holders) (map (λ (inode : Inode). inode.ino) (state_after s.entries).inodes)

-- what is made waits until all entries of its time are durable
abbrev pub send : Server → Sent → Server
send s sent = record s { mail = s.mail ++ (length s.entries, sent) ∷ [] }

abbrev pub send_client : Server → ℕ → ToClient → Server
send_client s client told = send s (record { to = client; message = message.ToClient told })

-- the store is the node behind the last client
abbrev pub send_store : Server → ToStore → Server
send_store s order = send s (record { to = s.clients + 1; message = message.ToStore order })

-- what a client is told; connection number, stamp, size and trace are those of the state at that time
pub data Told : Type 0 where
  Answered : ℕ → Answer → Told
  Granted : ℕ → Ino → Mode → Told
  WantedBack : Ino → Told
  Changed : List Ino → Told
  Acked : ℕ → Told

abbrev pub message_of : Server → ℕ → Told → ToClient
message_of s conn (Answered tid answer) = Reply conn tid (stamp s) answer
message_of s conn (Granted tid ino mode) = Grant conn tid (stamp s) ino mode (settled_size s.entries ino NOSNAP) (trace_of s ino)
message_of s conn (WantedBack ino) = Recall conn (stamp s) ino
message_of s conn (Changed inos) = Notice conn (stamp s) (map (trace_of s) inos)
message_of s conn (Acked number) = FlushAck conn (stamp s) number

abbrev pub tell_at : Server → ℕ → Told → Option ℕ → Server
tell_at s client told None = s
tell_at s client told (Some conn) = send_client s client (message_of s conn told)

-- a client is told; who isn't connected is told nothing
abbrev pub tell : Server → ℕ → Told → Server
tell s client told = tell_at s client told (number_of s.current client)

-- a client that has connected is told what it has to know: its last flush and the contexts of the files that it writes
abbrev pub welcome : Server → ℕ → ℕ → Server
welcome s client conn =
    send_client s client (Welcome conn (stamp s) (last_flush s.entries client) (map (trace_of s) (written_by s client)))

-- the server has restarted; each client is told, connected or not
abbrev pub tell_restart : Server → ℕ → Server
tell_restart s client = send_client s client (Restarted (stamp s))

-- before anything was written: connection 1 is current for all
abbrev pub new_server : ℕ → Server
new_server clients = record {
  clients = clients;
  entries = [];
  durable = 0;
  mail = [];
  hand = None;
  current = map (λ c. (c, 1)) (up_to clients);
  holders = [];
  held = [];
  deferred = [];
  operation = None;
  purging = [];
  deleting = [];
}

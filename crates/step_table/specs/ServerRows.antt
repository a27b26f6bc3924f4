-- The rows of the server's steps.
use Rattle.std.specs.Prelude.{ℕ, ◌+◌, false, ◌&&◌, nat_lt, nat_le, List, [], ◌∷◌, ◌++◌, length, map, take, drop, if◌then◌else◌, Option, None, Some, option_map}
use Rattle.std.specs.List.{list_any}
use Rattle.snap_ids.specs.declared.id.SnapId.{SnapId}
use Rattle.snap_ids.specs.Context.{is_listed}
use Rattle.plain_types.specs.declared.change.Effect.{Effect}
use Rattle.plain_types.specs.declared.entry.What.TheVariants.{Purgedone, Deadfile}
use Rattle.plain_types.specs.declared.message.Claim.{Claim}
use Rattle.plain_types.specs.declared.message.FlushMsg.{FlushMsg}
use Rattle.plain_types.specs.declared.message.ToServer.{ToServer}
use Rattle.plain_types.specs.declared.message.ToServer.TheVariants.{Connect, Ask, Flush, DropRead, Purged, Deleted}
use Rattle.plain_tree.specs.State.{same_ino}
use Rattle.plain_journal.specs.Table.{outstanding, to_purge, dead, effects_from}
use Rattle.step_table.specs.Messages.{to_server_fits}
use Rattle.step_table.specs.Row.{Row}
use Rattle.step_table.specs.ServerState.{Asked, Server, up_to, is_current, buffered, welcome}
use Rattle.step_table.specs.Acts.{Act, TellRestart, Buffer, acts, own_entry, hand_out}
use Rattle.step_table.specs.Requests.{treat, decide_anew, then_held}
use Rattle.step_table.specs.Flushes.{knows_file, knows_asked, on_flush, on_drop, come_back, asked_by, brought, take_in, take_in_brought, connected, may_connect, treat_brought}
use Rattle.step_table.specs.Background.{roll_back, turn}

-- the row of some acts: after them the held requests where something opened, and then what needn't wait is sent
abbrev pub row_of : Server → List Act → Row Server
row_of s done = hand_out (acts s (then_held (2 + length s.held) s done))

-- a message that is dropped
abbrev pub drops : Server → Row Server
drops s = hand_out s

-- a request is taken
abbrev pub ask : Server → Asked → Row Server
ask s a = row_of (take_in s a) (treat false (take_in s a) a)

-- a client with its new connection, before its request is treated
abbrev pub back : Server → ℕ → ℕ → List Claim → List FlushMsg → Option Asked → Server
back s client conn claims flushes asked =
    take_in_brought (welcome (connected (acts s (come_back s client claims flushes)) client conn) client conn) asked

-- then its request is treated, and then the held ones
abbrev pub connect_with : Server → Option Asked → Row Server
connect_with s asked =
    let now = acts s (treat_brought s asked) in
    hand_out (acts now (then_held (1 + length now.held) now (decide_anew now)))

-- a connection is taken: claims and flushes, the Welcome, and then requests
abbrev pub connect : Server → ℕ → ℕ → List Claim → List FlushMsg → Option Asked → Row Server
connect s client conn claims flushes asked =
    if may_connect s client conn claims flushes asked
    then connect_with (back s client conn claims flushes asked) asked else drops s

-- a message of a client; what only the store sends is dropped
abbrev pub taken_from : Server → ℕ → ToServer → Row Server
taken_from s client (Connect conn claims flushes asked) = connect s client conn claims flushes (brought client asked)
taken_from s client (Ask conn tid asked) =
    if is_current s client conn && knows_asked s asked then ask s (asked_by client tid asked) else drops s
taken_from s client (Flush conn f) =
    if is_current s client conn && knows_file s f.ino then row_of s (on_flush client s f) else drops s
taken_from s client (DropRead conn ino) =
    if is_current s client conn then row_of s (on_drop client s ino) else drops s
taken_from s client (Purged id) = drops s
taken_from s client (Deleted ino) = drops s

-- the server takes from a client; a message with a number that can't be is dropped
abbrev pub on_take : Server → ℕ → ToServer → Row Server
on_take s client message = if to_server_fits message then taken_from s client message else drops s

-- what the store has done is written down, once
abbrev pub reported : Server → ToServer → List Act
reported s (Purged id) = if is_listed id (to_purge s.entries) then Buffer (own_entry (Purgedone id)) ∷ [] else []
reported s (Deleted ino) = if list_any (same_ino ino) (dead s.entries) then Buffer (own_entry (Deadfile ino)) ∷ [] else []
reported s message = []

-- the server takes from the store
abbrev pub on_report : Server → ToServer → Row Server
on_report s message = row_of s (reported s message)

-- the changes of the first entries that aren't durable
abbrev pub takes_effect : Server → ℕ → List Effect
takes_effect s upto = effects_from (s.durable + 1) (drop s.durable (take upto s.entries))

-- all entries are durable, and what waited for them is sent
abbrev pub committed : Server → Row Server
committed s = record (hand_out (record s { durable = length s.entries })) { effects = takes_effect s (length s.entries) }

abbrev pub on_commit : Server → Option (Row Server)
on_commit s = if nat_lt 0 (buffered s) then Some (committed s) else None

-- what is left after a restart of which the first entries survive
abbrev pub left_with : Server → ℕ → Server
left_with s upto = record {
  clients = s.clients;
  entries = take upto s.entries;
  durable = upto;
  mail = [];
  hand = None;
  current = [];
  holders = [];
  held = [];
  deferred = [];
  operation = None;
  purging = [];
  deleting = [];
}

abbrev pub roll_back_from : Option (SnapId × ℕ) → List Act
roll_back_from None = []
roll_back_from (Some o) = roll_back o.0 ∷ []

-- the clients are told, and then an outstanding operation is rolled back
abbrev pub restarts : Server → List Act
restarts s = map TellRestart (up_to s.clients) ++ roll_back_from (outstanding s.entries)

abbrev pub restarted : Server → ℕ → Row Server
restarted s upto =
    record (row_of (left_with s upto) (restarts (left_with s upto))) { effects = takes_effect s upto }

-- a restart after which so many of the entries that aren't durable survive
abbrev pub on_restart : Server → ℕ → Option (Row Server)
on_restart s k = if nat_le k (buffered s) then Some (restarted s (s.durable + k)) else None

abbrev pub on_tend : Server → Option (Row Server)
on_tend s = option_map (row_of s) (turn s)

-- What the server makes of flushes, of files that are let go, and of a client that connects.
use Rattle.std.specs.Prelude.{ℕ, Bool, true, false, not, ◌&&◌, nat_lt, nat_le, List, [], ◌∷◌, ◌++◌, filter, if◌then◌else◌, Option, None, Some}
use Rattle.std.specs.List.{list_any, list_all}
use Rattle.snap_ids.specs.declared.id.Ino.{Ino}
use Rattle.plain_types.specs.declared.entry.What.{What}
use Rattle.plain_types.specs.declared.entry.What.TheVariants.{Settle, Release}
use Rattle.plain_types.specs.declared.message.Claim.{Claim}
use Rattle.plain_types.specs.declared.message.FlushMsg.{FlushMsg}
use Rattle.plain_types.specs.declared.request.Request.{Request}
use Rattle.plain_types.specs.declared.request.Request.TheVariants as request
use Rattle.plain_journal.specs.Entries.{state_after}
use Rattle.plain_journal.specs.Legal.{is_made_file}
use Rattle.plain_journal.specs.Table.{last_flush}
use Rattle.held_files.specs.Files.{is_write}
use Rattle.step_table.specs.ServerState.{Asked, Holder, Server, connection, is_holder}
use Rattle.step_table.specs.Acts.{Act, TellAck, Buffer, Hold, Settled, LetGo, LetAllGo, of_client, and_then, each}
use Rattle.step_table.specs.Capabilities.{clash}
use Rattle.step_table.specs.Requests.{treat, is_operation}

-- the file was made; what became of it since doesn't matter
abbrev pub knows_file : Server → Ino → Bool
knows_file s ino = is_made_file (state_after s.entries) ino

-- the entry of a flush, the last one of a tenure being its release
abbrev pub flush_entry : FlushMsg → What
flush_entry f = if f.release then Release f.ino f.follows f.size else Settle f.ino f.follows f.upto f.size

-- after a release the file isn't held, after another flush it is settled up to there
abbrev pub flush_settles : ℕ → FlushMsg → Act
flush_settles client f = if f.release then LetGo client f.ino else Settled client f.ino f.upto

-- a flush is buffered, unless it was taken before
abbrev pub take_flush : ℕ → Server → FlushMsg → List Act
take_flush client s f =
    if nat_le f.number (last_flush s.entries client) then []
    else Buffer (record { client = client; number = f.number; what = flush_entry f }) ∷ flush_settles client f ∷ []

-- a flush that comes by itself is acknowledged
abbrev pub on_flush : ℕ → Server → FlushMsg → List Act
on_flush client s f = take_flush client s f ++ TellAck client f.number ∷ []

-- a reader lets go; who was raised to Write since holds on
abbrev pub on_drop : ℕ → Server → Ino → List Act
on_drop client s ino =
    if list_any (λ h. is_holder client ino h && not (is_write h.mode)) s.holders then LetGo client ino ∷ [] else []

-- a claim as it is held again, not yet recalled
abbrev pub claimed : ℕ → Claim → Holder
claimed client k = record { client = client; ino = k.ino; mode = k.mode; settled = k.settled; recalled = false }

-- a claim is held again, unless another holds against it
abbrev pub take_claim : ℕ → Server → Claim → List Act
take_claim client s k = if list_any (clash (claimed client k)) s.holders then [] else Hold (claimed client k) ∷ []

-- a flush that a connection brings along; it settles its file though it was taken before
abbrev pub take_brought : ℕ → Server → FlushMsg → List Act
take_brought client s f = take_flush client s f ++ (if f.release then [] else Settled client f.ino f.upto ∷ [])

-- the client's capabilities become its claims, and its flushes are taken
abbrev pub come_back : Server → ℕ → List Claim → List FlushMsg → List Act
come_back s client claims flushes = and_then s (LetAllGo client ∷ []) (λ t.
    and_then t (each (take_claim client) t claims) (λ u. each (take_brought client) u flushes))

abbrev pub asked_by : ℕ → ℕ → Request → Asked
asked_by client tid asked = record { client = client; tid = tid; request = asked }

-- a request comes into the hand; that of the outstanding operation is not treated twice
abbrev pub hand_for : Server → Asked → Option Asked
hand_for s a = if is_operation s a then None else Some a

abbrev pub take_in : Server → Asked → Server
take_in s a = record s { hand = hand_for s a }

-- the open request that a connection brings along
abbrev pub brought : ℕ → Option (ℕ × Request) → Option Asked
brought client None = None
brought client (Some asked) = Some (asked_by client asked.0 asked.1)

abbrev pub take_in_brought : Server → Option Asked → Server
take_in_brought s None = s
take_in_brought s (Some a) = take_in s a

abbrev pub not_of : ℕ → List Asked → List Asked
not_of client asked = filter (λ a. not (of_client client a)) asked

-- The connection has its new number. What the client asked before is dropped, held or deferred: it asks again with what
-- it brings along.
abbrev pub connected : Server → ℕ → ℕ → Server
connected s client conn = record s {
  current = (client, conn) ∷ s.current;
  held = not_of client s.held;
  deferred = not_of client s.deferred;
}

-- a request for a capability wants a file
abbrev pub knows_asked : Server → Request → Bool
knows_asked s (request.Cap ino mode) = knows_file s ino
knows_asked s asked = true

abbrev pub knows_brought : Server → Option Asked → Bool
knows_brought s None = true
knows_brought s (Some a) = knows_asked s a.request

-- a connection is taken: its number is above the current one, and what it says is of files
abbrev pub may_connect : Server → ℕ → ℕ → List Claim → List FlushMsg → Option Asked → Bool
may_connect s client conn claims flushes asked =
    nat_lt (connection s client) conn
    && list_all (λ (k : Claim). knows_file s k.ino) claims
    && list_all (λ (f : FlushMsg). knows_file s f.ino) flushes
    && knows_brought s asked

-- the acts on the request that it brings along
abbrev pub treat_brought : Server → Option Asked → List Act
treat_brought s None = []
treat_brought s (Some a) = treat false s a

-- Nodes at rest, and messages that they drop.
use Rattle.std.specs.Prelude.{ℕ, true, false, List, [], ◌∷◌, codes, None, Some}
use Rattle.snap_ids.specs.declared.id.Ino.{Ino}
use Rattle.snap_ids.specs.declared.id.SnapId.{SnapId}
use Rattle.snap_ids.specs.declared.id.TheConstants.{NOSNAP}
use Rattle.snap_ids.specs.declared.values.CloneList.{CloneList}
use Rattle.snap_ids.specs.declared.values.Mode.TheVariants.{Write}
use Rattle.snap_ids.specs.Context.{Context}
use Rattle.plain_types.specs.declared.message.Claim.{Claim}
use Rattle.plain_types.specs.declared.message.FlushMsg.{FlushMsg}
use Rattle.plain_types.specs.declared.message.Stamp.{Stamp}
use Rattle.plain_types.specs.declared.message.ToServer.{ToServer}
use Rattle.plain_types.specs.declared.message.ToServer.TheVariants.{Connect, Ask}
use Rattle.plain_types.specs.declared.message.ToStore.{ToStore}
use Rattle.plain_types.specs.declared.message.ToStore.TheVariants.{WriteAt}
use Rattle.plain_types.specs.declared.request.Request.TheVariants.{Cap}
use Rattle.plain_types.specs.declared.request.Request.TheVariants as request
use Rattle.plain_types.specs.declared.script.Line.TheVariants as line
use Rattle.step_table.specs.ServerState.{Server, new_server}
use Rattle.step_table.specs.ClientState.{Client, Open, AtStore, new_client}
use Rattle.plain_types.specs.declared.entry.Entry.{Entry}
use Rattle.plain_types.specs.declared.entry.What.{What}
use Rattle.plain_types.specs.declared.entry.What.TheVariants.{Mkdir, Create}
use Rattle.held_files.specs.Files.{hold}

-- the entry of client 1's request of this number
abbrev pub entry : ℕ → What → Entry
entry number said = record { client = 1; number = number; what = said }

-- `/a` and `/a/f`
abbrev pub dir : Ino
dir = record { 0 = 1099511627776 }

abbrev pub file : Ino
file = record { 0 = 1099511627777 }

-- client 1 has made `/a/f` and holds it for Write, all is durable, and nothing is left to do
abbrev pub server : Server
server = record (new_server 1) {
  entries = entry 1 (Mkdir (record { 0 = 1 }) (codes "a") dir) ∷ entry 2 (Create dir (codes "f") file 420) ∷ [];
  durable = 2;
  holders = record { client = 1; ino = file; mode = Write; settled = record { 0 = 1 }; recalled = false } ∷ [];
}

-- that client, which has nothing to send
abbrev pub writer : Client
writer = record (new_client 1 2 []) {
  files = hold file Write 2 (record { 0 = 1 }) [];
  contexts = (file, record { seq = record { 0 = 1 }; ids = [] }) ∷ [];
}

-- that client while it asks for the file's bytes by its path, and while the store is asked for its clones
abbrev pub asking : Client
asking = record writer { under = Open 1 9 (line.Cat (codes "a" ∷ codes "f" ∷ [])) (request.Cat (codes "a" ∷ codes "f" ∷ [])) [] }

abbrev pub waiting : Client
waiting = record writer { under = AtStore 1 3 file false }

-- an inode that was never made
abbrev pub nobody : Ino
nobody = record { 0 = 1099511627778 }

abbrev pub id : ℕ → SnapId
id n = record { 0 = n }

-- the writer's flush of a file, with this size, between these ids
abbrev pub flush : Ino → SnapId → SnapId → ℕ → FlushMsg
flush ino follows upto size = record { number = 1; ino = ino; follows = follows; upto = upto; size = size; release = false }

abbrev pub release : ℕ → FlushMsg
release size = record { number = 1; ino = file; follows = id 1; upto = NOSNAP; size = size; release = true }

-- one clone for a snapshot, and a head's length
abbrev pub clones : SnapId → ℕ → CloneList
clones s length = record { clones = (s, s ∷ []) ∷ []; head = Some length }

abbrev pub claim : Ino → SnapId → List Claim
claim ino settled = record { ino = ino; mode = Write; settled = settled } ∷ []

-- a new connection that claims and asks for nothing
abbrev pub connect : ℕ → ToServer
connect conn = Connect conn [] [] None

-- a request for a capability
abbrev pub cap : Ino → ToServer
cap ino = Ask 1 9 (Cap ino Write)

abbrev pub stamp : SnapId → Stamp
stamp snap = record { snap = snap; entry = 3 }

-- the context of an id
abbrev pub knows : SnapId → Context
knows s = record { seq = s; ids = s ∷ [] }

abbrev pub write : ℕ → SnapId → ToStore
write offset s = WriteAt file offset (codes "a") (knows s)

-- A script as it is read, and the steps of a run, as lines of a schedule.
use Rattle.std.specs.Prelude.{ℕ, ◌+◌, ◌==◌, Bool, List, [], ◌∷◌, ◌++◌, Option, None, Some, if◌then◌else◌, codes, decimal, flat_map}
use Rattle.hex.specs.Hex.{encode_lower}
use Rattle.plain_types.specs.declared.history.Event.{Event}
use Rattle.plain_types.specs.declared.history.Step.{Step}
use Rattle.plain_types.specs.declared.history.Step.TheVariants.{Op, Flush, ClientFromServer, ClientFromStore, ServerTakes, Commit, Restart, Tend, StoreTakes}
use Rattle.plain_types.specs.declared.script.Line.{Line}
use Rattle.plain_types.specs.declared.script.Line.TheVariants as line
use Rattle.reply_text.specs.Answer.{mode_text}
use Rattle.reply_text.specs.Count.{count_line}

-- a name of a path
abbrev pub part_text : List ℕ → List ℕ
part_text name = codes "/" ++ name

-- a path: `/`, or each name behind a `/`
abbrev pub path_text : List (List ℕ) → List ℕ
path_text [] = codes "/"
path_text (name ∷ names) = flat_map part_text (name ∷ names)

-- whether a handle may write
abbrev pub access_text : Bool → List ℕ
access_text writable = if writable then codes " w" else codes " r"

-- a client's line without the client
abbrev pub line_text : Line → List ℕ
line_text (line.Mkdir path) = codes "mkdir " ++ path_text path
line_text (line.Rmdir path) = codes "rmdir " ++ path_text path
line_text (line.Create path mode) = codes "create " ++ path_text path ++ codes " " ++ mode_text mode
line_text (line.Unlink path) = codes "unlink " ++ path_text path
line_text (line.Link path target) = codes "link " ++ path_text path ++ codes " " ++ path_text target
line_text (line.Rename path target) = codes "rename " ++ path_text path ++ codes " " ++ path_text target
line_text (line.Chmod path mode) = codes "chmod " ++ path_text path ++ codes " " ++ mode_text mode
line_text (line.Open handle path writable) = codes "open " ++ decimal handle ++ codes " " ++ path_text path ++ access_text writable
line_text (line.Close handle) = codes "close " ++ decimal handle
line_text (line.Write handle offset bytes) = codes "write " ++ decimal handle ++ codes " " ++ decimal offset ++ codes " " ++ encode_lower bytes
line_text (line.Truncate handle length) = codes "truncate " ++ decimal handle ++ codes " " ++ decimal length
line_text (line.Read handle) = codes "read " ++ decimal handle
line_text (line.Cat path) = codes "cat " ++ path_text path
line_text (line.Stat path) = codes "stat " ++ path_text path
line_text (line.List path) = codes "ls " ++ path_text path
line_text (line.Realm path) = codes "realm " ++ path_text path
line_text (line.Clones path index) = codes "clones " ++ path_text path ++ codes " " ++ decimal index
line_text line.Barrier = codes "barrier"
line_text line.Break = codes "break"

-- a line and its client
abbrev pub client_line : ℕ × Line → List ℕ
client_line asked = decimal asked.0 ++ codes " " ++ line_text asked.1 ++ codes "\n"

-- the size of an object, where the script says it
abbrev pub object_line : Option ℕ → List ℕ
object_line None = []
object_line (Some size) = count_line (codes "objsize") size

-- after how many entries the server restarts, and how many of those buffered then it keeps
abbrev pub restart_line : ℕ × ℕ → List ℕ
restart_line restart = codes "restart " ++ decimal restart.0 ++ codes " " ++ decimal restart.1 ++ codes "\n"

-- a node: 0 is the server, the one behind the last client is the store, and the others are the clients
abbrev pub node_text : ℕ → ℕ → List ℕ
node_text clients node =
    if node == 0 then codes "server"
    else (if node == clients + 1 then codes "store"
    else decimal node)

-- a step, as a schedule spells it
abbrev pub step_text : ℕ → Step → List ℕ
step_text clients (Op client) = codes "op " ++ decimal client
step_text clients (Flush client) = codes "flush " ++ decimal client
step_text clients (ClientFromServer client) = codes "take " ++ decimal client ++ codes " server"
step_text clients (ClientFromStore client) = codes "take " ++ decimal client ++ codes " store"
step_text clients (ServerTakes node) = codes "take server " ++ node_text clients node
step_text clients Commit = codes "commit"
step_text clients (Restart kept) = codes "restart " ++ decimal kept
step_text clients Tend = codes "tend"
step_text clients (StoreTakes node) = codes "take store " ++ node_text clients node

-- the step of an event
abbrev pub event_line : ℕ → Event → List ℕ
event_line clients event = step_text clients event.step ++ codes "\n"

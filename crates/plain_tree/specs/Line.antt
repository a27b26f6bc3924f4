-- What each line of a client comes to, over a plain state that has its bytes.
use Rattle.std.specs.Prelude.{ℕ, ◌+◌, length, not, if◌then◌else◌, Option, None, Some, Result, Ok, Err}
use Rattle.snap_ids.specs.declared.id.SnapId.{SnapId}
use Rattle.plain_types.specs.declared.answer.Answer.{Answer}
use Rattle.plain_types.specs.declared.answer.Answer.TheVariants.{Done, Snap, Opened, Refused, FileBytes}
use Rattle.plain_types.specs.declared.answer.Refusal.{Refusal}
use Rattle.plain_types.specs.declared.answer.Refusal.TheVariants.{BadHandle, ReadOnly, TooLarge}
use Rattle.plain_types.specs.declared.change.Change.{Change}
use Rattle.plain_types.specs.declared.change.Change.TheVariants as change
use Rattle.plain_types.specs.declared.request.Request.{Request}
use Rattle.plain_types.specs.declared.request.Request.TheVariants as request
use Rattle.plain_types.specs.declared.script.Line.{Line}
use Rattle.plain_types.specs.declared.script.Line.TheVariants as line
use Rattle.plain_tree.specs.State.{State, Handle}
use Rattle.plain_tree.specs.Change.{open_of, is_too_large}
use Rattle.plain_tree.specs.Query.{bytes_in}
use Rattle.plain_tree.specs.Request.{change_asked}

-- what the server is asked for a line of the tree; `barrier` has its number from the lines before it, and the others are
-- the client's own
abbrev pub request_of : Line → Option Request
request_of (line.Mkdir path) = Some (request.Mkdir path)
request_of (line.Rmdir path) = Some (request.Rmdir path)
request_of (line.Create path mode) = Some (request.Create path mode)
request_of (line.Unlink path) = Some (request.Unlink path)
request_of (line.Link path target) = Some (request.Link path target)
request_of (line.Rename path target) = Some (request.Rename path target)
request_of (line.Chmod path mode) = Some (request.Chmod path mode)
request_of (line.Open handle path writable) = Some (request.Open handle path writable)
request_of (line.Close handle) = Some (request.Close handle)
request_of (line.Cat path) = Some (request.Cat path)
request_of (line.Stat path) = Some (request.Stat path)
request_of (line.List path) = Some (request.List path)
request_of (line.Realm path) = Some (request.Realm path)
request_of (line.Clones path index) = Some (request.Clones path index)
request_of (line.Write handle offset bytes) = None
request_of (line.Truncate handle size) = None
request_of (line.Read handle) = None
request_of line.Barrier = None
request_of line.Break = None

-- a change of an open file's bytes, where they end at this size
abbrev pub data_change : Option Handle → ℕ → Change → Result Change Refusal
data_change None size made = Err BadHandle
data_change (Some opened) size made =
    if not opened.writable then Err ReadOnly
    else (if is_too_large size then Err TooLarge
    else Ok made)

-- what a request of a line comes to, where it is one for a change
abbrev pub server_change : State → ℕ → SnapId → Option Request → Option (Result Change Refusal)
server_change state client id None = None
server_change state client id (Some asked) = change_asked state client id asked

-- the change that a client's line comes to, or why not; other lines make none
abbrev pub change_by : State → ℕ → SnapId → Line → Option (Result Change Refusal)
change_by state client id (line.Write handle offset bytes) =
    Some (data_change (open_of state.handles client handle) (offset + length bytes) (change.WriteFile handle offset bytes))
change_by state client id (line.Truncate handle size) =
    Some (data_change (open_of state.handles client handle) size (change.Truncate handle size))
change_by state client id line = server_change state client id (request_of line)

-- the answer to a change that succeeded
abbrev pub answer_to : Change → Answer
answer_to (change.Mksnap id dir name) = Snap id
answer_to (change.OpenFile handle ino writable) = Opened ino
answer_to change = Done

-- the answer to what a change comes to
abbrev pub change_answer : Result Change Refusal → Answer
change_answer (Ok change) = answer_to change
change_answer (Err refusal) = Refused refusal

-- the answer to `read`
abbrev pub read_answer : State → Option Handle → Answer
read_answer state None = Refused BadHandle
read_answer state (Some opened) = FileBytes (bytes_in state opened.ino)

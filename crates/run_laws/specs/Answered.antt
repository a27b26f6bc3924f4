-- What the journal and the answers on the way say of a client's requests that are made.
use Rattle.std.specs.Prelude.{◌≡◌, ◌≤◌, ℕ, ◌+◌, Bool, true, false, List, [], ◌∷◌, ◌++◌, drop, take, if◌then◌else◌, ◌==◌, Option, None, Some, IfSome}
use Rattle.plain_types.specs.declared.answer.Answer.{Answer}
use Rattle.plain_types.specs.declared.answer.Answer.TheVariants.{Refused}
use Rattle.plain_types.specs.declared.change.Change.{Change}
use Rattle.plain_types.specs.declared.change.Change.TheVariants as change
use Rattle.plain_types.specs.declared.entry.Entry.{Entry}
use Rattle.plain_types.specs.declared.entry.What.{What}
use Rattle.plain_types.specs.declared.message.ToClient.{ToClient}
use Rattle.plain_types.specs.declared.message.ToClient.TheVariants.{Reply}
use Rattle.plain_types.specs.declared.request.Request.{Request}
use Rattle.plain_types.specs.declared.request.Request.TheVariants as request
use Rattle.plain_journal.specs.Entries.{change_in}
use Rattle.plain_journal.specs.Table.{last_effect}
use Rattle.step_table.specs.Requests.{kept_for}
use Rattle.step_table.specs.ServerState.{Server}
use Rattle.step_table.specs.ClientState.{open_request}
use Rattle.step_table.specs.ClientTakes.{is_success}
use Rattle.run_laws.specs.Links.{View, mail_of}
use Rattle.run_laws.specs.Requests.{IsTid, is_of, AllUpTo}

-- No effect of a client has a number above the last one that it gave.
abbrev pub NotAbove : View
NotAbove n c up down s = AllUpTo n c.tid s.entries

-- each effect of a client among these entries has the number of what the client has open
abbrev pub AllOpen : ℕ → Option (ℕ × Request) → List Entry → Type 0
AllOpen n o [] = Unit {0}
AllOpen n o (e ∷ entries) = (is_of n e ≡ true → IsTid o e.number) × AllOpen n o entries

-- how many effects of a client there are among entries
abbrev pub effects_of : ℕ → List Entry → ℕ
effects_of n [] = 0
effects_of n (e ∷ entries) = if is_of n e then effects_of n entries + 1 else effects_of n entries

-- the entries that aren't durable
abbrev pub undurable : Server → List Entry
undurable s = drop s.durable s.entries

-- An effect of a client that isn't durable is of the request that the client has open, and there is one at most.
abbrev pub Undurable : View
Undurable n c up down s = AllOpen n (open_request c.under) (undurable s) × (effects_of n (undurable s) ≤ 1)

-- The request can make the change. Where a directory is made or removed it may be a snapshot that is.
abbrev pub CanMake : Request → Change → Type 0
CanMake (request.Mkdir path) (change.Mkdir dir name ino) = Unit {0}
CanMake (request.Mkdir path) (change.Mksnap id dir name) = Unit {0}
CanMake (request.Rmdir path) (change.Rmdir dir name) = Unit {0}
CanMake (request.Rmdir path) (change.Rmsnap id) = Unit {0}
CanMake (request.Create path mode) (change.Create dir name ino given) = given ≡ mode
CanMake (request.Unlink path) (change.Unlink dir name) = Unit {0}
CanMake (request.Link path target) (change.Link ino dir name) = Unit {0}
CanMake (request.Rename path target) (change.Rename dir name to_dir to_name) = Unit {0}
CanMake (request.Chmod path mode) (change.Chmod ino given) = given ≡ mode
CanMake (request.Open handle path writable) (change.OpenFile opened ino can_write) = (opened ≡ handle) × (can_write ≡ writable)
CanMake (request.Close handle) (change.CloseFile closed) = closed ≡ handle
CanMake asked made = ⊥

-- so the entry says a change that this request can make, if it says one
abbrev pub IsMadeBy : Request → What → Type 0
IsMadeBy asked what = IfSome (change_in what) (CanMake asked)

-- and so do all effects of a client with the number of its request
abbrev pub AllMadeBy : ℕ → ℕ → Request → List Entry → Type 0
AllMadeBy n tid asked [] = Unit {0}
AllMadeBy n tid asked (e ∷ entries) = (is_of n e ≡ true → e.number ≡ tid → IsMadeBy asked e.what) × AllMadeBy n tid asked entries

-- Where the open request of a client has its effect, the entry is what this request can make.
abbrev pub AsAsked : View
AsAsked n c up down s = IfSome (open_request c.under) (λ r. AllMadeBy n r.0 r.1 s.entries)

-- the request asks for a change
abbrev pub asks_change : Request → Bool
asks_change (request.Cat path) = false
asks_change (request.Stat path) = false
asks_change (request.List path) = false
asks_change (request.Realm path) = false
asks_change (request.Clones path index) = false
asks_change (request.Cap ino mode) = false
asks_change (request.Barrier number) = false
asks_change asked = true

-- the answer that these entries keep for a client's request of this number
abbrev pub kept_of : ℕ → ℕ → List Entry → Option Answer
kept_of n tid entries = kept_for tid (last_effect entries n)

-- the request asks for a capability
abbrev pub asks_capability : Request → Bool
asks_capability (request.Cap ino mode) = true
asks_capability asked = false

abbrev pub is_refusal : Answer → Bool
is_refusal (Refused refusal) = true
is_refusal said = false

-- A request is answered with what is kept for it. Where nothing is, the answer is no success, a change is refused, and a
-- request for a capability isn't answered so: it is granted.
abbrev pub ByKept : Request → Option Answer → Answer → Type 0
ByKept asked (Some kept) said = said ≡ kept
ByKept asked None said = (is_success asked said ≡ false) × (asks_change asked ≡ true → is_refusal said ≡ true) × (asks_capability asked ≡ false)

-- a reply of this connection is so, and its stamp counts the entry of which the answer is kept
abbrev pub RepliesAsKept : ℕ → ℕ → ℕ × Request → List Entry → ToClient → Type 0
RepliesAsKept n conn r entries (Reply number tid stamp said) =
    (number == conn) ≡ true
    → ByKept r.1 (kept_of n r.0 entries) said × (kept_of n r.0 (take stamp.entry entries) ≡ kept_of n r.0 entries)
RepliesAsKept n conn r entries m = Unit {0}

abbrev pub AllAsKept : ℕ → ℕ → ℕ × Request → List Entry → List ToClient → Type 0
AllAsKept n conn r entries [] = Unit {0}
AllAsKept n conn r entries (m ∷ down) = RepliesAsKept n conn r entries m × AllAsKept n conn r entries down

-- A reply on the way to a client to its open request is the answer that the journal keeps for it. Where it keeps none, the
-- reply says no success, one to a change is a refusal, and none is to a request for a capability.
abbrev pub AsKept : View
AsKept n c up down s = IfSome (open_request c.under) (λ r. AllAsKept n c.conn r s.entries (down ++ mail_of n s.mail))

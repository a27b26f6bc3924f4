-- What is asked by one client, wherever it stands.
use Rattle.std.specs.Prelude.{◌≡◌, ◌<◌, ◌≤◌, ℕ, ◌+◌, Bool, true, List, [], ◌∷◌, ◌++◌, ◌==◌, ◌&&◌, if◌then◌else◌, Option, None, Some, is_some}
use Rattle.plain_types.specs.declared.change.Change.{Change}
use Rattle.plain_types.specs.declared.entry.Entry.{Entry}
use Rattle.plain_types.specs.declared.message.ToClient.{ToClient}
use Rattle.plain_types.specs.declared.message.ToClient.TheVariants.{Reply, Grant}
use Rattle.plain_types.specs.declared.message.ToServer.{ToServer}
use Rattle.plain_types.specs.declared.message.ToServer.TheVariants.{Connect, Ask}
use Rattle.plain_types.specs.declared.request.Request.{Request}
use Rattle.plain_tree.specs.Line.{answer_to}
use Rattle.plain_journal.specs.Entries.{change_in}
use Rattle.step_table.specs.ServerState.{Asked, Server, all_connected}
use Rattle.step_table.specs.Acts.{AnswerIt, of_client, as_list}
use Rattle.step_table.specs.ClientState.{Client, open_request}
use Rattle.step_table.specs.Requests.{treat}
use Rattle.run_laws.specs.Links.{View, mail_of}

-- this is what is open
abbrev pub IsIt : Option (ℕ × Request) → ℕ → Request → Type 0
IsIt None tid request = ⊥
IsIt (Some r) tid request = (tid ≡ r.0) × (request ≡ r.1)

-- this is the number of what is open
abbrev pub IsTid : Option (ℕ × Request) → ℕ → Type 0
IsTid None tid = ⊥
IsTid (Some r) tid = tid ≡ r.0

-- what is open has the last number
abbrev pub OpenAt : ℕ → Option (ℕ × Request) → Type 0
OpenAt tid None = Unit {0}
OpenAt tid (Some r) = r.0 ≡ tid

-- requests on the way to the server
abbrev pub AskedAt : Option (ℕ × Request) → ToServer → Type 0 → Type 0
AskedAt o (Ask conn tid request) Rest = IsIt o tid request × Rest
AskedAt o message Rest = Rest

abbrev pub AllAsked : Option (ℕ × Request) → List ToServer → Type 0
AllAsked o [] = Unit {0}
AllAsked o (m ∷ up) = AskedAt o m (AllAsked o up)

abbrev pub ask_at : ToServer → ℕ → ℕ
ask_at (Ask conn tid request) rest = rest + 1
ask_at message rest = rest

-- how many requests, and how many Connects
abbrev pub asks : List ToServer → ℕ
asks [] = 0
asks (m ∷ up) = ask_at m (asks up)

abbrev pub connect_at : ToServer → ℕ → ℕ
connect_at (Connect conn claims flushes asked) rest = rest + 1
connect_at message rest = rest

abbrev pub connects : List ToServer → ℕ
connects [] = 0
connects (m ∷ up) = connect_at m (connects up)

-- requests at the server
abbrev pub AllOf : ℕ → Option (ℕ × Request) → List Asked → Type 0
AllOf n o [] = Unit {0}
AllOf n o (a ∷ list) = (of_client n a ≡ true → IsIt o a.tid a.request) × AllOf n o list

abbrev pub count : ℕ → List Asked → ℕ
count n [] = 0
count n (a ∷ list) = if of_client n a then count n list + 1 else count n list

-- answers on the way to the client: the connection number and the request's
abbrev pub answer_to_tid : ToClient → Option (ℕ × ℕ)
answer_to_tid (Reply conn tid stamp answer) = Some (conn, tid)
answer_to_tid (Grant conn tid stamp ino mode size file) = Some (conn, tid)
answer_to_tid message = None

abbrev pub AnsweredAt : ℕ → Option (ℕ × Request) → Option (ℕ × ℕ) → Type 0
AnsweredAt conn o None = Unit {0}
AnsweredAt conn o (Some a) = (a.0 == conn) ≡ true → IsTid o a.1

abbrev pub AllAnswered : ℕ → Option (ℕ × Request) → List ToClient → Type 0
AllAnswered conn o [] = Unit {0}
AllAnswered conn o (m ∷ down) = AnsweredAt conn o (answer_to_tid m) × AllAnswered conn o down

abbrev pub answer_at : ℕ → Option (ℕ × ℕ) → ℕ → ℕ
answer_at conn None rest = rest
answer_at conn (Some a) rest = if a.0 == conn then rest + 1 else rest

-- how many of a connection
abbrev pub answers : ℕ → List ToClient → ℕ
answers conn [] = 0
answers conn (m ∷ down) = answer_at conn (answer_to_tid m) (answers conn down)

-- the request in hand, those held and deferred, and that of the outstanding operation
abbrev pub places : ℕ → Option Asked → List Asked → List Asked → Option Asked → ℕ
places n hand held deferred operation = count n (as_list hand) + count n held + count n deferred + count n (as_list operation)

-- Whatever is asked anywhere is the open request, and it stands at one place at most: on the way to the server, at the
-- server, or answered on the way back. `base` is the connection of the last Connect that the server took.
pub record RequestedAt (n : ℕ) (o : Option (ℕ × Request)) (tid conn : ℕ) (q : List ToServer) (p : List ToClient) (hand : Option Asked) (held deferred : List Asked) (operation : Option Asked) : Type 0 where
  pub base : ℕ
  pub number : base + connects q ≡ conn
  pub opened : OpenAt tid o
  pub up : AllAsked o q
  pub in_hand : AllOf n o (as_list hand)
  pub in_held : AllOf n o held
  pub in_deferred : AllOf n o deferred
  pub in_operation : AllOf n o (as_list operation)
  pub down : AllAnswered conn o p
  pub one : asks q + places n hand held deferred operation + answers base p ≤ 1

abbrev pub Requested : ℕ → Client → List ToServer → List ToClient → Server → Type 0
Requested n c up down s =
    RequestedAt n (open_request c.under) c.tid c.conn up (down ++ mail_of n s.mail) s.hand s.held s.deferred s.operation

-- an entry with an effect of a client
abbrev pub is_of : ℕ → Entry → Bool
is_of n e = is_some (change_in e.what) && e.client == n

-- no number of a client's effects is above one; each is above it; each is above those before
abbrev pub AllUpTo : ℕ → ℕ → List Entry → Type 0
AllUpTo n most [] = Unit {0}
AllUpTo n most (e ∷ entries) = (is_of n e ≡ true → e.number ≤ most) × AllUpTo n most entries

abbrev pub AllAbove : ℕ → ℕ → List Entry → Type 0
AllAbove n least [] = Unit {0}
AllAbove n least (e ∷ entries) = (is_of n e ≡ true → least < e.number) × AllAbove n least entries

abbrev pub Rising : ℕ → List Entry → Type 0
Rising n [] = Unit {0}
Rising n (e ∷ entries) = (is_of n e ≡ true → AllAbove n e.number entries) × Rising n entries

-- and each is below it
abbrev pub AllLess : ℕ → ℕ → List Entry → Type 0
AllLess n most [] = Unit {0}
AllLess n most (e ∷ entries) = (is_of n e ≡ true → e.number < most) × AllLess n most entries

-- the effects of a client's requests have rising numbers: no request has two
abbrev pub Once : View
Once n c up down s = Rising n s.entries

-- A request that had its effect is answered with the answer that the effect has, whenever it is treated again, and has no
-- other.
abbrev pub Repeats : View
Repeats n c up down s =
    (before later : List Entry) (e : Entry) (made : Change) (alone : Bool) (a : Asked)
    → s.entries ≡ before ++ e ∷ later → e.client ≡ n → e.number ≡ c.tid → change_in e.what ≡ Some made
    → a.client ≡ n → a.tid ≡ c.tid → all_connected s ≡ true
    → treat alone s a ≡ AnswerIt (answer_to made) ∷ []

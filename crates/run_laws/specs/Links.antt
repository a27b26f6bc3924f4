-- What stands between one client and the server: connection numbers in both directions.
use Rattle.std.specs.Prelude.{◌≡◌, ◌<◌, ◌≤◌, ℕ, ◌+◌, Bool, true, List, [], ◌∷◌, ◌++◌, map, ◌==◌, if◌then◌else◌, Option, None, Some, IfSome, ◌⊎◌, nat_lt}
use Rattle.plain_types.specs.declared.history.Sent.{Sent}
use Rattle.plain_types.specs.declared.message.Claim.{Claim}
use Rattle.plain_types.specs.declared.message.FlushMsg.{FlushMsg}
use Rattle.plain_types.specs.declared.message.ToClient.{ToClient}
use Rattle.plain_types.specs.declared.message.ToClient.TheVariants.{Reply, Grant, Recall, Notice, FlushAck, Welcome, Restarted}
use Rattle.plain_types.specs.declared.message.ToServer.{ToServer}
use Rattle.plain_types.specs.declared.message.ToServer.TheVariants.{Connect, Ask, Flush, DropRead}
use Rattle.plain_types.specs.declared.request.Request.{Request}
use Rattle.held_files.specs.Files.{claims}
use Rattle.step_table.specs.ServerState.{Server, number_of, connection}
use Rattle.step_table.specs.ClientState.{Client, open_request}
use Rattle.step_table.specs.ClientTakes.{conn_of}
use Rattle.step_table.specs.World.{World, client, to_clients}

-- the messages of one client's channel
abbrev pub mine : {M : Type 0} → ℕ → List (ℕ × M) → List M
mine n [] = []
mine n (m ∷ channels) = if m.0 == n then m.1 ∷ mine n channels else mine n channels

-- those that the server has made for a client and hasn't sent
abbrev pub mail_of : ℕ → List (ℕ × Sent) → List ToClient
mail_of n mail = mine n (to_clients (map (λ (m : ℕ × Sent). m.1) mail))

-- what a client's Connect says, with its connection number
pub record Offer : Type 0 where
  pub conn : ℕ
  pub frozen : Bool
  pub claims : List Claim
  pub flushes : List FlushMsg
  pub asked : Option (ℕ × Request)

abbrev pub offer : Client → Offer
offer c = record { conn = c.conn; frozen = c.frozen; claims = claims c.files; flushes = c.unacked; asked = open_request c.under }

-- a Connect with this number that says what the client offers now
pub record IsOffer (o : Offer) (k conn : ℕ) (said : List Claim) (brought : List FlushMsg) (with : Option (ℕ × Request)) : Type 0 where
  pub number : conn ≡ k
  pub claims : said ≡ o.claims
  pub flushes : brought ≡ o.flushes
  pub asked : with ≡ o.asked

-- behind a Connect stand Connects alone, numbered up to the client's own number
abbrev pub BehindAt : Offer → ℕ → ToServer → Type 0 → Type 0
BehindAt o k (Connect conn said flushes asked) Rest = IsOffer o (k + 1) conn said flushes asked × Rest
BehindAt o k message Rest = ⊥

abbrev pub Behind : Offer → ℕ → List ToServer → Type 0
Behind o k [] = k ≡ o.conn
Behind o k (m ∷ up) = BehindAt o k m (Behind o (k + 1) up)

-- The numbers on the way to the server, from the last one that it took a Connect of: the messages before the first Connect
-- have that number, and the Connects have the next ones. A client that has a Connect on the way is frozen.
abbrev pub UpAt : Offer → ℕ → ToServer → Type 0 → Type 0 → Type 0
UpAt o k (Connect conn said flushes asked) Same Next = (o.frozen ≡ true) × IsOffer o (k + 1) conn said flushes asked × Next
UpAt o k (Ask conn tid request) Same Next = (conn ≡ k) × Same
UpAt o k (Flush conn f) Same Next = (conn ≡ k) × Same
UpAt o k (DropRead conn ino) Same Next = (conn ≡ k) × Same
UpAt o k message Same Next = ⊥

abbrev pub Up : Offer → ℕ → List ToServer → Type 0
Up o k [] = k ≡ o.conn
Up o k (m ∷ up) = UpAt o k m (Up o k up) (Behind o (k + 1) up)

-- what a message of the server is to the numbers: it has none, or one, or is the Welcome of one
pub data Mark : Type 0 where
  Free : Mark
  Number Hail : ℕ → Mark

abbrev pub mark : ToClient → Mark
mark (Reply conn tid stamp answer) = Number conn
mark (Grant conn tid stamp ino mode size file) = Number conn
mark (Recall conn stamp ino) = Number conn
mark (Notice conn stamp update) = Number conn
mark (FlushAck conn stamp number) = Number conn
mark (Welcome conn stamp flushed update) = Hail conn
mark (Restarted stamp) = Free

-- all that is on the way is of this connection, and no Welcome
abbrev pub IsNow : ℕ → Mark → Type 0
IsNow conn Free = Unit {0}
IsNow conn (Number n) = n ≡ conn
IsNow conn (Hail n) = ⊥

abbrev pub AllNow : ℕ → List ToClient → Type 0
AllNow conn [] = Unit {0}
AllNow conn (m ∷ down) = IsNow conn (mark m) × AllNow conn down

-- all of it is of older connections
abbrev pub IsOld : ℕ → Mark → Type 0
IsOld conn Free = Unit {0}
IsOld conn (Number n) = n < conn
IsOld conn (Hail n) = n < conn

abbrev pub AllOld : ℕ → List ToClient → Type 0
AllOld conn [] = Unit {0}
AllOld conn (m ∷ down) = IsOld conn (mark m) × AllOld conn down

-- old ones, then the Welcome, then ones of this connection
abbrev pub HailedAt : ℕ → Mark → Type 0 → Type 0 → Type 0
HailedAt conn Free Rest Now = Rest
HailedAt conn (Number n) Rest Now = (n < conn) × Rest
HailedAt conn (Hail n) Rest Now = ((n < conn) × Rest) ⊎ ((n ≡ conn) × Now)

abbrev pub Hailed : ℕ → List ToClient → Type 0
Hailed conn [] = ⊥
Hailed conn (m ∷ down) = HailedAt conn (mark m) (Hailed conn down) (AllNow conn down)

-- the numbers of messages never fall, from one on, and none is above another
abbrev pub OrderedAt : ℕ → Option ℕ → (ℕ → Type 0) → Type 0
OrderedAt low None Rest = Rest low
OrderedAt low (Some n) Rest = (low ≤ n) × Rest n

abbrev pub Ordered : ℕ → ℕ → List ToClient → Type 0
Ordered low high [] = low ≤ high
Ordered low high (m ∷ down) = OrderedAt low (conn_of m) (λ next. Ordered next high down)

-- the server's number for the client, if it has one: no greater, the same, lower
abbrev pub AtMost : ℕ → Option ℕ → Type 0
AtMost n None = Unit {0}
AtMost n (Some k) = k ≤ n

abbrev pub Same : ℕ → Option ℕ → Type 0
Same n None = Unit {0}
Same n (Some k) = k ≡ n

abbrev pub Below : ℕ → Option ℕ → Type 0
Below n None = Unit {0}
Below n (Some k) = k < n

-- the highest number that is in use at the server
abbrev pub highest : ℕ → Option ℕ → ℕ
highest base None = base
highest base (Some k) = k

-- The three standings of a link. It flows: the server has taken the client's last Connect, and what comes is of that
-- connection.
pub record Flowing (o : Offer) (b : ℕ) (k : Option ℕ) (p : List ToClient) : Type 0 where
  pub base : b ≡ o.conn
  pub number : Same o.conn k
  pub down : AllNow o.conn p

-- The client asks: its last Connect is on the way, and what comes is old.
pub record Asking (o : Offer) (k : Option ℕ) (p : List ToClient) : Type 0 where
  pub frozen : o.frozen ≡ true
  pub number : Below o.conn k
  pub down : AllOld o.conn p

-- It is hailed: the Welcome is on the way.
pub record Hailing (o : Offer) (b : ℕ) (k : Option ℕ) (p : List ToClient) : Type 0 where
  pub frozen : o.frozen ≡ true
  pub base : b ≡ o.conn
  pub number : Same o.conn k
  pub down : Hailed o.conn p

-- A client's link: what it offers, what is on its way to the server, the server's number for it, and what is on the way to
-- it, the mail that the server hasn't sent last.
pub record Link (o : Offer) (q : List ToServer) (k : Option ℕ) (p : List ToClient) : Type 0 where
  pub base : ℕ
  pub known : AtMost base k
  pub up : Up o base q
  pub order : Ordered 0 (highest base k) p
  pub down : Flowing o base k p ⊎ (Asking o k p ⊎ Hailing o base k p)

-- a statement about each client, its two channels with the server, and the server
abbrev pub View : Type 1
View = ℕ → Client → List ToServer → List ToClient → Server → Type 0

abbrev pub EachClient : View → World → Type 0
EachClient I w = (n : ℕ) → IfSome (client w.clients n) (λ c. I n c (mine n w.up) (mine n w.down) w.server)

abbrev pub Linked : ℕ → Client → List ToServer → List ToClient → Server → Type 0
Linked n c up down s = Link (offer c) up (number_of s.current n) (down ++ mail_of n s.mail)

-- the numbers on the way to a client never fall, and none is above its own
abbrev pub Numbered : View
Numbered n c up down s = Ordered 0 c.conn down

-- a Connect that comes next has a number above the server's for the client
abbrev pub Heard : View
Heard n c up down s =
    (conn : ℕ) (said : List Claim) (flushes : List FlushMsg) (asked : Option (ℕ × Request)) (rest : List ToServer)
    → up ≡ Connect conn said flushes asked ∷ rest → nat_lt (connection s n) conn ≡ true

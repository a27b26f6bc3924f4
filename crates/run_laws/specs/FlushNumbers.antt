-- The numbers of one client's flushes: as they stand in the journal, as the client keeps them, and on their way.
use Rattle.std.specs.Prelude.{◌≡◌, ◌≤◌, ℕ, ◌+◌, Bool, true, ◌&&◌, ◌==◌, nat_lt, List, [], ◌∷◌, filter, take, if◌then◌else◌, IfSome, fold, ◌++◌}
use Rattle.plain_types.specs.declared.entry.Entry.{Entry}
use Rattle.plain_types.specs.declared.message.FlushMsg.{FlushMsg}
use Rattle.plain_types.specs.declared.message.ToClient.{ToClient}
use Rattle.plain_types.specs.declared.message.ToClient.TheVariants.{FlushAck, Welcome}
use Rattle.plain_types.specs.declared.message.ToServer.{ToServer}
use Rattle.plain_types.specs.declared.message.ToServer.TheVariants.{Flush}
use Rattle.plain_journal.specs.Table.{is_flush, last_flush}
use Rattle.step_table.specs.Messages.{to_server_fits}
use Rattle.step_table.specs.ServerState.{number_of, is_current}
use Rattle.step_table.specs.Flushes.{knows_file, flush_entry}
use Rattle.run_laws.specs.Links.{View, mail_of}

-- an entry that is a flush of a client
abbrev pub is_flush_of : ℕ → Entry → Bool
is_flush_of n e = is_flush e.what && e.client == n

-- the number of a client's last flush after one more entry
abbrev pub next_flush : ℕ → ℕ → Entry → ℕ
next_flush n last e = if is_flush_of n e then e.number else last

-- behind a number, the client's flushes among the entries have the next numbers, one by one
abbrev pub Counted : ℕ → ℕ → List Entry → Type 0
Counted n last [] = Unit {0}
Counted n last (e ∷ entries) = (is_flush_of n e ≡ true → e.number ≡ last + 1) × Counted n (next_flush n last e) entries

-- In the journal a client's flushes are numbered 1, 2, .. without a gap and none twice, and none that it didn't send.
abbrev pub NoGap : View
NoGap n c up down s = Counted n 0 s.entries × (last_flush s.entries n ≤ c.flushes)

-- the flushes with a number above one
abbrev pub above : ℕ → List FlushMsg → List FlushMsg
above low flushes = filter (λ (f : FlushMsg). nat_lt low f.number) flushes

-- flushes with the numbers behind `low`, one by one, up to `high`
abbrev pub Follow : ℕ → ℕ → List FlushMsg → Type 0
Follow low high [] = low ≡ high
Follow low high (f ∷ flushes) = (f.number ≡ low + 1) × Follow (low + 1) high flushes

-- What a client has sent and what isn't durable is among what it keeps, one by one up to its last flush: so what it counts
-- as acknowledged is durable.
abbrev pub Kept : View
Kept n c up down s =
    let last = last_flush (take s.durable s.entries) n in Follow last c.flushes (above last c.unacked)

-- what a message acknowledges, these entries have
abbrev pub Bound : ℕ → List Entry → ToClient → Type 0
Bound n entries (FlushAck conn stamp number) = number ≤ last_flush entries n
Bound n entries (Welcome conn stamp flushed update) = flushed ≤ last_flush entries n
Bound n entries m = Unit {0}

abbrev pub AllBound : ℕ → List Entry → List ToClient → Type 0
AllBound n entries [] = Unit {0}
AllBound n entries (m ∷ down) = Bound n entries m × AllBound n entries down

-- What is acknowledged on the way to the client is durable.
abbrev pub Acknowledged : View
Acknowledged n c up down s = AllBound n (take s.durable s.entries) down

-- entries of this flush's number, of its client, say what it says
abbrev pub AgreeAt : ℕ → FlushMsg → List Entry → Type 0
AgreeAt n f [] = Unit {0}
AgreeAt n f (e ∷ entries) = (is_flush_of n e ≡ true → e.number ≡ f.number → e.what ≡ flush_entry f) × AgreeAt n f entries

abbrev pub AllAgree : ℕ → List Entry → List FlushMsg → Type 0
AllAgree n entries [] = Unit {0}
AllAgree n entries (f ∷ flushes) = AgreeAt n f entries × AllAgree n entries flushes

-- Where the journal has a flush that the client keeps, it has it as it was sent.
abbrev pub AsSent : View
AsSent n c up down s = AllAgree n s.entries c.unacked

-- the flushes of a connection on their way to the server
abbrev pub flush_at : ℕ → ToServer → List FlushMsg → List FlushMsg
flush_at k (Flush conn f) rest = if conn == k then f ∷ rest else rest
flush_at k message rest = rest

abbrev pub flushes_of : ℕ → List ToServer → List FlushMsg
flushes_of k [] = []
flushes_of k (m ∷ up) = flush_at k m (flushes_of k up)

-- Where a client is connected, what is on its way of this connection is what it keeps behind the last flush that the
-- server took.
abbrev pub OnTheWay : View
OnTheWay n c up down s =
    IfSome (number_of s.current n) (λ k. flushes_of k up ≡ above (last_flush s.entries n) c.unacked)

-- A flush of the current connection that comes next has the number behind the last one that the server took: none comes
-- twice, and none is left out.
abbrev pub ComesNext : View
ComesNext n c up down s =
    (conn : ℕ) (f : FlushMsg) (rest : List ToServer)
    → up ≡ Flush conn f ∷ rest → is_current s n conn ≡ true → f.number ≡ last_flush s.entries n + 1

-- A flush that comes next is of a file that the server knows, and its numbers can be.
abbrev pub IsTaken : View
IsTaken n c up down s =
    (conn : ℕ) (f : FlushMsg) (rest : List ToServer)
    → up ≡ Flush conn f ∷ rest → (to_server_fits (Flush conn f) ≡ true) × (knows_file s f.ino ≡ true)

-- the number up to which a message of a connection acknowledges, and what it has to be: a Welcome says up to where, and each
-- acknowledgement is of the next flush
abbrev pub next_ack : ℕ → ℕ → ToClient → ℕ
next_ack conn last (FlushAck k stamp number) = if k == conn then number else last
next_ack conn last (Welcome k stamp flushed update) = if k == conn then flushed else last
next_ack conn last m = last

abbrev pub IsNext : ℕ → ℕ → ToClient → Type 0
IsNext conn last (FlushAck k stamp number) = (k == conn) ≡ true → number ≡ last + 1
IsNext conn last m = Unit {0}

abbrev pub AllNext : ℕ → ℕ → List ToClient → Type 0
AllNext conn last [] = Unit {0}
AllNext conn last (m ∷ down) = IsNext conn last m × AllNext conn (next_ack conn last m) down

-- the number up to which messages acknowledge
abbrev pub last_ack : ℕ → ℕ → List ToClient → ℕ
last_ack conn last down = fold (next_ack conn) last down

-- Acknowledgements of the client's connection go on one by one, and where the server has this connection they end at the
-- last flush that it took.
abbrev pub InTurn : View
InTurn n c up down s =
    let all = down ++ mail_of n s.mail in
    (first : ℕ) × AllNext c.conn first all
    × IfSome (number_of s.current n) (λ k. (k == c.conn) ≡ true → last_ack c.conn first all ≡ last_flush s.entries n)

-- The script that a seed makes: clients that write files, and snapshots that are made, read and removed.
use Rattle.std.specs.Prelude.{ℕ, zero, suc, ◌+◌, ◌-◌, ◌*◌, ◌/◌, ◌%◌, nat_lt, nat_le, true, if◌then◌else◌, List, [], ◌∷◌, ◌++◌, codes, decimal, None}
use Rattle.plain_types.specs.declared.script.Line.{Line}
use Rattle.plain_types.specs.declared.script.Line.TheVariants as line
use Rattle.plain_types.specs.declared.script.Script.{Script}

-- the state of the generator, one draw later
abbrev pub next : ℕ → ℕ
next x = (x * 6364136223846793005 + 1442695040888963407) % 18446744073709551616

-- so many draws later
unfoldable pub after : ℕ → ℕ → ℕ
after zero x = x
after (suc n) x = after n (next x)

-- the number below n that was drawn: the state's 31 upper bits, modulo n
abbrev pub drawn : ℕ → ℕ → ℕ
drawn n x = x / 8589934592 % n

-- the bytes that so many draws give
unfoldable pub drawn_bytes : ℕ → ℕ → List ℕ
drawn_bytes zero x = []
drawn_bytes (suc n) x = drawn 256 (next x) ∷ drawn_bytes n (next x)

-- a letter and a number
abbrev pub named : List ℕ → ℕ → List ℕ
named letter n = letter ++ decimal n

-- a client's file, in a directory of its own
abbrev pub file_of : ℕ → List (List ℕ)
file_of client = named (codes "c") client ∷ codes "f" ∷ []

-- a round's snapshot of all
abbrev pub snapshot_of : ℕ → List (List ℕ)
snapshot_of round = codes ".snap" ∷ named (codes "r") round ∷ []

-- what a client does first
abbrev pub opening : ℕ → List (ℕ × Line)
opening client =
    (client, line.Mkdir (named (codes "c") client ∷ []))
    ∷ (client, line.Create (file_of client) 420)
    ∷ (client, line.Open 1 (file_of client) true)
    ∷ (client, line.Barrier)
    ∷ []

-- what n clients from this one on do first
abbrev pub openings : ℕ → ℕ → List (ℕ × Line)
openings zero client = []
openings (suc n) client = opening client ++ openings n (client + 1)

-- n clients from this one on write 8 drawn bytes at a drawn offset
abbrev pub writes : ℕ → ℕ → ℕ → List (ℕ × Line)
writes zero client x = []
writes (suc n) client x =
    (client, line.Write 1 (drawn 4096 (next x)) (drawn_bytes 8 (next x))) ∷ writes n (client + 1) (after 9 x)

-- n clients from this one on wait
abbrev pub waits : ℕ → ℕ → List (ℕ × Line)
waits zero client = []
waits (suc n) client = (client, line.Barrier) ∷ waits n (client + 1)

-- from the fifth round on, the snapshot of four rounds before is removed
abbrev pub removal : ℕ → ℕ → List (ℕ × Line)
removal client round = if nat_lt 4 round then (client, line.Rmdir (snapshot_of (round - 4))) ∷ [] else []

-- a round: all write, the clients in turn make a snapshot, all wait, and that client reads a drawn client's file in it
unfoldable pub round_of : ℕ → ℕ → ℕ → List (ℕ × Line)
round_of clients round x =
    let turn = (round - 1) % clients + 1 in
    let other = drawn clients (next (after (9 * clients) x)) + 1 in
    writes clients 1 x
    ++ (turn, line.Mkdir (snapshot_of round)) ∷ waits clients 1
    ++ (turn, line.Cat (snapshot_of round ++ file_of other)) ∷ removal turn round

-- how many lines a round has
abbrev pub round_length : ℕ → ℕ → ℕ
round_length clients round = 2 * clients + (if nat_lt 4 round then 3 else 2)

-- the rounds from this one on that fit whole in so many lines, at most n
unfoldable pub rounds : ℕ → ℕ → ℕ → ℕ → ℕ → List (ℕ × Line)
rounds zero clients round x room = []
rounds (suc n) clients round x room =
    if nat_le (round_length clients round) room
    then round_of clients round x ++ rounds n clients (round + 1) (after (9 * clients + 1) x) (room - round_length clients round)
    else []

-- the script of a seed, for so many clients, in at most so many lines
abbrev pub load_of : ℕ → ℕ → ℕ → Script
load_of seed clients lines = record {
  clients = clients;
  object = None;
  restarts = [];
  lines = openings clients 1 ++ rounds lines clients 1 seed (lines - 4 * clients);
  schedule = [];
  input_lines = 0;
}

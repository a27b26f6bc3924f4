-- Who holds which file, and what a request, a release, a flush and a new connection make of it.
use Rattle.std.specs.Prelude.{◌≡◌, ℕ, Bool, true, false, not, ◌&&◌, ◌||◌, ◌==◌, nat_lt, max, List, [], ◌∷◌, ◌++◌, if◌then◌else◌, Option, None, Some, IsTrue, map, filter, find, option_map}
use Rattle.std.specs.List.{AllByRecursion, list_any}
use Rattle.snap_ids.specs.declared.id.Ino.{Ino}
use Rattle.snap_ids.specs.declared.id.SnapId.{SnapId}
use Rattle.snap_ids.specs.declared.values.Mode.{Mode}
use Rattle.snap_ids.specs.declared.values.Mode.TheVariants.{Read, Write}
use Rattle.plain_types.specs.declared.message.Claim.{Claim}
use Rattle.cap_state.specs.declared.caps.Asked.{Asked}
use Rattle.cap_state.specs.declared.caps.Asked.TheVariants.{Grant, Recall}

-- a holding: the client, and what it holds
abbrev pub Holding : Type 0
Holding = ℕ × Claim

-- the mode lets a client change a file
abbrev pub writes : Mode → Bool
writes Read = false
writes Write = true

-- a holding of the file
abbrev pub is_of : Ino → Holding → Bool
is_of ino h = h.1.ino.0 == ino.0

-- the client's holding of the file
abbrev pub is_at : ℕ → Ino → Holding → Bool
is_at client ino h = h.0 == client && is_of ino h

-- the client's holding of the file, for Write
abbrev pub is_writer : ℕ → Ino → Holding → Bool
is_writer client ino h = is_at client ino h && writes h.1.mode

-- the holdings of a file
abbrev pub holders_of : Ino → List Holding → List Holding
holders_of ino held = filter (is_of ino) held

-- the holding stands before the client's of the file, by inode and then client
abbrev pub stands_before : ℕ → Ino → Holding → Bool
stands_before client ino h = if h.1.ino.0 == ino.0 then nat_lt h.0 client else nat_lt h.1.ino.0 ino.0

-- the holding stands behind it
abbrev pub stands_behind : ℕ → Ino → Holding → Bool
stands_behind client ino h = if h.1.ino.0 == ino.0 then nat_lt client h.0 else nat_lt ino.0 h.1.ino.0

-- two holdings of one file, of which one is for Write
abbrev pub clash : Holding → Holding → Bool
clash g h = is_of g.1.ino h && (writes g.1.mode || writes h.1.mode)

-- a holding stands before another, and the two don't clash
pub record MayPrecede (g h : Holding) : Type 0 where
  pub before : IsTrue (stands_before h.0 h.1.ino g)
  pub apart : clash g h ≡ false

-- by inode and then client, each once, and never a holder for Write beside another holder of its file
abbrev pub IsTable : List Holding → Type 0
IsTable [] = Unit {0}
IsTable (h ∷ held) = AllByRecursion (MayPrecede h) held × IsTable held

-- what stands before a holding, the holding, and what stands behind it: it takes the place of the client's old one
abbrev pub with_holding : Holding → List Holding → List Holding
with_holding h held = filter (stands_before h.0 h.1.ino) held ++ h ∷ filter (stands_behind h.0 h.1.ino) held

-- another client's holding of a file conflicts with a mode: asking for Write conflicts with every other one, and asking
-- for Read with one for Write
abbrev pub conflicts : ℕ → Mode → Holding → Bool
conflicts client mode h = not (h.0 == client) && (writes mode || writes h.1.mode)

-- the clients whose holdings conflict, in the order of the holdings
abbrev pub against : ℕ → Ino → Mode → List Holding → List ℕ
against client ino mode held = map (λ h. h.0) (filter (conflicts client mode) (holders_of ino held))

-- a request is granted where nobody is against it
abbrev pub answer_by : List ℕ → Asked
answer_by [] = Grant
answer_by (c ∷ clients) = Recall (c ∷ clients)

abbrev pub answer_to : ℕ → Ino → Mode → List Holding → Asked
answer_to client ino mode held = answer_by (against client ino mode held)

-- the mode in which a client holds a file
abbrev pub mode_of : ℕ → Ino → List Holding → Option Mode
mode_of client ino held = option_map (λ h. h.1.mode) (find (is_at client ino) held)

-- what is held lets a client do what it asks for
abbrev pub suffices : Option Mode → Mode → Bool
suffices None mode = false
suffices (Some old) mode = writes old || not (writes mode)

-- what is held after a grant. A client that holds Write, or Read and asks for Read, keeps its holding as it is; else it
-- holds the file in this mode from now on, settled up to the last applied id: a new holding, or a Read raised to Write
abbrev pub granted : ℕ → Claim → List Holding → List Holding
granted client claim held =
    if suffices (mode_of client claim.ino held) claim.mode then held else with_holding (client, claim) held

-- what is held after a request: nothing changes where somebody is against it
abbrev pub after_by : List ℕ → List Holding → List Holding → List Holding
after_by [] held granted = granted
after_by (c ∷ clients) held granted = held

abbrev pub after_ask : ℕ → Ino → Mode → SnapId → List Holding → List Holding
after_ask client ino mode applied held =
    after_by (against client ino mode held) held (granted client (record { ino = ino; mode = mode; settled = applied }) held)

-- what is held after a client let a file go
abbrev pub without : ℕ → Ino → List Holding → List Holding
without client ino held = filter (λ h. not (is_at client ino h)) held

-- a claim whose settled id is raised to an id, where it is below
abbrev pub raised : SnapId → Claim → Claim
raised upto claim = record { ino = claim.ino; mode = claim.mode; settled = record { 0 = max upto.0 claim.settled.0 } }

-- what is held after a flush: a client's holding for Write is settled up to there
abbrev pub flushed : ℕ → Ino → SnapId → List Holding → List Holding
flushed client ino upto held = map (λ h. if is_writer client ino h then (h.0, raised upto h.1) else h) held

-- the holder of a file for Write, and the id up to which its holding is settled
abbrev pub writer_of : Ino → List Holding → Option (ℕ × SnapId)
writer_of ino held = option_map (λ h. (h.0, h.1.settled)) (find (λ h. writes h.1.mode) (holders_of ino held))

-- a holding of a file stands in the way of a client's claim: it is the client's own, or it conflicts
abbrev pub bars : ℕ → Mode → Holding → Bool
bars client mode h = h.0 == client || (writes mode || writes h.1.mode)

-- nothing stands in its way
abbrev pub is_free : ℕ → Claim → List Holding → Bool
is_free client claim held = not (list_any (bars client claim.mode) (holders_of claim.ino held))

-- what is held after some claims of a client, one after the other: each is held where it may be, so of several claims of a
-- file the first that conflicts with nobody's holding
abbrev pub claimed : ℕ → List Claim → List Holding → List Holding
claimed client [] held = held
claimed client (claim ∷ claims) held =
    claimed client claims (if is_free client claim held then with_holding (client, claim) held else held)

-- the holdings of all other clients
abbrev pub of_others : ℕ → List Holding → List Holding
of_others client held = filter (λ h. not (h.0 == client)) held

-- what is held after a client connected anew with these claims
abbrev pub rebuilt : ℕ → List Claim → List Holding → List Holding
rebuilt client claims held = claimed client claims (of_others client held)

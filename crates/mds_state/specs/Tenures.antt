-- What the calls on holdings and marks leave.
use Rattle.std.specs.Prelude.{◌≡◌, ℕ, Bool, true, false, not, ◌==◌, List, filter, if◌then◌else◌, Option, None, Some}
use Rattle.snap_ids.specs.declared.id.Ino.{Ino}
use Rattle.snap_ids.specs.declared.id.SnapId.{SnapId}
use Rattle.snap_ids.specs.declared.values.Mode.{Mode}
use Rattle.snap_ids.specs.declared.values.Mode.TheVariants.{Read, Write}
use Rattle.plain_types.specs.declared.message.Claim.{Claim}
use Rattle.cap_state.specs.Table as table
use Rattle.cap_state.specs.Table.{mode_of, suffices, after_ask, answer_to}
use Rattle.cap_state.specs.declared.caps.Asked.TheVariants.{Grant, Recall}
use Rattle.mds_state.specs.declared.tenures.Given.{Given}
use Rattle.mds_state.specs.declared.tenures.Given.TheVariants.{Held, Raised, Against}
use Rattle.mds_state.specs.Parts.{TenureParts, is_mark}

-- a Read that is held is raised to Write
abbrev pub raises_to : Option Mode → Mode → Bool
raises_to None mode = false
raises_to (Some Write) mode = false
raises_to (Some Read) Write = true
raises_to (Some Read) Read = false

-- the marks without those of a client at a file
abbrev pub unmark : ℕ → Ino → List (ℕ × Ino) → List (ℕ × Ino)
unmark client ino marks = filter (λ mark. not (is_mark client ino mark)) marks

-- the marks after a grant: what suffices is held on, and else held anew
abbrev pub marks_given : ℕ → Ino → Mode → TenureParts → List (ℕ × Ino)
marks_given client ino mode t = if suffices (mode_of client ino t.holdings) mode then t.marks else unmark client ino t.marks

abbrev pub granted_parts : ℕ → Ino → Mode → SnapId → TenureParts → TenureParts
granted_parts client ino mode applied t =
    record { holdings = after_ask client ino mode applied t.holdings; marks = marks_given client ino mode t }

-- what a grant is to a client that held the file so
abbrev pub IsGivenBy : Option Mode → Mode → Given → Type 0
IsGivenBy was mode Held = raises_to was mode ≡ false
IsGivenBy was mode Raised = raises_to was mode ≡ true
IsGivenBy was mode (Against clients) = ⊥

-- what comes of a request for a file, and what it leaves
abbrev pub Asks : Given → ℕ → Ino → Mode → SnapId → TenureParts → TenureParts → Type 0
Asks Held client ino mode applied old new =
    (answer_to client ino mode old.holdings ≡ Grant) × (raises_to (mode_of client ino old.holdings) mode ≡ false)
    × (new ≡ granted_parts client ino mode applied old)
Asks Raised client ino mode applied old new =
    (answer_to client ino mode old.holdings ≡ Grant) × (raises_to (mode_of client ino old.holdings) mode ≡ true)
    × (new ≡ granted_parts client ino mode applied old)
Asks (Against clients) client ino mode applied old new =
    (answer_to client ino mode old.holdings ≡ Recall clients)
    × (new ≡ record { holdings = after_ask client ino mode applied old.holdings; marks = old.marks })

-- a file is let go, and isn't to be given back any more
abbrev pub let_go_parts : ℕ → Ino → TenureParts → TenureParts
let_go_parts client ino t = record { holdings = table.without client ino t.holdings; marks = unmark client ino t.marks }

-- the marks without those of a client
abbrev pub unmark_all : ℕ → List (ℕ × Ino) → List (ℕ × Ino)
unmark_all client marks = filter (λ (mark : ℕ × Ino). not (mark.0 == client)) marks

-- a client comes back with what it claims
abbrev pub rebuilt_parts : ℕ → List Claim → TenureParts → TenureParts
rebuilt_parts client claims t =
    record { holdings = table.rebuilt client claims t.holdings; marks = unmark_all client t.marks }

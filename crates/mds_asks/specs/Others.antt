-- Clients that hold a file against a request, and what comes of that.
use Rattle.std.specs.Prelude.{◌≡◌, ◌≤◌, ℕ, Bool, true, false, ◌==◌, List, [], ◌∷◌, Option, None, Some}
use Rattle.std.specs.List.{list_any}
use Rattle.snap_ids.specs.declared.id.Ino.{Ino}
use Rattle.snap_ids.specs.declared.values.Mode.{Mode}
use Rattle.step_table.specs.Acts.{acts}
use Rattle.step_table.specs.Capabilities.{against, give, in_conflict, recalls}
use Rattle.step_table.specs.Requests.{opens}
use Rattle.step_table.specs.ServerState.{Server}

-- each is one of so many clients, and none is named twice
abbrev pub AreOthers : ℕ → List ℕ → Type 0
AreOthers clients [] = Unit {0}
AreOthers clients (client ∷ others) =
    (1 ≤ client) × (client ≤ clients) × (list_any (λ (other : ℕ). other == client) others ≡ false) × AreOthers clients others

-- a client asked for a file: others have it, or nobody is against that, and what it is given opens something or not
abbrev pub IsAsked : Option Bool → Server → ℕ → Ino → Mode → Type 0
IsAsked None s client ino mode = in_conflict s client ino mode ≡ true
IsAsked (Some opened) s client ino mode =
    (in_conflict s client ino mode ≡ false) × (list_any opens (give s client ino mode) ≡ opened)

-- the state after it: those who have it are recalled, or the client holds it
abbrev pub after_asked : Option Bool → Server → ℕ → Ino → Mode → Server
after_asked None s client ino mode = acts s (recalls s ino (against s client ino mode))
after_asked (Some opened) s client ino mode = acts s (give s client ino mode)

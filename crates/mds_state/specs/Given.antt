-- What comes of a request for a file.
use Rattle.std.specs.Prelude.{◌≡◌, ℕ, true, false}
use Rattle.std.specs.List.{list_any}
use Rattle.snap_ids.specs.declared.id.Ino.{Ino}
use Rattle.snap_ids.specs.declared.values.Mode.{Mode}
use Rattle.step_table.specs.Acts.{acts}
use Rattle.step_table.specs.Capabilities.{against, give, in_conflict}
use Rattle.step_table.specs.Requests.{opens}
use Rattle.step_table.specs.ServerState.{Server}
use Rattle.mds_state.specs.declared.tenures.Given.{Given}
use Rattle.mds_state.specs.declared.tenures.Given.TheVariants.{Held, Raised, Against}

-- It is held where nobody is in conflict, raised where that raises a Read to Write, and else refused for all that are
-- against it.
abbrev pub IsGiven : Given → Server → ℕ → Ino → Mode → Type 0
IsGiven Held s client ino mode = (in_conflict s client ino mode ≡ false) × (list_any opens (give s client ino mode) ≡ false)
IsGiven Raised s client ino mode = (in_conflict s client ino mode ≡ false) × (list_any opens (give s client ino mode) ≡ true)
IsGiven (Against clients) s client ino mode = (in_conflict s client ino mode ≡ true) × (clients ≡ against s client ino mode)

-- the state after it
abbrev pub after_given : Given → Server → ℕ → Ino → Mode → Server
after_given Held s client ino mode = acts s (give s client ino mode)
after_given Raised s client ino mode = acts s (give s client ino mode)
after_given (Against clients) s client ino mode = s

-- What a rule's code leaves and answers.
use Rattle.std.specs.Prelude.{◌≡◌, Bool, List}
use Rattle.std.specs.List.{list_any}
use Rattle.step_table.specs.Acts.{Act, acts}
use Rattle.step_table.specs.Requests.{opens}
use Rattle.step_table.specs.ServerState.{Server}
use Rattle.mds_state.specs.Parts.{Parts}
use Rattle.mds_state.specs.Stands.{StandsFor}

-- the parts stand for a state of the table, with whatever it has in hand
abbrev pub Stands : Parts → Server → Type 0
Stands p s = StandsFor p s.hand s

-- it made these acts, and answers whether one of them opens something
abbrev pub Acted : Parts → Server → List Act → Bool → Type 0
Acted p s list opened = Stands p (acts s list) × (opened ≡ list_any opens list)

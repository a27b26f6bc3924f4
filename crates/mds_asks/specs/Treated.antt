-- What a rule leaves of the request in hand.
use Rattle.std.specs.Prelude.{◌≡◌, false, List, [], ◌∷◌, ◌++◌, Some}
use Rattle.std.specs.List.{list_any}
use Rattle.step_table.specs.Acts.{Act, Wait, acts}
use Rattle.step_table.specs.Requests.{opens}
use Rattle.step_table.specs.ServerState.{Asked, Server}
use Rattle.mds_state.specs.Acted.{Acted}
use Rattle.mds_state.specs.Parts.{Parts}
use Rattle.mds_state.specs.Stands.{StandsFor}
use Rattle.mds_asks.specs.declared.treated.Treated.{Treated}
use Rattle.mds_asks.specs.declared.treated.Treated.TheVariants.{Done, Waits}

-- all acts were made but the last one, with which the request is held
pub record HoldsNext (p : Parts) (a : Asked) (s : Server) (list : List Act) : Type 0 where
  pub made : List Act
  pub same : made ++ Wait ∷ [] ≡ list
  pub opens_nothing : list_any opens made ≡ false
  pub stands : StandsFor p (Some a) (acts s made)

-- the acts were made, or all but that
abbrev pub IsTreated : Parts → Asked → Server → List Act → Treated → Type 0
IsTreated p a s list (Done opened) = Acted p s list opened
IsTreated p a s list Waits = HoldsNext p a s list

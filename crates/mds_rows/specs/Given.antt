-- What the code of a row leaves and answers.
use Rattle.std.specs.Prelude.{◌≡◌, true, List, map, Option, None, Some}
use Rattle.std.specs.List.{list_all}
use Rattle.plain_types.specs.declared.change.Effect.{Effect}
use Rattle.plain_types.specs.declared.history.Sent.{Sent}
use Rattle.step_table.specs.Messages.{plain_sent}
use Rattle.step_table.specs.Row.{Row}
use Rattle.step_table.specs.ServerState.{Server}
use Rattle.mds_state.specs.Parts.{Parts}
use Rattle.mds_state.specs.Stands.{StandsFor, sent_traces_fit}

-- the parts stand for the row's state, and what is sent is what the row sends, all but the traces in it, which give the
-- same contexts and can be
pub record Gives (p : Parts) (sent : List Sent) (row : Row Server) : Type 0 where
  pub stands : StandsFor p None row.state
  pub sends : map plain_sent sent ≡ map plain_sent row.sent
  pub traces : list_all sent_traces_fit sent ≡ true

-- and the changes that take effect are those of the row
pub record GivesAll (p : Parts) (made : List Effect) (sent : List Sent) (row : Row Server) : Type 0 where
  pub gives : Gives p sent row
  pub effects : made ≡ row.effects

-- there is no row and the parts stand for the state as before, or there is one and it is given
abbrev pub GivesAny : Parts → Server → Option (List Sent) → Option (Row Server) → Type 0
GivesAny p s None None = StandsFor p None s
GivesAny p s None (Some row) = ⊥
GivesAny p s (Some sent) None = ⊥
GivesAny p s (Some sent) (Some row) = Gives p sent row

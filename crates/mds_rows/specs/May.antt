-- Of which parts rows are made.
use Rattle.std.specs.Prelude.{ℕ, None}
use Rattle.plain_types.specs.declared.message.ToServer.{ToServer}
use Rattle.step_table.specs.ServerRows.{taken_from}
use Rattle.step_table.specs.ServerState.{Server}
use Rattle.mds_state.specs.Fits.{AllPast}
use Rattle.mds_state.specs.Parts.{Parts}
use Rattle.mds_state.specs.Stands.{StandsFor}
use Rattle.mds_rows.specs.Ready.{AsksAlone, IsCalm, MayTake, MayTend}

-- the parts stand for a state that can take a message of a client
pub record CanTake (p : Parts) (client : ℕ) (message : ToServer) : Type 0 where
  pub state : Server
  pub stands : StandsFor p None state
  pub may : MayTake state client message

-- for one in which the background turn can be made
pub record CanTurn (p : Parts) : Type 0 where
  pub state : Server
  pub stands : StandsFor p None state
  pub may : MayTend state

-- a message whose numbers can be is taken in such a state
pub record MayTakeFrom (s : Server) (client : ℕ) (message : ToServer) : Type 0 where
  pub calm : IsCalm s
  pub alone : AsksAlone s client message
  pub past : AllPast (taken_from s client message).state.entries

pub record CanTakeFrom (p : Parts) (client : ℕ) (message : ToServer) : Type 0 where
  pub state : Server
  pub stands : StandsFor p None state
  pub may : MayTakeFrom state client message

-- A request that comes into the hand.
use Rattle.std.specs.Prelude.{Option, None, Some}
use Rattle.step_table.specs.ServerState.{Asked, Server}
use Rattle.mds_state.specs.Parts.{Parts}
use Rattle.mds_state.specs.Acted.{Stands}
use Rattle.mds_state.specs.Fits.{IsFit, WaitingFit}

-- it fits, and so do those that wait
pub record MayTakeIn (p : Parts) (a : Asked) : Type 0 where
  pub state : Server
  pub stands : Stands p state
  pub fit : IsFit state a
  pub waiting : WaitingFit state

-- what a connection brings along fits
abbrev pub FitsBrought : Server → Option Asked → Type 0
FitsBrought s None = Unit {0}
FitsBrought s (Some a) = IsFit s a

pub record MayBring (p : Parts) (asked : Option Asked) : Type 0 where
  pub state : Server
  pub stands : Stands p state
  pub fit : FitsBrought state asked
  pub waiting : WaitingFit state

-- Of which states requests can be taken and decided anew.
use Rattle.std.specs.Prelude.{◌≡◌, ℕ, ◌+◌, Bool, false, List, ◌++◌, Option, None, Some}
use Rattle.std.specs.List.{list_any, AllByRecursion}
use Rattle.step_table.specs.Acts.{Act, acts, as_list, of_client}
use Rattle.step_table.specs.Requests.{decide_anew, then_held}
use Rattle.step_table.specs.ServerState.{Asked, Server}
use Rattle.mds_state.specs.Parts.{Parts}
use Rattle.mds_state.specs.Acted.{Stands, Acted}
use Rattle.mds_state.specs.Fits.{AllPast, IsFit, WaitingFit, OneEach}
use Rattle.mds_requests.specs.Passes.{after_ask, after_connect}

-- the request in hand, the held and the deferred ones, and that of the outstanding operation
abbrev pub at_server : Server → List Asked
at_server s = as_list s.hand ++ (s.held ++ (s.deferred ++ as_list s.operation))

-- the request in hand fits
abbrev pub HandFits : Server → Type 0
HandFits s = AllByRecursion (IsFit s) (as_list s.hand)

-- the requests that wait fit, no client has two that are held, and each flush is past in a later state
pub record IsReady (s : Server) (later : Server) : Type 0 where
  pub fit : WaitingFit s
  pub once : OneEach s.held
  pub past : AllPast later.entries

-- the held requests of such a state can be decided anew
pub record MayDecide (p : Parts) : Type 0 where
  pub state : Server
  pub stands : Stands p state
  pub ready : IsReady state (acts state (decide_anew state))

-- the same after some acts, of which some opened something or none did
pub record MayGoOn (p : Parts) (many : ℕ) (opened : Bool) : Type 0 where
  pub state : Server
  pub done : List Act
  pub acted : Acted p state done opened
  pub ready : IsReady (acts state done) (acts state (then_held (2 + many) state done))

-- a request fits, and its client has none that is held
pub record IsNew (s : Server) (a : Asked) : Type 0 where
  pub fit : IsFit s a
  pub alone : list_any (of_client a.client) s.held ≡ false

-- a state in which a request can be taken
pub record MayAsk (p : Parts) (a : Asked) : Type 0 where
  pub state : Server
  pub stands : Stands p state
  pub new : IsNew state a
  pub ready : IsReady state (after_ask state a)

-- what a connection brings along is so
abbrev pub IsNewBrought : Server → Option Asked → Type 0
IsNewBrought s None = Unit {0}
IsNewBrought s (Some a) = IsNew s a

-- a state in which that can be taken
pub record MayConnect (p : Parts) (asked : Option Asked) : Type 0 where
  pub state : Server
  pub stands : Stands p state
  pub new : IsNewBrought state asked
  pub ready : IsReady state (after_connect state asked)

-- What the server's state has to be before a row.
use Rattle.std.specs.Prelude.{◌≡◌, ℕ, true, false, Option, None, Some}
use Rattle.std.specs.List.{list_any}
use Rattle.plain_types.specs.declared.history.Step.{Step}
use Rattle.plain_types.specs.declared.history.Step.TheVariants as step
use Rattle.plain_types.specs.declared.message.Message.{Message}
use Rattle.plain_types.specs.declared.message.Message.TheVariants as message
use Rattle.plain_types.specs.declared.message.ToServer.{ToServer}
use Rattle.plain_types.specs.declared.message.ToServer.TheVariants.{Ask}
use Rattle.step_table.specs.Acts.{of_client}
use Rattle.step_table.specs.Nodes.{server_row}
use Rattle.step_table.specs.Row.{Row}
use Rattle.step_table.specs.ServerRows.{on_take, on_tend}
use Rattle.step_table.specs.ServerState.{Server, is_current}
use Rattle.mds_state.specs.Fits.{AllPast, OneEach, WaitingFit}
use Rattle.mds_requests.specs.Ready.{at_server}
use Rattle.mds_turns.specs.Turned.{AsksForIt}

-- the requests that wait are of clients and for files that were made, and no client has two at the server
pub record IsCalm (s : Server) : Type 0 where
  pub fit : WaitingFit s
  pub once : OneEach (at_server s)

-- the state after a row, the same where there is none
abbrev pub after : Server → Option (Row Server) → Server
after s None = s
after s (Some row) = row.state

-- a request that comes over the client's connection is of a client that has none that is held
abbrev pub AsksAlone : Server → ℕ → ToServer → Type 0
AsksAlone s client (Ask conn tid asked) = is_current s client conn ≡ true → list_any (of_client client) s.held ≡ false
AsksAlone s client message = Unit {0}

-- a message of a client can be taken: after the row each flush still came when all ids that it names were made
pub record MayTake (s : Server) (client : ℕ) (message : ToServer) : Type 0 where
  pub calm : IsCalm s
  pub alone : AsksAlone s client message
  pub past : AllPast (on_take s client message).state.entries

-- the background turn can be made: the request of the outstanding operation asks for what is prepared
pub record MayTend (s : Server) : Type 0 where
  pub calm : IsCalm s
  pub asks : AsksForIt s
  pub past : AllPast (after s (on_tend s)).entries

-- a request that a step takes
abbrev pub TakesAlone : Server → Step → Option Message → Type 0
TakesAlone s (step.ServerTakes n) (Some (message.ToServer said)) = AsksAlone s n said
TakesAlone s step taken = Unit {0}

-- all this for a step of the server, whichever it is
pub record IsReadyFor (s : Server) (step : Step) (taken : Option Message) : Type 0 where
  pub calm : IsCalm s
  pub alone : TakesAlone s step taken
  pub asks : AsksForIt s
  pub past : AllPast (after s (server_row s step taken)).entries

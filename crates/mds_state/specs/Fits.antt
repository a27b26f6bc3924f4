-- Which requests the server can treat, and when its answers are the table's.
use Rattle.std.specs.Prelude.{◌≡◌, ◌≤◌, true, false, ◌==◌, List, [], ◌∷◌, ◌++◌, Some}
use Rattle.std.specs.List.{list_any, AllByRecursion}
use Rattle.snap_ids.specs.declared.id.Ino.{Ino}
use Rattle.plain_types.specs.declared.entry.Entry.{Entry}
use Rattle.journal_shapes.specs.Past.{flushes_are_past}
use Rattle.step_table.specs.Acts.{Act, acts, as_list}
use Rattle.step_table.specs.Flushes.{knows_asked}
use Rattle.step_table.specs.ServerState.{Asked, Server}
use Rattle.mds_state.specs.Parts.{Parts}
use Rattle.mds_state.specs.Stands.{StandsFor}
use Rattle.mds_state.specs.Acted.{Stands}

-- each flush of each file came when all ids that it names were made
abbrev pub AllPast : List Entry → Type 0
AllPast entries = (ino : Ino) → flushes_are_past entries ino ≡ true

-- a request is of one of the clients, and a file that it names was made
pub record IsFit (s : Server) (a : Asked) : Type 0 where
  pub from_one : 1 ≤ a.client
  pub upto : a.client ≤ s.clients
  pub known : knows_asked s a.request ≡ true

-- each request that waits is of one of the clients, and a file that it names was made
pub record WaitingFit (s : Server) : Type 0 where
  pub held : AllByRecursion (IsFit s) s.held
  pub deferred : AllByRecursion (IsFit s) s.deferred
  pub operation : AllByRecursion (IsFit s) (as_list s.operation)

-- no two of some requests are of one client
abbrev pub OneEach : List Asked → Type 0
OneEach [] = Unit {0}
OneEach (a ∷ more) = (list_any (λ (b : Asked). b.client == a.client) more ≡ false) × OneEach more

-- no client waits twice
abbrev pub WaitOnce : Server → Type 0
WaitOnce s = OneEach (s.held ++ s.deferred)

-- the parts stand for a state whose waiting requests fit
pub record IsSound (p : Parts) : Type 0 where
  pub state : Server
  pub stands : Stands p state
  pub fit : WaitingFit state

-- the parts stand for a state with this request in hand, which fits, as the requests that wait do
pub record MayTreat (p : Parts) (a : Asked) : Type 0 where
  pub state : Server
  pub stands : StandsFor p (Some a) state
  pub fit : IsFit state a
  pub waiting : WaitingFit state

-- some acts were made, and the requests that wait fit
pub record Goes (p : Parts) (s : Server) : Type 0 where
  pub list : List Act
  pub stands : Stands p (acts s list)
  pub fit : WaitingFit (acts s list)

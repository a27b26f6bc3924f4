-- What the background turn does, and when.
use Rattle.std.specs.Prelude.{◌≡◌, ℕ, Bool, true, List, [], ◌∷◌, filter, flat_map, if◌then◌else◌, Option, None, Some}
use Rattle.snap_ids.specs.declared.id.Ino.{Ino}
use Rattle.snap_ids.specs.declared.id.SnapId.{SnapId}
use Rattle.plain_types.specs.declared.entry.What.{What}
use Rattle.plain_types.specs.declared.entry.What.TheVariants.{Barrier, Trim}
use Rattle.plain_journal.specs.Table.{dead, outstanding}
use Rattle.held_files.specs.Files.{is_empty}
use Rattle.run_laws.specs.Prepared.{prepared, asks_for}
use Rattle.step_table.specs.Acts.{Act, Buffer, SendDelete, SendPurge, own_entry}
use Rattle.step_table.specs.Background.{first_file, holders_of, is_due, open_to}
use Rattle.step_table.specs.Capabilities.{recalls}
use Rattle.step_table.specs.ServerState.{Asked, Server, up_to}
use Rattle.mds_state.specs.Acted.{Acted, Stands}
use Rattle.mds_state.specs.Fits.{WaitingFit}
use Rattle.mds_state.specs.Parts.{Parts}

-- nothing was to be done and the state is the same, or these acts were made, and the answer is whether one of them opens
abbrev pub Turned : Parts → Server → Option (List Act) → Option Bool → Type 0
Turned p s None None = Stands p s
Turned p s None (Some opened) = ⊥
Turned p s (Some list) None = ⊥
Turned p s (Some list) (Some opened) = Acted p s list opened

-- a barrier is passed, a removed snapshot purged, a dead file collected
abbrev pub passing : Server → ℕ → List Act
passing s number = Buffer (own_entry (Barrier number)) ∷ flat_map open_to (up_to s.clients)

abbrev pub purging : SnapId → List Act
purging id = Buffer (own_entry (Trim id)) ∷ SendPurge id ∷ []

abbrev pub collecting : Server → Ino → List Act
collecting s ino = if is_empty (holders_of s ino) then SendDelete ino ∷ [] else recalls s ino (holders_of s ino)

-- the request of the outstanding operation asks for what is prepared
abbrev pub AsksForIt : Server → Type 0
AsksForIt s = (a : Asked) (said : What) → s.operation ≡ Some a → prepared s.entries ≡ Some said → asks_for said a.request ≡ true

-- the parts stand for a state
pub record IsAt (p : Parts) : Type 0 where
  pub state : Server
  pub stands : Stands p state

-- the same, and this is the dead file that is due
pub record IsDead (p : Parts) (ino : Ino) : Type 0 where
  pub state : Server
  pub stands : Stands p state
  pub first : first_file (filter (is_due state) (dead state.entries)) ≡ Some ino

-- the parts stand for a state whose waiting requests fit, and whose operation asks for what is prepared
pub record MayTurn (p : Parts) : Type 0 where
  pub state : Server
  pub stands : Stands p state
  pub fit : WaitingFit state
  pub asks : AsksForIt state

-- the same, with this operation outstanding
pub record MayTurnTo (p : Parts) (id : SnapId) : Type 0 where
  pub state : Server
  pub number : ℕ
  pub stands : Stands p state
  pub fit : WaitingFit state
  pub asks : AsksForIt state
  pub out : outstanding state.entries ≡ Some (id, number)

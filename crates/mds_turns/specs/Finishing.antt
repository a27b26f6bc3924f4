-- How the operation that was prepared is finished.
use Rattle.std.specs.Prelude.{◌≡◌, ℕ, Bool, true, false, not, ◌==◌, Option, Some, Result, Ok, Err}
use Rattle.snap_ids.specs.declared.id.SnapId.{SnapId}
use Rattle.plain_types.specs.declared.answer.Answer.TheVariants.{Refused}
use Rattle.plain_types.specs.declared.answer.Refusal.{Refusal}
use Rattle.plain_types.specs.declared.change.Change.{Change}
use Rattle.plain_types.specs.declared.entry.Entry.{Entry}
use Rattle.plain_types.specs.declared.entry.What.{What}
use Rattle.plain_types.specs.declared.entry.What.TheVariants.{Rmsnap, Rollback, Trim, Barrier}
use Rattle.plain_tree.specs.Request.{change_asked}
use Rattle.plain_journal.specs.Entries.{state_after}
use Rattle.plain_journal.specs.Legal.{is_given}
use Rattle.plain_journal.specs.Table.{outstanding}
use Rattle.meta_state.specs.Decisions.{IsWritten, IsLegal}
use Rattle.meta_state.specs.declared.decide.Decision.{Decision}
use Rattle.meta_state.specs.declared.decide.Decision.TheVariants.{Put, Say}
use Rattle.run_laws.specs.Prepared.{prepared, asks_for}
use Rattle.step_table.specs.ServerState.{Asked, Server}
use Rattle.mds_state.specs.Fits.{IsFit}
use Rattle.mds_state.specs.Parts.{Parts}
use Rattle.mds_state.specs.Stands.{StandsFor}

-- the server makes such an entry by itself, and it may follow any others
abbrev pub is_own : What → Bool
is_own (Rollback id) = true
is_own (Trim id) = true
is_own (Barrier number) = true
is_own said = false

-- an entry removes another snapshot than this
abbrev pub removes_another : What → SnapId → Bool
removes_another (Rmsnap now) id = not (now.0 == id.0)
removes_another said id = false

-- what the operation's request comes to, under the id that was prepared
abbrev pub comes_with : Server → Asked → SnapId → Option (Result Change Refusal)
comes_with s a id = change_asked (state_after s.entries) a.client id a.request

-- an operation with this id is outstanding, and the request asks for what was prepared
pub record IsPrepared (s : Server) (a : Asked) (id : SnapId) : Type 0 where
  pub number : ℕ
  pub out : outstanding s.entries ≡ Some (id, number)
  pub asks : (said : What) → prepared s.entries ≡ Some said → asks_for said a.request ≡ true

-- the request comes to a change, which this entry says
pub record Completes (s : Server) (a : Asked) (id : SnapId) (made : Change) (entry : Entry) : Type 0 where
  pub was : IsPrepared s a id
  pub given : is_given id ≡ true
  pub comes : comes_with s a id ≡ Some (Ok made)
  pub written : IsWritten a.client a.tid made entry
  pub legal : IsLegal s.entries id (Put entry)

-- it comes to this decision: an entry that says its change, or its refusal
abbrev pub Ends : Server → Asked → SnapId → Decision → Type 0
Ends s a id (Put entry) = (made : Change) × Completes s a id made entry
Ends s a id (Say answer) = (refusal : Refusal) × ((comes_with s a id ≡ Some (Err refusal)) × (answer ≡ Refused refusal))

-- the parts stand for a state with this request in hand, which fits and is that of the operation
pub record MayFinish (p : Parts) (a : Asked) (id : SnapId) : Type 0 where
  pub state : Server
  pub stands : StandsFor p (Some a) state
  pub fit : IsFit state a
  pub was : IsPrepared state a id

-- the same, and it comes to this decision
pub record MayEnd (p : Parts) (a : Asked) (id : SnapId) (decision : Decision) : Type 0 where
  pub state : Server
  pub stands : StandsFor p (Some a) state
  pub fit : IsFit state a
  pub ends : Ends state a id decision

-- the same, and it comes to a change that this entry says
pub record MayComplete (p : Parts) (a : Asked) (id : SnapId) (entry : Entry) : Type 0 where
  pub state : Server
  pub made : Change
  pub stands : StandsFor p (Some a) state
  pub fit : IsFit state a
  pub completes : Completes state a id made entry

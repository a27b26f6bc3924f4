-- What the decision on a request for a change says, and what may follow from it.
use Rattle.std.specs.Prelude.{◌≡◌, Bool, true, List, Option, None, Some, Result, Ok, Err}
use Rattle.plain_types.specs.declared.answer.Answer.{Answer}
use Rattle.plain_types.specs.declared.answer.Answer.TheVariants.{Done, Refused}
use Rattle.plain_types.specs.declared.answer.Refusal.{Refusal}
use Rattle.plain_types.specs.declared.change.Change.{Change}
use Rattle.plain_types.specs.declared.entry.Entry.{Entry}
use Rattle.plain_types.specs.declared.entry.What.{What}
use Rattle.plain_types.specs.declared.entry.What.TheVariants.{Mksnap, Rmsnap, PrepareCreate, PrepareDestroy}
use Rattle.plain_tree.specs.Line.{answer_to as answer_of}
use Rattle.plain_tree.specs.Request.{change_asked}
use Rattle.plain_journal.specs.Entries.{state_after}
use Rattle.plain_journal.specs.Legal.{is_given}
use Rattle.plain_journal.specs.Table.{next_snap}
use Rattle.journal_moments.specs.Moments.{is_live_snap}
use Rattle.meta_state.specs.Decisions.{IsWritten, IsLegal}
use Rattle.meta_state.specs.declared.decide.Decision.{Decision}
use Rattle.meta_state.specs.declared.decide.Decision.TheVariants.{Put, Say}
use Rattle.step_table.specs.Requests.{next_id}
use Rattle.step_table.specs.ServerState.{Asked, Server}
use Rattle.mds_state.specs.Fits.{IsFit}
use Rattle.mds_state.specs.Parts.{Parts}
use Rattle.mds_state.specs.Stands.{StandsFor}

-- what a request for a change comes to
abbrev pub comes_to : Server → Asked → Option (Result Change Refusal)
comes_to s a = change_asked (state_after s.entries) a.client (next_id s) a.request

-- the answer to the change that an entry says
abbrev pub answer_in : Option Change → Answer
answer_in None = Done
answer_in (Some made) = answer_of made

-- what prepares the change that an entry says, where that makes or removes a snapshot
abbrev pub prepared_in : What → Option What
prepared_in (Mksnap id dir name) = Some (PrepareCreate id)
prepared_in (Rmsnap id) = Some (PrepareDestroy id)
prepared_in said = None

-- the id of the snapshot that this prepares can be given, if it is a new one
abbrev pub can_be_given : What → Bool
can_be_given (PrepareCreate id) = is_given id
can_be_given said = true

-- This can be prepared after some entries, where no operation is outstanding and its id can be given: a new snapshot's has
-- the next id, and one that is to be removed is live.
abbrev pub CanPrepare : List Entry → What → Type 0
CanPrepare entries (PrepareCreate id) = id.0 ≡ next_snap entries
CanPrepare entries (PrepareDestroy id) = is_live_snap id (state_after entries).snaps ≡ true
CanPrepare entries said = ⊥

-- a request comes to a change, which this entry says
pub record IsMade (s : Server) (a : Asked) (made : Change) (entry : Entry) : Type 0 where
  pub comes : comes_to s a ≡ Some (Ok made)
  pub written : IsWritten a.client a.tid made entry
  pub legal : IsLegal s.entries (next_id s) (Put entry)

-- a request comes to this decision: an entry that says its change, or its refusal
abbrev pub IsDecided : Server → Asked → Decision → Type 0
IsDecided s a (Put entry) = (made : Change) × IsMade s a made entry
IsDecided s a (Say answer) = (refusal : Refusal) × ((comes_to s a ≡ Some (Err refusal)) × (answer ≡ Refused refusal))

-- the parts stand for a state with this request in hand, which fits, and this prepares it
pub record MayPrepare (p : Parts) (a : Asked) (said : What) : Type 0 where
  pub state : Server
  pub stands : StandsFor p (Some a) state
  pub fit : IsFit state a
  pub can : CanPrepare state.entries said

-- the same, and the request comes to a change that this entry says
pub record MayMake (p : Parts) (a : Asked) (entry : Entry) : Type 0 where
  pub state : Server
  pub made : Change
  pub stands : StandsFor p (Some a) state
  pub fit : IsFit state a
  pub is : IsMade state a made entry

-- the same, and it comes to this decision
pub record MayDecide (p : Parts) (a : Asked) (decision : Decision) : Type 0 where
  pub state : Server
  pub stands : StandsFor p (Some a) state
  pub fit : IsFit state a
  pub is : IsDecided state a decision

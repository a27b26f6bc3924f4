-- What a request comes to.
use Rattle.std.specs.Prelude.{◌≡◌, ◌&&◌, nat_lt, ℕ, Bool, true, false, is_some, List, Option, None, Some, Result, Ok, Err}
use Rattle.snap_ids.specs.declared.id.SnapId.{SnapId}
use Rattle.snap_ids.specs.declared.memory.NoMemory.{NoMemory}
use Rattle.plain_types.specs.declared.answer.Answer.{Answer}
use Rattle.plain_types.specs.declared.answer.Answer.TheVariants.{Done, Refused}
use Rattle.plain_types.specs.declared.answer.Refusal.{Refusal}
use Rattle.plain_types.specs.declared.change.Change.{Change}
use Rattle.plain_types.specs.declared.change.Change.TheVariants.{WriteFile, Truncate}
use Rattle.plain_types.specs.declared.entry.Entry.{Entry}
use Rattle.plain_types.specs.declared.entry.What.{What}
use Rattle.plain_types.specs.declared.entry.What.TheVariants.{Mksnap}
use Rattle.plain_types.specs.declared.request.Query.{Query}
use Rattle.plain_types.specs.declared.request.Query.TheVariants as query
use Rattle.plain_types.specs.declared.request.Request.{Request}
use Rattle.plain_types.specs.declared.request.Request.TheVariants as request
use Rattle.plain_journal.specs.Answers.{answer_to}
use Rattle.plain_journal.specs.Entries.{change_in, applied}
use Rattle.plain_journal.specs.Legal.{is_legal, is_given}
use Rattle.change_plan.specs.Causes.{has_name}
use Rattle.meta_state.specs.Queries.{IsPast}
use Rattle.meta_state.specs.declared.decide.Decision.{Decision}
use Rattle.meta_state.specs.declared.decide.Decision.TheVariants.{Put, Say}

-- the entry writes down a change that a client asked for under a number
pub record IsWritten (client number : ℕ) (change : Change) (entry : Entry) : Type 0 where
  pub of_client : entry.client ≡ client
  pub of_request : entry.number ≡ number
  pub says : change_in entry.what ≡ Some change

-- the decision is to write such an entry down
abbrev pub IsPut : ℕ → ℕ → Change → Decision → Type 0
IsPut client number change (Put entry) = IsWritten client number change entry
IsPut client number change (Say answer) = ⊥

-- a new snapshot can have this id: it is above that of the last one, and below 2^62
abbrev pub is_free_id : List Entry → SnapId → Bool
is_free_id entries id = nat_lt (applied entries) id.0 && is_given id

-- where an entry makes a snapshot, that can have this id
abbrev pub CanHaveId : List Entry → SnapId → What → Type 0
CanHaveId entries id (Mksnap made dir name) = is_free_id entries id ≡ true
CanHaveId entries id what = Unit {0}

-- the entry that is to be written down may follow these entries, where a snapshot that it makes can have this id
abbrev pub IsLegal : List Entry → SnapId → Decision → Type 0
IsLegal entries id (Put entry) = CanHaveId entries id entry.what → is_legal entries entry ≡ true
IsLegal entries id (Say answer) = Unit {0}

-- the query that a request is: one for a change, for a capability or for a barrier is none
abbrev pub query_of : Request → Option Query
query_of (request.Cat path) = Some (query.Cat path)
query_of (request.Stat path) = Some (query.Stat path)
query_of (request.List path) = Some (query.List path)
query_of (request.Realm path) = Some (query.Realm path)
query_of (request.Clones path index) = Some (query.Clones path index)
query_of asked = None

-- the answer to a query after the entries, and Done where there is none
abbrev pub answer_of : List Entry → Option Query → Answer
answer_of entries None = Done
answer_of entries (Some asked) = answer_to entries asked

-- the sizes that a query asks for, if there is one, are known for good
abbrev pub IsKnown : List Entry → Option Query → Type 0
IsKnown entries None = Unit {0}
IsKnown entries (Some asked) = IsPast entries asked

-- the decision is an answer; the one to a query is that after the entries, where the sizes that it asks for are known for good
abbrev pub IsAnswer : List Entry → Option Query → Decision → Type 0
IsAnswer entries asked (Put entry) = ⊥
IsAnswer entries asked (Say answer) = IsKnown entries asked → answer ≡ answer_of entries asked

-- memory is wanted for the names of a change, and for the answer to a query
abbrev pub takes_memory : Option (Result Change Refusal) → Request → Bool
takes_memory (Some planned) asked = has_name planned
takes_memory None asked = is_some (query_of asked)

-- a change of a file's bytes: no request asks for one, and no entry says one
abbrev pub is_of_bytes : Change → Bool
is_of_bytes (WriteFile handle offset bytes) = true
is_of_bytes (Truncate handle size) = true
is_of_bytes change = false

-- what an entry says of a change
abbrev pub Says : Option What → Change → Type 0
Says (Some what) change = change_in what ≡ Some change
Says None change = is_of_bytes change ≡ true

-- the decision that follows from what a request comes to
abbrev pub Follows : List Entry → ℕ → ℕ → Request → Result Decision NoMemory → Option (Result Change Refusal) → Type 0
Follows entries client number asked (Ok decision) (Some (Ok change)) = is_of_bytes change ≡ false → IsPut client number change decision
Follows entries client number asked (Ok decision) (Some (Err refusal)) = decision ≡ Say (Refused refusal)
Follows entries client number asked (Ok decision) None = IsAnswer entries (query_of asked) decision
Follows entries client number asked (Err wanted) planned = takes_memory planned asked ≡ true

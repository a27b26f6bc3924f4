-- What paths lead to in the tables of a state, and what a query asks of the flushes so far.
use Rattle.std.specs.Prelude.{◌≡◌, ℕ, Bool, true, false, List, Some, Result, Ok, Err}
use Rattle.snap_ids.specs.declared.id.Ino.{Ino}
use Rattle.plain_types.specs.declared.answer.Answer.{Answer}
use Rattle.plain_types.specs.declared.answer.Answer.TheVariants.{Refused}
use Rattle.plain_types.specs.declared.answer.Refusal.{Refusal}
use Rattle.plain_types.specs.declared.entry.Entry.{Entry}
use Rattle.plain_types.specs.declared.request.Query.{Query}
use Rattle.plain_types.specs.declared.request.Query.TheVariants as query
use Rattle.plain_tree.specs.State.{State, is_there, kind_in}
use Rattle.plain_tree.specs.Change.{is_directory}
use Rattle.plain_tree.specs.Request.{and_then, in_directory, tree_of, walk_live}
use Rattle.plain_tree.specs.Query.{Found, InLive, SnapsOf, InTree, id_named, in_tree}
use Rattle.plain_journal.specs.Answers.{found}
use Rattle.plain_journal.specs.Entries.{state_after, tree_at}
use Rattle.plain_journal.specs.Realms.{shown}
use Rattle.journal_shapes.specs.Past.{flushes_are_past}
use Rattle.journal_shapes.specs.Stands.{attr_after}
use Rattle.meta_state.specs.declared.find.Found.{Found as FoundThere}
use Rattle.meta_state.specs.declared.find.Reached.{Reached}
use Rattle.meta_state.specs.declared.find.Reached.TheVariants.{Live, Snaps, InSnap}
use Rattle.meta_state.specs.Stands.{Tables, StandsFor}

-- the tables stand for a journal after which a directory is there
pub record HasDirectory (tables : Tables) (dir : Ino) : Type 0 where
  pub entries : List Entry
  pub stands : StandsFor tables entries
  pub there : is_directory (state_after entries) dir ≡ true

-- the tables stand for a journal after which an inode has a name, or is the root
pub record HasInode (tables : Tables) (ino : Ino) : Type 0 where
  pub entries : List Entry
  pub stands : StandsFor tables entries
  pub there : is_there (state_after entries).entries ino ≡ true

-- what a path leads to below the snapshot that a directory shows under a name
abbrev pub found_below : List Entry → Ino → List ℕ → List (List ℕ) → Result Found Refusal
found_below entries dir name below = in_tree (tree_at entries) dir below (id_named (shown entries dir) name)

-- What was found below a snapshot is this inode of it, or it was refused so. What the inode is there is known where each
-- flush of it came when all ids that it names were made.
abbrev pub IsFoundBelow : List Entry → Result Found Refusal → Result FoundThere Refusal → Type 0
IsFoundBelow entries (Ok (InTree s ino)) (Ok there) =
    (ino ≡ there.ino) × ((s ≡ there.snap) × (flushes_are_past entries ino ≡ true → attr_after entries ino s ≡ Some there.attr))
IsFoundBelow entries (Err refusal) (Err reason) = refusal ≡ reason
IsFoundBelow entries led answer = ⊥

-- the directory at the end of a path
abbrev pub directory_at : State → List (List ℕ) → Result Ino Refusal
directory_at live path = and_then (walk_live (tree_of live) path) (λ dir. in_directory (kind_in live.inodes dir) (Ok dir))

-- a path leads to what was reached, or is refused so
abbrev pub IsReached : List Entry → Result Found Refusal → Result Reached Refusal → Type 0
IsReached entries (Ok (InLive ino)) (Ok (Live there)) = ino ≡ there
IsReached entries (Ok (SnapsOf dir)) (Ok (Snaps there)) = dir ≡ there
IsReached entries (Ok (InTree s ino)) (Ok (InSnap there)) = IsFoundBelow entries (Ok (InTree s ino)) (Ok there)
IsReached entries (Err refusal) (Err reason) = refusal ≡ reason
IsReached entries led reached = ⊥

-- where a path leads to an inode in a snapshot, each flush of it came when all ids that it names were made
abbrev pub IsFoundPast : List Entry → Result Found Refusal → Type 0
IsFoundPast entries (Ok (InTree s ino)) = flushes_are_past entries ino ≡ true
IsFoundPast entries (Ok (InLive ino)) = Unit {0}
IsFoundPast entries (Ok (SnapsOf dir)) = Unit {0}
IsFoundPast entries (Err refusal) = Unit {0}

-- the sizes that a query asks for are known for good
abbrev pub IsPast : List Entry → Query → Type 0
IsPast entries (query.Stat path) = IsFoundPast entries (found entries path)
IsPast entries (query.Cat path) = IsFoundPast entries (found entries path)
IsPast entries other = Unit {0}

-- the answer to a query may be long
abbrev pub takes_memory : Query → Bool
takes_memory (query.List path) = true
takes_memory (query.Realm path) = true
takes_memory other = false

-- an answer refuses nothing
abbrev pub IsGiven : Answer → Type 0
IsGiven (Refused refusal) = ⊥
IsGiven answer = Unit {0}

-- it is what is answered; where memory was wanted, it isn't a refusal
abbrev pub IsTold : {E : Type 0} → Result Answer E → Answer → Type 0
IsTold (Ok answer) told = answer ≡ told
IsTold (Err error) told = IsGiven told

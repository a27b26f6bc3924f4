-- What a history's replies are to be: the plain answers, in the live tree and in the tree of a snapshot's cut.
use Rattle.std.specs.Prelude.{ℕ, Bool, false, ◌&&◌, ◌==◌, List, [], ◌∷◌, map, take, if◌then◌else◌, Option, None, Some, Result}
use Rattle.std.specs.List.{list_any}
use Rattle.snap_ids.specs.declared.id.SnapId.{SnapId}
use Rattle.snap_ids.specs.Path.{place_of}
use Rattle.plain_types.specs.declared.answer.Answer.{Answer}
use Rattle.plain_types.specs.declared.answer.Answer.TheVariants.{Pending, Gone, FileBytes, StatFile, RealmIs, ClonesAre}
use Rattle.plain_types.specs.declared.answer.Refusal.{Refusal}
use Rattle.plain_types.specs.declared.change.Change.{Change}
use Rattle.plain_types.specs.declared.entry.Entry.{Entry}
use Rattle.plain_types.specs.declared.history.Event.{Event}
use Rattle.plain_types.specs.declared.history.Step.{Step}
use Rattle.plain_types.specs.declared.history.Step.TheVariants.{StoreTakes}
use Rattle.plain_types.specs.declared.message.ToStore.{ToStore}
use Rattle.plain_types.specs.declared.message.Message.{Message}
use Rattle.plain_types.specs.declared.message.Message.TheVariants as message
use Rattle.plain_types.specs.declared.message.ToStore.TheVariants.{ReadSnap, Purge}
use Rattle.plain_types.specs.declared.request.Query.{Query}
use Rattle.plain_types.specs.declared.request.Query.TheVariants as query
use Rattle.plain_types.specs.declared.script.Line.{Line}
use Rattle.plain_tree.specs.State.{State, Inode}
use Rattle.plain_tree.specs.Change.{state_after}
use Rattle.plain_tree.specs.Cut.{tree}
use Rattle.plain_tree.specs.History.{effects, at_entry}
use Rattle.plain_tree.specs.Line.{change_by, change_answer}
use Rattle.plain_tree.specs.Query.{Shown, Found, found_at, answered, list_answer, stat_answer, cat_answer, file_in, bytes_in, live_only}
use Rattle.plain_journal.specs.Answers.{live_answer}
use Rattle.plain_journal.specs.Coverage.{context}
use Rattle.plain_journal.specs.Realms.{realm_at, shown}
use Rattle.object_log.specs.Objects.{clones_of}

-- the live tree after so many entries, with the bytes that its files have before an event
abbrev pub with_bytes_of : State → State → State
with_bytes_of full state =
    record state { inodes = map (λ (inode : Inode). record inode { bytes = bytes_in full inode.ino }) state.inodes }

abbrev pub live_before : List Event → ℕ → ℕ → State
live_before history event entries = with_bytes_of (state_after (effects (take event history))) (at_entry history entries)

-- what stands in the `.snap` of a directory after so many entries
abbrev pub shown_at : List Entry → ℕ → Shown
shown_at journal entries = shown (take entries journal)

abbrev pub found_in : List Event → List Entry → State → ℕ → List (List ℕ) → Result Found Refusal
found_in history journal live entries path = found_at (shown_at journal entries) (tree history) live (place_of path)

-- The plain answer to a query that is replied at an event by a message made after so many entries, where the store had taken
-- these messages and its objects have this size. A path leads through the live tree of these entries; what stands under
-- `.snap` is in the tree of the snapshot's one cut of the whole history. The server may answer `pending` in its place, while
-- the flush of the file is owed, and the store that it is gone, where its purge came first.
abbrev pub plain_answer : ℕ → List ToStore → List Event → List Entry → ℕ → ℕ → Query → Answer
plain_answer object taken history journal event entries asked =
    let live = live_before history event entries in
    elim asked [
      | query.List path ↦
          answered (found_in history journal live entries path) (list_answer (shown_at journal entries) (tree history) live)
      | query.Stat path ↦ answered (found_in history journal live entries path) (stat_answer (tree history) live)
      | query.Cat path ↦ answered (found_in history journal live entries path) (cat_answer (tree history) live)
      | query.Realm path ↦ live_answer (live_only live (place_of path))
          (λ ino. RealmIs (realm_at (take entries journal) ino) (context (take entries journal) ino))
      | query.Clones path index ↦ live_answer (live_only live (place_of path))
          (λ ino. file_in live ino (ClonesAre (clones_of object taken ino index)))
    ]

-- the answer to what a client's line changes, where it comes behind so many entries, and a snapshot gets this id; other
-- lines change nothing
abbrev pub change_reply : Option (Result Change Refusal) → Option Answer
change_reply None = None
change_reply (Some decided) = Some (change_answer decided)

abbrev pub changed_answer : List Event → ℕ → ℕ → SnapId → Line → Option Answer
changed_answer history entries client id text = change_reply (change_by (at_entry history entries) client id text)

-- the store takes such a message from a node in an event
abbrev pub is_purge_of : SnapId → ToStore → Bool
is_purge_of s (Purge id) = id.0 == s.0
is_purge_of s order = false

abbrev pub is_read_in : SnapId → ℕ → ToStore → Bool
is_read_in s line (ReadSnap key ino size snap) = key == line && snap.0 == s.0
is_read_in s line order = false

abbrev pub is_from : ℕ → Step → Bool
is_from node (StoreTakes n) = n == node
is_from node step = false

abbrev pub is_order : (ToStore → Bool) → Option Message → Bool
is_order test (Some (message.ToStore order)) = test order
is_order test taken = false

abbrev pub store_takes : ℕ → (ToStore → Bool) → Event → Bool
store_takes node test event = is_from node event.step && is_order test event.taken

-- the store takes the purge of a snapshot before it takes the read in it for a client's line
abbrev pub is_gone : SnapId → ℕ → ℕ → List Event → Bool
is_gone s client line [] = false
is_gone s client line (event ∷ history) =
    if store_takes client (is_read_in s line) event then false
    else (if store_takes 0 (is_purge_of s) event then list_any (store_takes client (is_read_in s line)) history
    else is_gone s client line history)

-- The answer to a query under `.snap` where the plain one is this: a file's is pending while a client owes its flush, and a
-- `cat` is gone where the purge came first.
abbrev pub answer_under : Answer → Option ℕ → Bool → Answer
answer_under (StatFile mode size) (Some client) gone = Pending client
answer_under (FileBytes bytes) (Some client) gone = Pending client
answer_under (FileBytes bytes) None gone = if gone then Gone else FileBytes bytes
answer_under plain owing gone = plain

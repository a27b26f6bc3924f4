-- What the server answers to queries, from its journal alone: a file's bytes are the store's, and its size is as settled.
use Rattle.std.specs.Prelude.{ℕ, false, List, Result, Ok, Err}
use Rattle.snap_ids.specs.declared.id.Ino.{Ino}
use Rattle.snap_ids.specs.declared.id.TheConstants.{NOSNAP}
use Rattle.snap_ids.specs.declared.values.Kind.TheVariants.{Dir, File}
use Rattle.snap_ids.specs.Path.{place_of}
use Rattle.plain_types.specs.declared.answer.Answer.{Answer}
use Rattle.plain_types.specs.declared.answer.Answer.TheVariants.{Refused, StatDir, FoundLive, FoundSnap, FoundObject, RealmIs}
use Rattle.plain_types.specs.declared.answer.Refusal.{Refusal}
use Rattle.plain_types.specs.declared.answer.Refusal.TheVariants.{IsDir}
use Rattle.plain_types.specs.declared.entry.Entry.{Entry}
use Rattle.plain_types.specs.declared.request.Query.{Query}
use Rattle.plain_types.specs.declared.request.Query.TheVariants as query
use Rattle.plain_tree.specs.State.{State, kind_in, inode_in}
use Rattle.plain_tree.specs.Query.{Found, InLive, SnapsOf, InTree, found_at, answered, list_answer, stat_in, file_in, live_only}
use Rattle.plain_journal.specs.Entries.{state_after, tree_at}
use Rattle.plain_journal.specs.Coverage.{context}
use Rattle.plain_journal.specs.Realms.{realm_at, shown}
use Rattle.plain_journal.specs.Settled.{settled_size}

-- what a path leads to after the entries
abbrev pub found : List Entry → List (List ℕ) → Result Found Refusal
found entries path = found_at (shown entries) (tree_at entries) (state_after entries) (place_of path)

-- a live file is found for a client that doesn't write it; its size and its bytes come with a capability
abbrev pub found_live : List Entry → State → Ino → Answer
found_live entries live ino = FoundLive ino (inode_in live.inodes ino).mode (settled_size entries ino NOSNAP) false

abbrev pub live_stat : List Entry → State → Ino → Answer
live_stat entries live ino = elim (kind_in live.inodes ino) [
  | Dir ↦ StatDir (inode_in live.inodes ino).mode
  | File ↦ found_live entries live ino
]

abbrev pub stat_found : List Entry → Found → Answer
stat_found entries (InLive ino) = live_stat entries (state_after entries) ino
stat_found entries (SnapsOf dir) = stat_in 0 (state_after entries) dir
stat_found entries (InTree s ino) = stat_in (settled_size entries ino s) (tree_at entries s) ino

abbrev pub cat_found : List Entry → Found → Answer
cat_found entries (InLive ino) = file_in (state_after entries) ino (found_live entries (state_after entries) ino)
cat_found entries (SnapsOf dir) = Refused IsDir
cat_found entries (InTree s ino) = file_in (tree_at entries s) ino (FoundSnap ino s (settled_size entries ino s))

-- the answer about an inode of the live tree
abbrev pub live_answer : Result Ino Refusal → (Ino → Answer) → Answer
live_answer (Ok ino) answer = answer ino
live_answer (Err refusal) answer = Refused refusal

-- the answer to a query after the entries
abbrev pub answer_to : List Entry → Query → Answer
answer_to entries (query.List path) = answered (found entries path) (list_answer (shown entries) (tree_at entries) (state_after entries))
answer_to entries (query.Stat path) = answered (found entries path) (stat_found entries)
answer_to entries (query.Cat path) = answered (found entries path) (cat_found entries)
answer_to entries (query.Realm path) =
    live_answer (live_only (state_after entries) (place_of path)) (λ ino. RealmIs (realm_at entries ino) (context entries ino))
answer_to entries (query.Clones path index) =
    live_answer (live_only (state_after entries) (place_of path)) (λ ino. file_in (state_after entries) ino (FoundObject ino index))

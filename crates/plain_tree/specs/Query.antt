-- What a query finds and answers, in the live tree and under `.snap`.
use Rattle.std.specs.Prelude.{ℕ, List, [], ◌∷◌, length, fold, if◌then◌else◌, bytes_eq, Option, None, Some, Result, Ok, Err}
use Rattle.std.specs.Ordering.{is_lt, nat_cmp}
use Rattle.std.specs.Cmp.Lexicographic.{slice_cmp}
use Rattle.snap_ids.specs.declared.id.Ino.{Ino}
use Rattle.snap_ids.specs.declared.id.SnapId.{SnapId}
use Rattle.snap_ids.specs.declared.values.Kind.{Kind}
use Rattle.snap_ids.specs.declared.values.Kind.TheVariants.{Dir, File}
use Rattle.snap_ids.specs.Path.{Place, Live, Snaps, InSnap}
use Rattle.plain_types.specs.declared.answer.Answer.{Answer}
use Rattle.plain_types.specs.declared.answer.Answer.TheVariants.{Refused, FileBytes, StatFile, StatDir, Listed}
use Rattle.plain_types.specs.declared.answer.Refusal.{Refusal}
use Rattle.plain_types.specs.declared.answer.Refusal.TheVariants.{NoSnap, NotDir, IsDir, NoEntry}
use Rattle.plain_tree.specs.State.{State, kind_in, inode_in, listing}
use Rattle.plain_tree.specs.Walk.{walk}
use Rattle.plain_tree.specs.Request.{and_then, tree_of, walk_live, in_directory}

-- what a path leads to: an inode of the live tree, the `.snap` of a directory, or an inode in a snapshot
pub data Found : Type 0 where
  InLive : Ino → Found
  SnapsOf : Ino → Found
  InTree : SnapId → Ino → Found

-- the snapshots that a directory shows in its `.snap`: their names there, own and inherited, with their ids
abbrev pub Shown : Type 0
Shown = Ino → List (List ℕ × SnapId)

-- the id that a name has in a list
abbrev pub id_named : List (List ℕ × SnapId) → List ℕ → Option SnapId
id_named [] name = None
id_named (snap ∷ snaps) name = if bytes_eq snap.0 name then Some snap.1 else id_named snaps name

-- the rest of a path, in the tree of a snapshot
abbrev pub in_tree : (SnapId → State) → Ino → List (List ℕ) → Option SnapId → Result Found Refusal
in_tree trees dir below None = Err NoSnap
in_tree trees dir below (Some s) =
    and_then (walk (kind_in (trees s).inodes) (trees s).entries dir below) (λ ino. Ok (InTree s ino))

-- What a path leads to: its directory and the snapshot's name are looked up in the live tree, and what stands behind
-- the name in the tree of that snapshot.
abbrev pub found_at : Shown → (SnapId → State) → State → Place → Result Found Refusal
found_at shown trees live (Live path) = and_then (walk_live (tree_of live) path) (λ ino. Ok (InLive ino))
found_at shown trees live (Snaps path) = and_then (walk_live (tree_of live) path) (λ dir. in_directory (kind_in live.inodes dir) (Ok (SnapsOf dir)))
found_at shown trees live (InSnap path name below) =
    and_then (walk_live (tree_of live) path) (λ dir. in_directory (kind_in live.inodes dir) (in_tree trees dir below (id_named (shown dir) name)))

-- the answer to what was found; where nothing was, it is refused
abbrev pub answered : Result Found Refusal → (Found → Answer) → Answer
answered (Ok found) answer = answer found
answered (Err refusal) answer = Refused refusal

-- a name and what it names, in its place by the bytes of the names
abbrev pub add_name : List ℕ × Kind → List (List ℕ × Kind) → List (List ℕ × Kind)
add_name new [] = new ∷ []
add_name new (first ∷ names) = if is_lt (slice_cmp nat_cmp new.0 first.0) then new ∷ first ∷ names else first ∷ add_name new names

-- what `ls` of a `.snap` lists: its snapshots as directories, by the bytes of their names
abbrev pub listed_snaps : List (List ℕ × SnapId) → List (List ℕ × Kind)
listed_snaps snaps = fold (λ names (snap : List ℕ × SnapId). add_name (snap.0, Dir) names) [] snaps

-- `ls` of an inode of a tree
abbrev pub list_in : State → Ino → Answer
list_in state ino = elim (kind_in state.inodes ino) [
  | Dir ↦ Listed (listing (kind_in state.inodes) state.entries ino)
  | File ↦ Refused NotDir
]

-- `stat` of an inode of a tree, where a file has this size
abbrev pub stat_in : ℕ → State → Ino → Answer
stat_in size state ino = elim (kind_in state.inodes ino) [
  | Dir ↦ StatDir (inode_in state.inodes ino).mode
  | File ↦ StatFile (inode_in state.inodes ino).mode size
]

-- what is asked of a file alone, with its answer there
abbrev pub file_in : State → Ino → Answer → Answer
file_in state ino answer = elim (kind_in state.inodes ino) [ Dir ↦ Refused IsDir | File ↦ answer ]

-- the bytes of a file in a tree
abbrev pub bytes_in : State → Ino → List ℕ
bytes_in state ino = (inode_in state.inodes ino).bytes

-- the plain answers to `ls`, `stat` and `cat` of what was found
abbrev pub list_answer : Shown → (SnapId → State) → State → Found → Answer
list_answer shown trees live (InLive ino) = list_in live ino
list_answer shown trees live (SnapsOf dir) = Listed (listed_snaps (shown dir))
list_answer shown trees live (InTree s ino) = list_in (trees s) ino

abbrev pub stat_answer : (SnapId → State) → State → Found → Answer
stat_answer trees live (InLive ino) = stat_in (length (bytes_in live ino)) live ino
stat_answer trees live (SnapsOf dir) = stat_in 0 live dir
stat_answer trees live (InTree s ino) = stat_in (length (bytes_in (trees s) ino)) (trees s) ino

abbrev pub cat_answer : (SnapId → State) → State → Found → Answer
cat_answer trees live (InLive ino) = file_in live ino (FileBytes (bytes_in live ino))
cat_answer trees live (SnapsOf dir) = Refused IsDir
cat_answer trees live (InTree s ino) = file_in (trees s) ino (FileBytes (bytes_in (trees s) ino))

-- `realm` and `clones` know the live tree alone
abbrev pub live_only : State → Place → Result Ino Refusal
live_only live (Live path) = walk_live (tree_of live) path
live_only live (Snaps dir) = Err NoEntry
live_only live (InSnap dir name below) = Err NoEntry

-- What the calls of one entry on a tree of names leave, and where they are fine.
use Rattle.std.specs.Prelude.{◌≡◌, ◌<◌, ◌≤◌, ℕ, max, true, List, if◌then◌else◌, Option, None, Some, Result, Ok}
use Rattle.snap_ids.specs.declared.id.Ino.{Ino}
use Rattle.snap_ids.specs.declared.id.SnapId.{SnapId}
use Rattle.snap_ids.specs.declared.id.TheConstants.{NOSNAP}
use Rattle.snap_ids.specs.declared.values.Kind.{Kind}
use Rattle.snap_ids.specs.declared.values.Kind.TheVariants.{Dir, File}
use Rattle.snap_ids.specs.Context.{is_listed}
use Rattle.plain_types.specs.declared.entry.Entry.{Entry}
use Rattle.plain_types.specs.declared.entry.What.{What}
use Rattle.plain_types.specs.declared.entry.What.TheVariants.{Mkdir, Create, Link, Unlink, Rmdir, Rename, Trim}
use Rattle.plain_tree.specs.State.{Snapshot, same_ino, lookup, add}
use Rattle.plain_tree.specs.Change.{entry, without}
use Rattle.plain_journal.specs.Entries.{state_after, applied}
use Rattle.journal_moments.specs.Moments.{is_live_snap}
use Rattle.dentry_tree.specs.declared.error.TreeError.{TreeError}
use Rattle.dentry_tree.specs.Dentries.{Tree, entries_at, kind_of, newest}
use Rattle.dentry_tree.specs.Answers.{file_answer, dir_answer}

-- a name gets an inode of a kind from the id after the last one on, as `put` leaves it
pub record Gains (last : ℕ) (dir : Ino) (name : List ℕ) (ino : Ino) (kind : Kind) (old new : Tree) : Type 0 where
  pub earlier : (s : SnapId) → s.0 ≤ last → entries_at s new ≡ entries_at s old
  pub later : (s : SnapId) → last < s.0 → s.0 ≤ NOSNAP.0 → entries_at s new ≡ add (entry dir name ino) (entries_at s old)
  pub kinds : (i : Ino) → kind_of new i ≡ (if same_ino i ino then kind else kind_of old i)
  pub changed : newest new ≤ last

-- a name loses its inode from the id after the last one on, as `cut_file` and `cut_dir` leave it
pub record Loses (last : ℕ) (dir : Ino) (name : List ℕ) (old new : Tree) : Type 0 where
  pub earlier : (s : SnapId) → s.0 ≤ last → entries_at s new ≡ entries_at s old
  pub later : (s : SnapId) → last < s.0 → entries_at s new ≡ without dir name (entries_at s old)
  pub kinds : (i : Ino) → kind_of new i ≡ kind_of old i
  pub changed : newest new ≤ max (newest old) last

-- what has a name loses it, and in the tree between gets another one
pub record Renames (last : ℕ) (dir : Ino) (name : List ℕ) (to_dir : Ino) (to_name : List ℕ) (old new : Tree) : Type 0 where
  pub ino : Ino
  pub found : lookup (entries_at NOSNAP old) dir name ≡ Some ino
  pub between : Tree
  pub loses : Loses last dir name old between
  pub gains : Gains last to_dir to_name ino (kind_of old ino) between new

-- what no id of a list needs is dropped, as `trim` leaves it; the list has the id of each live snapshot
pub record Trims (snaps : List Snapshot) (old new : Tree) : Type 0 where
  pub live : List SnapId
  pub each : (s : SnapId) → is_live_snap s snaps ≡ true → is_listed s live ≡ true
  pub listed : (s : SnapId) → is_listed s live ≡ true → entries_at s new ≡ entries_at s old
  pub later : (s : SnapId) → newest old < s.0 → s.0 ≤ NOSNAP.0 → entries_at s new ≡ entries_at s old
  pub kinds : (i : Ino) → kind_of new i ≡ kind_of old i
  pub changed : newest new ≤ newest old

-- what the calls of an entry that follows a journal leave; one that has none leaves the tree
abbrev pub Called : List Entry → What → Tree → Tree → Type 0
Called entries (Mkdir dir name ino) old new = Gains (applied entries) dir name ino Dir old new
Called entries (Create dir name ino mode) old new = Gains (applied entries) dir name ino File old new
Called entries (Link ino dir name) old new = Gains (applied entries) dir name ino File old new
Called entries (Unlink dir name) old new = Loses (applied entries) dir name old new
Called entries (Rmdir dir name) old new = Loses (applied entries) dir name old new
Called entries (Rename dir name to_dir to_name) old new = Renames (applied entries) dir name to_dir to_name old new
Called entries (Trim id) old new = Trims (state_after entries).snaps old new
Called entries what old new = new ≡ old

-- `put` has its conditions, and doesn't answer that the name is taken
pub record CanGain (last : ℕ) (dir : Ino) (name : List ℕ) (tree : Tree) : Type 0 where
  pub before_nosnap : last < NOSNAP.0
  pub upto_last : newest tree ≤ last
  pub free : lookup (entries_at NOSNAP tree) dir name ≡ None

-- what a cut of a name of this kind answers
abbrev pub cut_answer : Kind → (Ino → Kind) → Option Ino → Result Ino TreeError
cut_answer Dir kind found = dir_answer kind found
cut_answer File kind found = file_answer kind found

-- a name is that of an inode of a kind, which the cut of such a name answers
pub record CanLose (kind : Kind) (dir : Ino) (name : List ℕ) (tree : Tree) (ino : Ino) : Type 0 where
  pub named : lookup (entries_at NOSNAP tree) dir name ≡ Some ino
  pub is_kind : kind_of tree ino ≡ kind
  pub answer : cut_answer kind (kind_of tree) (lookup (entries_at NOSNAP tree) dir name) ≡ Ok ino

-- a name can be lost, and in the tree between the other one can be gained
pub record CanRename (last : ℕ) (dir : Ino) (name : List ℕ) (to_dir : Ino) (to_name : List ℕ) (tree : Tree) (ino : Ino) : Type 0 where
  pub loses : CanLose (kind_of tree ino) dir name tree ino
  pub gains : (between : Tree) → Loses last dir name tree between → CanGain last to_dir to_name between

-- the calls of an entry that follows a journal are fine
abbrev pub CanCall : List Entry → What → Tree → Type 0
CanCall entries (Mkdir dir name ino) tree = CanGain (applied entries) dir name tree
CanCall entries (Create dir name ino mode) tree = CanGain (applied entries) dir name tree
CanCall entries (Link ino dir name) tree = CanGain (applied entries) dir name tree
CanCall entries (Unlink dir name) tree = (ino : Ino) × CanLose File dir name tree ino
CanCall entries (Rmdir dir name) tree = (ino : Ino) × CanLose Dir dir name tree ino
CanCall entries (Rename dir name to_dir to_name) tree = (ino : Ino) × CanRename (applied entries) dir name to_dir to_name tree ino
CanCall entries what tree = Unit {0}

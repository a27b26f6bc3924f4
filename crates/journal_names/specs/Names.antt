-- What a tree of names says of a journal.
use Rattle.std.specs.Prelude.{◌≡◌, ◌≤◌, true, List}
use Rattle.snap_ids.specs.declared.id.Ino.{Ino}
use Rattle.snap_ids.specs.declared.id.SnapId.{SnapId}
use Rattle.plain_types.specs.declared.entry.Entry.{Entry}
use Rattle.plain_tree.specs.State.{kind_in}
use Rattle.plain_journal.specs.Entries.{state_after, tree_at, applied}
use Rattle.journal_moments.specs.Moments.{is_asked}
use Rattle.dentry_tree.specs.Dentries.{Tree, entries_at, kind_of, newest}

-- A tree of names stands for the entries of a journal: at each id that is asked for it has the entries of the plain tree
-- there, each inode is what it was made as, and no name began or ended after the last id.
pub record NamesStand (tree : Tree) (entries : List Entry) : Type 0 where
  pub names : (s : SnapId) → is_asked entries s ≡ true → entries_at s tree ≡ (tree_at entries s).entries
  pub kinds : (ino : Ino) → kind_of tree ino ≡ kind_in (state_after entries).inodes ino
  pub changed : newest tree ≤ applied entries

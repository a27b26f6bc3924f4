-- The chain of parents in the plain tree, when an inode was made, and which calls on a story are fine.
use Rattle.std.specs.Prelude.{◌≡◌, ℕ, ◌+◌, Bool, true, false, List, [], ◌∷◌, map, if◌then◌else◌}
use Rattle.snap_ids.specs.declared.id.Ino.{Ino}
use Rattle.snap_ids.specs.declared.id.TheConstants.{ROOT}
use Rattle.plain_types.specs.declared.entry.Entry.{Entry}
use Rattle.plain_types.specs.declared.entry.What.{What}
use Rattle.plain_types.specs.declared.entry.What.TheVariants.{Mkdir, Create}
use Rattle.snap_ids.specs.declared.values.Kind.TheVariants.{File}
use Rattle.plain_tree.specs.State.{State, Inode, same_ino, kind_in}
use Rattle.plain_tree.specs.State.{Entry as Dentry}
use Rattle.plain_tree.specs.Walk.{names_of}
use Rattle.plain_tree.specs.Change.{is_directory}
use Rattle.plain_journal.specs.Entries.{applied}
use Rattle.plain_journal.specs.Legal.{is_made_file}
use Rattle.realm_story.specs.Family.{Family, member, is_there, is_in_global, above_by, way_up}

-- the directories in which an inode has a name
abbrev pub parents : List Dentry → Ino → List Ino
parents entries ino = map (λ (entry : Dentry). entry.dir) (names_of entries ino)

-- from an inode up, each of these is the one directory that has a name for the one before, and the last one is the root
abbrev pub LeadsUp : List Dentry → Ino → List Ino → Type 0
LeadsUp entries ino [] = ino ≡ ROOT
LeadsUp entries ino (dir ∷ way) = (parents entries ino ≡ dir ∷ []) × LeadsUp entries dir way

-- a file that was made, whatever became of it, or a directory that is there
abbrev pub is_held : State → Ino → Bool
is_held state ino = if is_made_file state ino then true else is_directory state ino

-- an entry makes this inode
abbrev pub makes : Ino → What → Bool
makes x (Mkdir dir name ino) = same_ino ino x
makes x (Create dir name ino mode) = same_ino ino x
makes x what = false

-- the entries before the one that makes an inode
abbrev pub before_made : Ino → List Entry → List Entry
before_made x [] = []
before_made x (entry ∷ entries) = if makes x entry.what then [] else entry ∷ before_made x entries

-- the first id that an inode can have: the one after the last snapshot before it was made
abbrev pub birth_at : List Entry → Ino → ℕ
birth_at entries x = applied (before_made x entries) + 1

-- What has a name is there in a story: outside the global realm it stands below the name's directory, and what is in that
-- realm is a file.
pub record IsPlaced (inodes : List Inode) (family : Family) (entry : Dentry) : Type 0 where
  pub there : is_there family.members entry.ino ≡ true
  pub below : is_in_global family.members entry.ino ≡ false → above_by (member family.members entry.ino) ≡ way_up family.members entry.dir
  pub file : is_in_global family.members entry.ino ≡ true → kind_in inodes entry.ino ≡ File

-- What a server's tables show of a plain state.
use Rattle.std.specs.Prelude.{◌≡◌, ◌&&◌, ℕ, List, length, filter, find, option_map}
use Rattle.std.specs.List.{list_any}
use Rattle.snap_ids.specs.declared.id.Ino.{Ino}
use Rattle.snap_ids.specs.declared.id.TheConstants.{NOSNAP}
use Rattle.plain_tree.specs.State.{State, Snapshot, kind_in, next_ino}
use Rattle.plain_tree.specs.Change.{own_snap, is_own, is_live}
use Rattle.realm_story.specs.Family.{Family, Made, same_ino, is_named}
use Rattle.dentry_tree.specs.Dentries as dentries
use Rattle.snap_realm.specs.Tree as realms
use Rattle.file_uses.specs.Uses.{Uses}

-- a story has the live snapshots of a plain state: the same one under each name of a directory, as many of each directory,
-- and as many in all
pub record HasSnaps (snaps : List Snapshot) (family : Family) : Type 0 where
  pub named : (dir : Ino) (name : List ℕ) → option_map (λ (snap : Snapshot). snap.id) (own_snap snaps dir name)
      ≡ option_map (λ (snap : Made). snap.id) (find (is_named dir name) family.snaps)
  pub of_one : (dir : Ino) → length (filter (is_own dir) snaps)
      ≡ length (filter (λ (snap : Made). snap.live && same_ino snap.root dir) family.snaps)
  pub of_all : length (filter is_live snaps) ≡ length (filter (λ (snap : Made). snap.live) family.snaps)
  pub rooted : (dir : Ino) → list_any (is_own dir) snaps ≡ list_any (λ (snap : Made). snap.live && same_ino snap.root dir) family.snaps

-- a tree of names shows a plain state: its entries, and what each inode is
pub record ShowNames (names : dentries.Tree) (state : State) : Type 0 where
  pub entries : dentries.entries_at NOSNAP names ≡ state.entries
  pub kinds : (ino : Ino) → dentries.kind_of names ino ≡ kind_in state.inodes ino

-- a tree of realms shows the live snapshots of a plain state
pub record ShowSnaps (tree : realms.Tree) (state : State) : Type 0 where
  pub family : Family
  pub stands : realms.StandsFor tree family
  pub snaps : HasSnaps state.snaps family

-- the tables show a plain state: its names, its live snapshots, its open handles, and the number of the next inode
pub record Show (names : dentries.Tree) (tree : realms.Tree) (uses : Uses) (next : Ino) (state : State) : Type 0 where
  pub names_shown : ShowNames names state
  pub snaps_shown : ShowSnaps tree state
  pub handles : uses.handles ≡ state.handles
  pub next_one : next ≡ next_ino state

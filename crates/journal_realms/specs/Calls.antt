-- What holds where an entry of a journal calls on a story of realms.
use Rattle.std.specs.Prelude.{◌≡◌, ℕ, ◌<◌, Bool, true, false, ◌&&◌, ◌==◌, nat_lt, List, length, filter, is_some, Option, None, Some}
use Rattle.std.specs.List.{list_any}
use Rattle.snap_ids.specs.declared.id.Ino.{Ino}
use Rattle.snap_ids.specs.declared.id.SnapId.{SnapId}
use Rattle.snap_ids.specs.declared.id.TheConstants.{STRAY}
use Rattle.snap_ids.specs.Name.{is_new_snap}
use Rattle.plain_types.specs.declared.entry.What.{What}
use Rattle.plain_types.specs.declared.entry.What.TheVariants.{Mkdir, Create, Link, Unlink, Rmdir, Rename, Mksnap, Rmsnap, Purgedone}
use Rattle.plain_tree.specs.State.{State, lookup}
use Rattle.plain_journal.specs.Legal.{is_given}
use Rattle.realm_story.specs.Family.{Made, Family, same_ino, member, is_there, above_by, is_on, is_root, is_under, is_in_global, is_fresh, is_named}
use Rattle.journal_realms.specs.Told.{snap_of}

-- an inode is born below another one: that is there and isn't in the global realm, and the inode is new
pub record IsBirth (family : Family) (ino parent : Ino) : Type 0 where
  pub there : is_there family.members parent ≡ true
  pub outside : is_in_global family.members parent ≡ false
  pub new : is_there family.members ino ≡ false
  pub fresh : is_fresh ino family.snaps ≡ true

-- an inode goes to the global realm, or is there no more: it is there, is none of the roots, and stands above no other
pub record IsLeaf (family : Family) (ino : Ino) : Type 0 where
  pub there : is_there family.members ino ≡ true
  pub no_root : is_root ino ≡ false
  pub top : (other : Ino) → is_on ino (above_by (member family.members other)) ≡ false

-- an inode is moved below another one: both are there, and the other one isn't in the global realm, nor the inode itself,
-- nor below it
pub record IsMove (family : Family) (ino parent : Ino) : Type 0 where
  pub there : is_there family.members ino ≡ true
  pub no_root : is_root ino ≡ false
  pub parent_there : is_there family.members parent ≡ true
  pub parent_outside : is_in_global family.members parent ≡ false
  pub apart : is_under family.members parent ino ≡ false

-- A directory gets a snapshot: it is there and can have one of this name, and the id is above the last one. Fewer than 100
-- snapshots of the directory have a name, and fewer than 128 in all.
pub record IsSnap (family : Family) (id : SnapId) (dir : Ino) (name : List ℕ) : Type 0 where
  pub there : is_there family.members dir ≡ true
  pub outside : is_in_global family.members dir ≡ false
  pub no_stray : same_ino dir STRAY ≡ false
  pub later : family.applied.0 < id.0
  pub given : is_given id ≡ true
  pub new_name : is_new_snap name ≡ true
  pub free : list_any (is_named dir name) family.snaps ≡ false
  pub few_own : nat_lt 99 (length (filter (λ (snap : Made). snap.live && same_ino snap.root dir) family.snaps)) ≡ false
  pub few_live : nat_lt 127 (length (filter (λ (snap : Made). snap.live) family.snaps)) ≡ false

-- a name is that of an inode of which this is true
abbrev pub Found : (Ino → Type 0) → Option Ino → Type 0
Found P None = ⊥
Found P (Some ino) = P ino

-- a live snapshot has an id
abbrev pub is_live_id : SnapId → List Made → Bool
is_live_id id snaps = list_any (λ (snap : Made). snap.live && snap.id.0 == id.0) snaps

-- the conditions of an entry's call
abbrev pub IsFine : State → Family → What → Type 0
IsFine state family (Mkdir dir name ino) = IsBirth family ino dir
IsFine state family (Create dir name ino mode) = IsBirth family ino dir
IsFine state family (Link ino dir name) = IsLeaf family ino
IsFine state family (Unlink dir name) = Found (λ ino. IsMove family ino STRAY) (lookup state.entries dir name)
IsFine state family (Rmdir dir name) = Found (IsLeaf family) (lookup state.entries dir name)
IsFine state family (Rename dir name to_dir to_name) = Found (λ ino. IsMove family ino to_dir) (lookup state.entries dir name)
IsFine state family (Mksnap id dir name) = IsSnap family id dir name
IsFine state family (Rmsnap id) = is_some (snap_of family.snaps id) ≡ true
IsFine state family (Purgedone id) = is_live_id id family.snaps ≡ false
IsFine state family what = Unit {0}

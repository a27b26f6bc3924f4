-- What the calls of one entry leave of the tables, and where they may be made.
use Rattle.std.specs.Prelude.{◌≡◌, ◌+◌, ◌<◌, ◌≤◌, ◌^◌, ℕ, true, false, List, None, Some, IsSome, is_some}
use Rattle.snap_ids.specs.declared.id.Ino.{Ino}
use Rattle.snap_ids.specs.declared.id.SnapId.{SnapId}
use Rattle.snap_ids.specs.declared.id.TheConstants.{NOSNAP, STRAY}
use Rattle.snap_ids.specs.declared.values.Kind.{Kind}
use Rattle.snap_ids.specs.declared.values.Kind.TheVariants.{Dir, File}
use Rattle.snap_ids.specs.Context.{is_listed}
use Rattle.snap_ids.specs.Name.{is_new_snap}
use Rattle.plain_types.specs.declared.entry.What.{What}
use Rattle.plain_types.specs.declared.entry.What.TheVariants.{Mkdir, Create, Link, Unlink, Rmdir, Rename, Chmod, OpenFile, CloseFile, Mksnap, Rmsnap, Settle, Release, Trim, Purgedone, Deadfile, Barrier}
use Rattle.plain_tree.specs.State.{lookup}
use Rattle.plain_tree.specs.Change.{open_of}
use Rattle.realm_story.specs.Family as story
use Rattle.realm_story.specs.Family.{Family, is_root}
use Rattle.journal_realms.specs.Told.{snap_of, drop_found}
use Rattle.journal_names.specs.Calls as names
use Rattle.journal_shapes.specs.Calls as shapes
use Rattle.inode_versions.specs.declared.attr.Attr.{Attr}
use Rattle.inode_versions.specs.Table.{head_of}
use Rattle.dentry_tree.specs.Dentries as dentries
use Rattle.file_uses.specs.Uses as uses
use Rattle.snap_realm.specs.Refusals.{refusal}
use Rattle.snap_realm.specs.Tree as realms
use Rattle.meta_state.specs.Stands.{Tables}

-- the last id, and the one above it
abbrev pub last : Tables → SnapId
last tables = tables.realms.applied

abbrev pub next : Tables → SnapId
next tables = record { 0 = tables.realms.applied.0 + 1 }

-- each story that the realms stand for goes on so
abbrev pub GoesOn : (Family → Family) → realms.Tree → realms.Tree → Type 0
GoesOn change old new = (family : Family) → realms.StandsFor old family → realms.StandsFor new (change family)

-- what is counted is the same
pub record SameCounts (old new : Tables) : Type 0 where
  pub made : new.made ≡ old.made
  pub barrier : new.barrier ≡ old.barrier
  pub entries : new.entries ≡ old.entries

-- an inode is made with a name, is valid from the next id on, and is born below its directory
pub record Makes (dir : Ino) (name : List ℕ) (ino : Ino) (attr : Attr) (old new : Tables) : Type 0 where
  pub names : names.Gains (last old).0 dir name ino attr.kind old.names new.names
  pub inodes : shapes.Created ino (next old) attr old.inodes new.inodes
  pub realms : (family : Family) → realms.StandsFor old.realms family → story.is_fresh ino family.snaps ≡ true → realms.StandsFor new.realms (story.born ino dir family)
  pub made : new.made ≡ old.made + 1
  pub few_made : new.made < 2 ^ 62
  pub barrier : new.barrier ≡ old.barrier
  pub entries : new.entries ≡ old.entries

-- a directory is made
pub record MakesDir (dir : Ino) (name : List ℕ) (ino : Ino) (old new : Tables) : Type 0 where
  pub makes : Makes dir name ino (shapes.directory ino) old new
  pub uses : new.uses ≡ old.uses

-- a file is made
pub record MakesFile (dir : Ino) (name : List ℕ) (ino : Ino) (mode : ℕ) (old new : Tables) : Type 0 where
  pub makes : Makes dir name ino (shapes.file mode) old new
  pub uses : new.uses ≡ uses.made ino old.uses

-- a file has one name more, and goes to the global realm
pub record Links (ino dir : Ino) (name : List ℕ) (old new : Tables) : Type 0 where
  pub names : names.Gains (last old).0 dir name ino File old.names new.names
  pub inodes : new.inodes ≡ old.inodes
  pub realms : GoesOn (story.to_global ino) old.realms new.realms
  pub uses : new.uses ≡ uses.linked ino old.uses
  pub counts : SameCounts old new

-- a file loses a name, and is moved below the stray root
pub record Unlinks (dir : Ino) (name : List ℕ) (old new : Tables) : Type 0 where
  pub ino : Ino
  pub found : lookup (dentries.entries_at NOSNAP old.names) dir name ≡ Some ino
  pub names : names.Loses (last old).0 dir name old.names new.names
  pub inodes : new.inodes ≡ old.inodes
  pub realms : GoesOn (story.move_to ino STRAY) old.realms new.realms
  pub uses : new.uses ≡ uses.unlinked ino old.uses
  pub counts : SameCounts old new

-- a directory loses its name, and is there no more
pub record Removes (dir : Ino) (name : List ℕ) (old new : Tables) : Type 0 where
  pub ino : Ino
  pub found : lookup (dentries.entries_at NOSNAP old.names) dir name ≡ Some ino
  pub names : names.Loses (last old).0 dir name old.names new.names
  pub inodes : new.inodes ≡ old.inodes
  pub realms : GoesOn (story.forget ino) old.realms new.realms
  pub uses : new.uses ≡ old.uses
  pub counts : SameCounts old new

-- what has a name has another one instead, and is moved below that one's directory
pub record Moves (dir : Ino) (name : List ℕ) (to_dir : Ino) (to_name : List ℕ) (old new : Tables) : Type 0 where
  pub ino : Ino
  pub kind : Kind
  pub between : dentries.Tree
  pub found : lookup (dentries.entries_at NOSNAP old.names) dir name ≡ Some ino
  pub is_kind : dentries.kind_of old.names ino ≡ kind
  pub loses : names.Loses (last old).0 dir name old.names between
  pub gains : names.Gains (last old).0 to_dir to_name ino kind between new.names
  pub inodes : new.inodes ≡ old.inodes
  pub realms : GoesOn (story.move_to ino to_dir) old.realms new.realms
  pub uses : new.uses ≡ old.uses
  pub counts : SameCounts old new

-- the inodes alone change
pub record ChangesInodes (old new : Tables) : Type 0 where
  pub names : new.names ≡ old.names
  pub realms : new.realms ≡ old.realms
  pub uses : new.uses ≡ old.uses
  pub counts : SameCounts old new

-- a mode is another one at the ids above the last one
pub record SetsMode (ino : Ino) (mode : ℕ) (old new : Tables) : Type 0 where
  pub head : Attr
  pub found : head_of old.inodes ino ≡ Some head
  pub inodes : shapes.Changed ino (last old) (shapes.in_mode mode head) old.inodes new.inodes
  pub rest : ChangesInodes old new

-- a size is settled
pub record Settles (ino : Ino) (follows upto : SnapId) (size : ℕ) (old new : Tables) : Type 0 where
  pub inodes : shapes.Settled ino follows upto size old.inodes new.inodes
  pub rest : ChangesInodes old new

-- the realms alone change
pub record ChangesRealms (change : Family → Family) (old new : Tables) : Type 0 where
  pub names : new.names ≡ old.names
  pub inodes : new.inodes ≡ old.inodes
  pub realms : GoesOn change old.realms new.realms
  pub uses : new.uses ≡ old.uses
  pub counts : SameCounts old new

-- the uses of files alone change
pub record ChangesUses (uses_now : uses.Uses) (old new : Tables) : Type 0 where
  pub names : new.names ≡ old.names
  pub inodes : new.inodes ≡ old.inodes
  pub realms : new.realms ≡ old.realms
  pub uses : new.uses ≡ uses_now
  pub counts : SameCounts old new

-- what no id of a list needs is dropped of the names, as `trim` leaves it
pub record DropsNames (live : List SnapId) (old new : dentries.Tree) : Type 0 where
  pub listed : (s : SnapId) → is_listed s live ≡ true → dentries.entries_at s new ≡ dentries.entries_at s old
  pub later : (s : SnapId) → dentries.newest old < s.0 → s.0 ≤ NOSNAP.0 → dentries.entries_at s new ≡ dentries.entries_at s old
  pub kinds : (i : Ino) → dentries.kind_of new i ≡ dentries.kind_of old i
  pub changed : dentries.newest new ≤ dentries.newest old

-- what no live snapshot needs is dropped
pub record Drops (old new : Tables) : Type 0 where
  pub live : List SnapId
  pub all : (family : Family) → realms.StandsFor old.realms family → live ≡ story.live_ids family
  pub names : DropsNames live old.names new.names
  pub inodes : shapes.Trimmed live old.inodes new.inodes
  pub realms : new.realms ≡ old.realms
  pub uses : new.uses ≡ old.uses
  pub counts : SameCounts old new

-- all clients came to a barrier
pub record Passes (number : ℕ) (old new : Tables) : Type 0 where
  pub names : new.names ≡ old.names
  pub inodes : new.inodes ≡ old.inodes
  pub realms : new.realms ≡ old.realms
  pub uses : new.uses ≡ old.uses
  pub made : new.made ≡ old.made
  pub barrier : new.barrier ≡ number
  pub entries : new.entries ≡ old.entries

-- what the calls of an entry leave; one that has none leaves the tables
abbrev pub Called : ℕ → What → Tables → Tables → Type 0
Called client (Mkdir dir name ino) old new = MakesDir dir name ino old new
Called client (Create dir name ino mode) old new = MakesFile dir name ino mode old new
Called client (Link ino dir name) old new = Links ino dir name old new
Called client (Unlink dir name) old new = Unlinks dir name old new
Called client (Rmdir dir name) old new = Removes dir name old new
Called client (Rename dir name to_dir to_name) old new = Moves dir name to_dir to_name old new
Called client (Chmod ino mode) old new = SetsMode ino mode old new
Called client (OpenFile handle ino writable) old new = ChangesUses (uses.opened (record { client = client; handle = handle; ino = ino; writable = writable }) old.uses) old new
Called client (CloseFile handle) old new = ChangesUses (uses.closed client handle old.uses) old new
Called client (Mksnap id dir name) old new = ChangesRealms (story.add_snap dir id name) old new
Called client (Rmsnap id) old new = ChangesRealms (λ family. drop_found (snap_of family.snaps id) family) old new
Called client (Settle ino follows upto size) old new = Settles ino follows upto size old new
Called client (Release ino follows size) old new = Settles ino follows NOSNAP size old new
Called client (Trim id) old new = Drops old new
Called client (Purgedone id) old new = ChangesRealms (story.purged id) old new
Called client (Deadfile ino) old new = ChangesUses (uses.dropped ino old.uses) old new
Called client (Barrier number) old new = Passes number old new
Called client what old new = new ≡ old

-- an inode can be made with a name
pub record CanMake (dir : Ino) (name : List ℕ) (ino : Ino) (tables : Tables) : Type 0 where
  pub names : names.CanGain (last tables).0 dir name tables.names
  pub inodes : shapes.IsNew ino (next tables) tables.inodes
  pub there : realms.is_there tables.realms dir ≡ true
  pub outside : realms.is_in_global tables.realms dir ≡ false
  pub new : realms.is_there tables.realms ino ≡ false

-- a file can
pub record CanMakeFile (dir : Ino) (name : List ℕ) (ino : Ino) (tables : Tables) : Type 0 where
  pub makes : CanMake dir name ino tables
  pub uses : uses.use_of tables.uses ino ≡ None

-- a file can have one name more
pub record CanLink (ino dir : Ino) (name : List ℕ) (tables : Tables) : Type 0 where
  pub names : names.CanGain (last tables).0 dir name tables.names
  pub there : realms.is_there tables.realms ino ≡ true
  pub leaf : realms.IsLeaf tables.realms ino
  pub uses : IsSome (uses.use_of tables.uses ino)

-- an inode can be moved below another one
pub record CanMove (ino parent : Ino) (tree : realms.Tree) : Type 0 where
  pub there : realms.is_there tree ino ≡ true
  pub parent_there : realms.is_there tree parent ≡ true
  pub no_root : is_root ino ≡ false
  pub outside : realms.is_in_global tree parent ≡ false
  pub apart : realms.is_under tree parent ino ≡ false

-- a file can lose a name
pub record CanUnlink (dir : Ino) (name : List ℕ) (tables : Tables) : Type 0 where
  pub ino : Ino
  pub names : names.CanLose File dir name tables.names ino
  pub realms : CanMove ino STRAY tables.realms
  pub uses : 0 < uses.names_of tables.uses ino

-- a directory can
pub record CanRemove (dir : Ino) (name : List ℕ) (tables : Tables) : Type 0 where
  pub ino : Ino
  pub names : names.CanLose Dir dir name tables.names ino
  pub there : realms.is_there tables.realms ino ≡ true
  pub leaf : realms.IsLeaf tables.realms ino

-- what has a name can have another one instead
pub record CanRename (dir : Ino) (name : List ℕ) (to_dir : Ino) (to_name : List ℕ) (tables : Tables) : Type 0 where
  pub ino : Ino
  pub names : names.CanRename (last tables).0 dir name to_dir to_name tables.names ino
  pub realms : CanMove ino to_dir tables.realms

-- a file can be opened under a handle
pub record CanOpen (client handle : ℕ) (ino : Ino) (tables : Tables) : Type 0 where
  pub free : open_of tables.uses.handles client handle ≡ None
  pub there : IsSome (uses.use_of tables.uses ino)

-- a directory can have a snapshot
pub record CanSnap (id : SnapId) (dir : Ino) (name : List ℕ) (tree : realms.Tree) : Type 0 where
  pub there : realms.is_there tree dir ≡ true
  pub no_stray : dir ≡ STRAY → ⊥
  pub outside : realms.is_in_global tree dir ≡ false
  pub new_name : is_new_snap name ≡ true
  pub later : tree.applied.0 < id.0
  pub small : id.0 < 4611686018427387904
  pub family : Family
  pub stands : realms.StandsFor tree family
  pub fine : refusal dir name family.snaps ≡ None

-- a snapshot can lose its name
pub record CanUnname (id : SnapId) (tree : realms.Tree) : Type 0 where
  pub family : Family
  pub stands : realms.StandsFor tree family
  pub live : is_some (snap_of family.snaps id) ≡ true

-- the calls of an entry may be made
abbrev pub MayCall : ℕ → What → Tables → Type 0
MayCall client (Mkdir dir name ino) tables = CanMake dir name ino tables
MayCall client (Create dir name ino mode) tables = CanMakeFile dir name ino tables
MayCall client (Link ino dir name) tables = CanLink ino dir name tables
MayCall client (Unlink dir name) tables = CanUnlink dir name tables
MayCall client (Rmdir dir name) tables = CanRemove dir name tables
MayCall client (Rename dir name to_dir to_name) tables = CanRename dir name to_dir to_name tables
MayCall client (Chmod ino mode) tables = shapes.IsThere ino (last tables) tables.inodes
MayCall client (OpenFile handle ino writable) tables = CanOpen client handle ino tables
MayCall client (Mksnap id dir name) tables = CanSnap id dir name tables.realms
MayCall client (Rmsnap id) tables = CanUnname id tables.realms
MayCall client (Settle ino follows upto size) tables = shapes.IsThere ino follows tables.inodes
MayCall client (Release ino follows size) tables = shapes.IsThere ino follows tables.inodes
MayCall client (Purgedone id) tables = realms.is_live tables.realms id ≡ false
MayCall client (Deadfile ino) tables = IsSome (uses.use_of tables.uses ino)
MayCall client what tables = Unit {0}

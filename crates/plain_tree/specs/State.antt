-- The plain state: a tree with nothing but what it is now, and the snapshots that were made.
use Rattle.std.specs.Prelude.{ℕ, ◌+◌, ◌-◌, Bool, ◌&&◌, ◌||◌, ◌==◌, nat_lt, List, [], ◌∷◌, length, map, filter, if◌then◌else◌, bytes_eq, Option, None, Some}
use Rattle.std.specs.List.{list_any}
use Rattle.std.specs.Ordering.{is_lt, nat_cmp}
use Rattle.std.specs.Cmp.Lexicographic.{slice_cmp}
use Rattle.snap_ids.specs.declared.id.Ino.{Ino}
use Rattle.snap_ids.specs.declared.id.SnapId.{SnapId}
use Rattle.snap_ids.specs.declared.id.TheConstants.{ROOT, FIRST_INO}
use Rattle.snap_ids.specs.declared.values.Kind.{Kind}
use Rattle.snap_ids.specs.declared.values.Kind.TheVariants.{Dir}

-- a name in a directory, and the inode that it names
pub record Entry : Type 0 where
  pub dir : Ino
  pub name : List ℕ
  pub ino : Ino

-- an inode: what it is, its mode, and a file's bytes
pub record Inode : Type 0 where
  pub ino : Ino
  pub kind : Kind
  pub mode : ℕ
  pub bytes : List ℕ

-- a file that a client has open under a number of its own
pub record Handle : Type 0 where
  pub client : ℕ
  pub handle : ℕ
  pub ino : Ino
  pub writable : Bool

-- a snapshot of all under its root; it is live until it is removed
pub record Snapshot : Type 0 where
  pub id : SnapId
  pub root : Ino
  pub name : List ℕ
  pub live : Bool

-- the entries by directory and name, the inodes and the snapshots as they were made, and the open handles
pub record State : Type 0 where
  pub entries : List Entry
  pub inodes : List Inode
  pub handles : List Handle
  pub snaps : List Snapshot

-- a directory of mode 0755
abbrev pub new_directory : Ino → Inode
new_directory ino = record { ino = ino; kind = Dir; mode = 493; bytes = [] }

-- the root alone
abbrev pub start : State
start = record { entries = []; inodes = new_directory ROOT ∷ []; handles = []; snaps = [] }

-- inodes are numbered in the order in which they are made
abbrev pub next_ino : State → Ino
next_ino state = record { 0 = FIRST_INO.0 + (length state.inodes - 1) }

abbrev pub same_ino : Ino → Ino → Bool
same_ino x y = x.0 == y.0

-- a directory is there while it is the root or an entry names it
abbrev pub is_there : List Entry → Ino → Bool
is_there entries dir = same_ino dir ROOT || list_any (λ entry. same_ino entry.ino dir) entries

-- the live snapshot of a directory that has a name
abbrev pub is_named : Ino → List ℕ → Snapshot → Bool
is_named dir name snap = snap.live && same_ino snap.root dir && bytes_eq snap.name name

-- what an inode is, a directory or a file; a directory where the list doesn't have it
abbrev pub kind_in : List Inode → Ino → Kind
kind_in [] ino = Dir
kind_in (inode ∷ inodes) ino = if same_ino inode.ino ino then inode.kind else kind_in inodes ino

-- the entry has this name in this directory
abbrev pub is_at : Ino → List ℕ → Entry → Bool
is_at dir name entry = same_ino entry.dir dir && bytes_eq entry.name name

-- the inode that a name has in a directory
abbrev pub lookup : List Entry → Ino → List ℕ → Option Ino
lookup [] dir name = None
lookup (entry ∷ entries) dir name = if is_at dir name entry then Some entry.ino else lookup entries dir name

-- entries stand by directory, and those of one directory by the bytes of their names
abbrev pub precedes : Entry → Entry → Bool
precedes a b = if same_ino a.dir b.dir then is_lt (slice_cmp nat_cmp a.name b.name) else nat_lt a.dir.0 b.dir.0

-- the entries and one more, in its place
abbrev pub add : Entry → List Entry → List Entry
add new [] = new ∷ []
add new (entry ∷ entries) = if precedes new entry then new ∷ entry ∷ entries else entry ∷ add new entries

-- an inode of the list; a directory where the list doesn't have it
abbrev pub inode_in : List Inode → Ino → Inode
inode_in [] ino = new_directory ino
inode_in (inode ∷ inodes) ino = if same_ino inode.ino ino then inode else inode_in inodes ino

-- what a directory lists: its entries by the bytes of their names, each with what it is
abbrev pub listing : (Ino → Kind) → List Entry → Ino → List (List ℕ × Kind)
listing kind entries dir =
    map (λ entry. (entry.name, kind entry.ino)) (filter (λ entry. same_ino entry.dir dir) entries)

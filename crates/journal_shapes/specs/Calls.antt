-- What a server calls on its table of inodes for one more entry.
use Rattle.std.specs.Prelude.{◌≡◌, ℕ, ◌<◌, ◌≤◌, true, ◌==◌, ◌&&◌, nat_lt, nat_le, List, if◌then◌else◌, None, Some, IsSome}
use Rattle.std.specs.Option.{option_map}
use Rattle.snap_ids.specs.declared.id.Ino.{Ino}
use Rattle.snap_ids.specs.declared.id.SnapId.{SnapId}
use Rattle.snap_ids.specs.declared.id.TheConstants.{NOSNAP}
use Rattle.snap_ids.specs.declared.values.Kind.TheVariants.{Dir, File}
use Rattle.snap_ids.specs.Context.{is_listed}
use Rattle.plain_types.specs.declared.entry.Entry.{Entry}
use Rattle.plain_types.specs.declared.entry.What.{What}
use Rattle.plain_types.specs.declared.entry.What.TheVariants.{Mkdir, Create, Chmod, Settle, Release, Trim}
use Rattle.plain_tree.specs.State.{new_directory}
use Rattle.plain_journal.specs.Entries.{state_after}
use Rattle.inode_versions.specs.declared.attr.Attr.{Attr}
use Rattle.inode_versions.specs.Histories.{History, since_changed, settled_at}
use Rattle.inode_versions.specs.Table.{attr_at, head_of, since, is_heads, first_settled, is_kept}
use Rattle.journal_shapes.specs.Stands.{last_id, next_id}
use Rattle.journal_moments.specs.Moments.{is_live_snap}

-- what a new directory is, and a new file; and the same with another mode
abbrev pub directory : Ino → Attr
directory ino = record { kind = Dir; mode = (new_directory ino).mode; size = 0 }

abbrev pub file : ℕ → Attr
file mode = record { kind = File; mode = mode; size = 0 }

abbrev pub in_mode : ℕ → Attr → Attr
in_mode mode attr = record { kind = attr.kind; mode = mode; size = attr.size }

-- what `create` leaves of a table
pub record Created (ino : Ino) (birth : SnapId) (attr : Attr) (old new : List (ℕ × History)) : Type 0 where
  pub at : (i : Ino) → (s : SnapId) → s.0 ≤ NOSNAP.0 → attr_at new i s ≡ (if i.0 == ino.0 then (if nat_le birth.0 s.0 then Some attr else None) else attr_at old i s)
  pub first : (i : Ino) → since new i ≡ (if i.0 == ino.0 then Some birth else since old i)

-- what `change` leaves
pub record Changed (ino : Ino) (follows : SnapId) (attr : Attr) (old new : List (ℕ × History)) : Type 0 where
  pub at : (i : Ino) → (s : SnapId) → s.0 ≤ NOSNAP.0 → attr_at new i s ≡ (if (i.0 == ino.0) && (nat_lt follows.0 s.0 && is_heads old i s) then Some attr else attr_at old i s)
  pub first : (i : Ino) → since new i ≡ (if i.0 == ino.0 then option_map (since_changed follows) (since old i) else since old i)

-- what `settle` leaves
pub record Settled (ino : Ino) (follows upto : SnapId) (size : ℕ) (old new : List (ℕ × History)) : Type 0 where
  pub at : (i : Ino) → (s : SnapId) → s.0 ≤ NOSNAP.0 → attr_at new i s ≡ (if i.0 == ino.0 then option_map (settled_at follows upto size s) (attr_at old i s) else attr_at old i s)
  pub first : (i : Ino) → since new i ≡ (if i.0 == ino.0 then first_settled follows upto size (head_of old i) (since old i) else since old i)

-- what `trim` leaves
pub record Trimmed (live : List SnapId) (old new : List (ℕ × History)) : Type 0 where
  pub listed : (i : Ino) → (s : SnapId) → is_listed s live ≡ true → attr_at new i s ≡ attr_at old i s
  pub at : (i : Ino) → (s : SnapId) → attr_at new i s ≡ (if is_kept live old i s then attr_at old i s else None)
  pub first : (i : Ino) → since new i ≡ since old i

-- a list has the id of each live snapshot
abbrev pub HasLive : List Entry → List SnapId → Type 0
HasLive entries list = (s : SnapId) → is_live_snap s (state_after entries).snaps ≡ true → is_listed s list ≡ true

-- What is left of a table by what is called on it for one entry more. What is made is valid from the id above the last one,
-- and a mode changes above the last one. A flush's size is settled at the ids that it names, the last flush's up to what is
-- live. A trim keeps what live snapshots have.
abbrev pub Called : List Entry → What → List (ℕ × History) → List (ℕ × History) → Type 0
Called entries (Mkdir dir name ino) old new = Created ino (next_id entries) (directory ino) old new
Called entries (Create dir name ino mode) old new = Created ino (next_id entries) (file mode) old new
Called entries (Chmod ino mode) old new =
    (head : Attr) × (head_of old ino ≡ Some head) × Changed ino (last_id entries) (in_mode mode head) old new
Called entries (Settle ino follows upto size) old new = Settled ino follows upto size old new
Called entries (Release ino follows size) old new = Settled ino follows NOSNAP size old new
Called entries (Trim id) old new = (list : List SnapId) × HasLive entries list × Trimmed list old new
Called entries what old new = new ≡ old

-- what `create` asks for
pub record IsNew (ino : Ino) (birth : SnapId) (table : List (ℕ × History)) : Type 0 where
  pub below_nosnap : birth.0 < NOSNAP.0
  pub absent : head_of table ino ≡ None

-- what `change` and `settle` ask for
pub record IsThere (ino : Ino) (follows : SnapId) (table : List (ℕ × History)) : Type 0 where
  pub below_nosnap : follows.0 < NOSNAP.0
  pub there : IsSome (head_of table ino)

-- what the call for one entry more asks for
abbrev pub IsFine : List Entry → What → List (ℕ × History) → Type 0
IsFine entries (Mkdir dir name ino) table = IsNew ino (next_id entries) table
IsFine entries (Create dir name ino mode) table = IsNew ino (next_id entries) table
IsFine entries (Chmod ino mode) table = IsThere ino (last_id entries) table
IsFine entries (Settle ino follows upto size) table = IsThere ino follows table
IsFine entries (Release ino follows size) table = IsThere ino follows table
IsFine entries what table = Unit {0}

-- What an inode is now, and what it was when earlier ids were applied.
use Rattle.std.specs.Prelude.{ℕ, ◌+◌, ◌≤◌, Bool, ◌&&◌, ◌||◌, ◌==◌, nat_lt, nat_le, max, List, [], ◌∷◌, if◌then◌else◌, Option, None, Some}
use Rattle.std.specs.List.{list_any}
use Rattle.snap_ids.specs.declared.id.SnapId.{SnapId}
use Rattle.snap_ids.specs.declared.id.TheConstants.{NOSNAP}
use Rattle.inode_versions.specs.declared.attr.Attr.{Attr}
use Rattle.inode_versions.specs.declared.attr.Version.{Version}

-- an inode: what it is now, the first id for which it is that, and its earlier versions, the oldest first
pub record History : Type 0 where
  pub since : SnapId
  pub head : Attr
  pub earlier : List Version

-- the version is valid at an id
abbrev pub is_valid_at : SnapId → Version → Bool
is_valid_at s version = nat_le version.valid.first.0 s.0 && nat_le s.0 version.valid.last.0

-- the attribute of the version that is valid at an id
abbrev pub earlier_at : List Version → SnapId → Option Attr
earlier_at [] s = None
earlier_at (version ∷ versions) s = if is_valid_at s version then Some version.attr else earlier_at versions s

-- what the inode is at an id: the head from its first id to NOSNAP, before that what a version says that is valid there
abbrev pub at_id : History → SnapId → Option Attr
at_id history s =
    if nat_le history.since.0 s.0 then (if nat_le s.0 NOSNAP.0 then Some history.head else None)
    else earlier_at history.earlier s

-- versions between two ids: in order, and without overlap
abbrev pub AreBetween : ℕ → List Version → ℕ → Type 0
AreBetween low [] high = low ≤ high
AreBetween low (version ∷ versions) high = (low ≤ version.valid.first.0) × (version.valid.first.0 ≤ version.valid.last.0) × AreBetween (version.valid.last.0 + 1) versions high

-- the head is valid at NOSNAP, and the earlier versions before it
pub record IsHistory (history : History) : Type 0 where
  pub live : history.since.0 ≤ NOSNAP.0
  pub earlier : AreBetween 0 history.earlier history.since.0

-- an attribute with another size
abbrev pub with_size : ℕ → Attr → Attr
with_size size attr = record { kind = attr.kind; mode = attr.mode; size = size }

-- an attribute at an id, after a size is settled at the ids above `follows` and up to `upto`
abbrev pub settled_at : SnapId → SnapId → ℕ → SnapId → Attr → Attr
settled_at follows upto size s attr = if nat_lt follows.0 s.0 && nat_le s.0 upto.0 then with_size size attr else attr

-- the first id of the head after a change above `follows`
abbrev pub since_changed : SnapId → SnapId → SnapId
since_changed follows since = record { 0 = max since.0 (follows.0 + 1) }

-- the first id of the head after a size is settled. It moves only where an answer of the head changes: above the ids that get
-- the size, or to the first of them where the head gets it
abbrev pub since_settled : SnapId → SnapId → ℕ → Attr → SnapId → SnapId
since_settled follows upto size head since =
    if (head.size == size) || (nat_le upto.0 follows.0 || nat_lt upto.0 since.0) then since
    else if nat_lt upto.0 NOSNAP.0 then record { 0 = upto.0 + 1 }
    else record { 0 = max since.0 (follows.0 + 1) }

-- an id of a list is one at which the version is valid
abbrev pub is_needed : List SnapId → Version → Bool
is_needed live version = list_any (λ s. is_valid_at s version) live

-- what the inode is at an id is the head, or a version that an id of a list needs
abbrev pub is_kept_at : List SnapId → History → SnapId → Bool
is_kept_at live history s = nat_le history.since.0 s.0 || list_any (λ version. is_valid_at s version && is_needed live version) history.earlier

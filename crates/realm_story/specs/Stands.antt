-- Records stand for a plain story.
use Rattle.std.specs.Prelude.{◌≡◌, ℕ, ◌+◌, ◌<◌, ◌≤◌, true, false, nat_le, List, [], ◌∷◌, length, Option, None, Some}
use Rattle.std.specs.List.{list_all}
use Rattle.snap_ids.specs.declared.id.Ino.{Ino}
use Rattle.snap_ids.specs.declared.id.SnapId.{SnapId}
use Rattle.snap_ids.specs.Traces.{if_from}
use Rattle.realm_story.specs.declared.records.Realm.{Realm}
use Rattle.realm_story.specs.declared.records.Node.{Node}
use Rattle.realm_story.specs.declared.records.Snap.{Snap}
use Rattle.realm_story.specs.Family.{Made, Family, member, is_there, above_by, way_up, is_root, is_in_global, is_marked, birth_of, is_on, covering, greatest}
use Rattle.realm_story.specs.Family.{ids_of as made_ids}
use Rattle.realm_story.specs.Records.{parent_by, birth_by, realm_by, is_node, is_realm, lists, seq_on}

-- a snapshot as the server has it
abbrev pub plain : Made → Snap
plain made = record { id = made.id; root = made.root; name = made.name; live = made.live }

-- those that the store still keeps
abbrev pub plain_kept : List Made → List Snap
plain_kept [] = []
plain_kept (made ∷ snaps) = elim made.purged [ true ↦ plain_kept snaps | false ↦ plain made ∷ plain_kept snaps ]

-- the ids fall strictly below a bound, and none is below the first
abbrev pub FallBelow : ℕ → List Made → Type 0
FallBelow bound [] = Unit {0}
FallBelow bound (made ∷ snaps) = (made.id.0 < bound) × (2 ≤ made.id.0) × FallBelow made.id.0 snaps

-- the parents lead up this way
abbrev pub Climbs : (ℕ → Option Node) → Ino → List Ino → Type 0
Climbs at ino [] = parent_by (at ino.0) ≡ None
Climbs at ino (next ∷ way) = (parent_by (at ino.0) ≡ Some next) × Climbs at next way

-- no inode stands twice on a way
abbrev pub IsApart : List Ino → Type 0
IsApart [] = Unit {0}
IsApart (ino ∷ way) = (is_on ino way ≡ false) × IsApart way

-- there are no more inodes than so many
abbrev pub HasAtMost : ℕ → (ℕ → Option Node) → Type 0
HasAtMost n at = (way : List Ino) → IsApart way → ((ino : Ino) → is_on ino way ≡ true → is_node (at ino.0) ≡ true) → length way ≤ n

-- a realm is no later than the last id
abbrev pub IsEarly : ℕ → Option Realm → Type 0
IsEarly last None = Unit {0}
IsEarly last (Some realm) = (realm.seq.0 ≤ last) × (realm.since.0 ≤ last + 1) × (list_all (λ (id : SnapId). nat_le id.0 last) realm.past ≡ true)

abbrev pub Each : (Made → Type 0) → List Made → Type 0
Each P [] = Unit {0}
Each P (made ∷ snaps) = P made × Each P snaps

-- the realms on a way list a kept snapshot exactly where it covers the inode
abbrev pub IsRight : (ℕ → Option Node) → List Ino → Ino → SnapId → Made → Type 0
IsRight at way ino birth made =
    made.purged ≡ false → birth.0 ≤ made.id.0 → lists at way made.root made.id ≡ is_on ino made.covered

-- a realm begins at each directory that has a snapshot
abbrev pub IsRooted : Family → Made → Type 0
IsRooted family made =
    is_there family.members made.root ≡ true → is_in_global family.members made.root ≡ false
    → is_marked family.marked made.root ≡ true

-- what is true of the records by themselves, and what ties them to the story
pub record Stands (at : ℕ → Option Node) (snaps : List Snap) (applied : SnapId) (family : Family) : Type 0 where
  pub applied_is : applied ≡ family.applied
  pub snaps_are : snaps ≡ plain_kept family.snaps
  pub fall : FallBelow (applied.0 + 1) family.snaps
  pub last : applied.0 ≡ greatest (made_ids family.snaps)
  pub there : (ino : Ino) → is_node (at ino.0) ≡ is_there family.members ino
  pub births : (ino : Ino) → birth_by (at ino.0) ≡ birth_of family ino
  pub late : (ino : Ino) → 2 ≤ (birth_of family ino).0
  pub born : (ino : Ino) → (birth_of family ino).0 ≤ applied.0 + 1
  pub marks : (ino : Ino) → is_realm (realm_by (at ino.0)) ≡ is_marked family.marked ino
  pub climbs : (ino : Ino) → Climbs at ino (above_by (member family.members ino))
  pub closed : (ino next : Ino) → parent_by (at ino.0) ≡ Some next → is_there family.members next ≡ true
  pub tops : (ino : Ino) → is_root ino ≡ true → parent_by (at ino.0) ≡ None
  pub early : (ino : Ino) → IsEarly applied.0 (realm_by (at ino.0))
  pub named : Each (λ made. made.purged ≡ true → made.live ≡ false) family.snaps
  pub rooted : Each (IsRooted family) family.snaps
  pub right : (ino : Ino) → is_there family.members ino ≡ true → is_in_global family.members ino ≡ false
      → Each (IsRight at (way_up family.members ino) ino (birth_of family ino)) family.snaps
  pub latest : (ino : Ino) → is_there family.members ino ≡ true → is_in_global family.members ino ≡ false
      → if_from (birth_of family ino) (seq_on at (way_up family.members ino)) 1 ≡ greatest (made_ids (covering family ino))

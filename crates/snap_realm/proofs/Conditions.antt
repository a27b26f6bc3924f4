-- What the conditions of the calls are in the words of a story.
use Rattle.std.proofs.Common.{◌≡◌, ℕ, Bool, true, false, ◌||◌, ◌&&◌, eqb, List, [], ◌∷◌, Option, None, Some, refl, ap, sym, ◌∙◌, subst}
use Rattle.std.specs.List.{list_any}
use Rattle.snap_ids.specs.declared.id.Ino.{Ino}
use Rattle.snap_ids.specs.declared.id.SnapId.{SnapId}
use Rattle.realm_story.specs.declared.records.Node.{Node}
use Rattle.realm_story.specs.declared.records.Snap.{Snap}
use Rattle.realm_story.specs.Family.{Made, Family, is_root, member, above_by, is_on}
use Rattle.realm_story.specs.Family.{is_under as family_under}
use Rattle.realm_story.specs.Records.{parent_by}
use Rattle.realm_story.specs.Stands.{Climbs, Each, plain, plain_kept}
use Rattle.snap_realm.specs.Tree.{Tree, StandsFor, IsLeaf, node_at, is_there, is_under, is_live}
use Rattle.snap_realm.specs.Realms.{IsChildless}
use Rattle.snap_realm.proofs.Values.{way_is}

pub under_is : (tree : Tree) (family : Family) → StandsFor tree family → (ino top : Ino) → is_there tree ino ≡ true → is_under tree ino top ≡ family_under family.members ino top
under_is tree family stands ino top there = ap (is_on top) (way_is tree family stands ino there)

above : (at : ℕ → Option Node) (other ino : Ino) (way : List Ino) → Climbs at other way → parent_by (at other.0) ≡ Some ino → ((rest : List Ino) → way ≡ ino ∷ rest → ⊥) → ⊥
above at other ino [] climbs has none = cc
above at other ino (next ∷ rest) climbs has none = none rest (ap (λ (i : Ino). i ∷ rest) (cc (climbs.0, has)))

pub leaf_is : (tree : Tree) (family : Family) → StandsFor tree family → (ino : Ino) → is_root ino ≡ false → IsChildless family ino → IsLeaf tree ino
leaf_is tree family stands ino root none = record {
  no_root = root;
  no_child = λ other has. above (node_at tree.nodes) other ino (above_by (member family.members other)) (stands.climbs other) has (none other);
}

live_any : (id : SnapId) (snaps : List Made) → Each (λ made. made.purged ≡ true → made.live ≡ false) snaps → list_any (λ (snap : Snap). snap.live && eqb snap.id.0 id.0) (plain_kept snaps) ≡ list_any (λ (made : Made). made.live && eqb made.id.0 id.0) snaps
live_any id [] named = refl
live_any id (made ∷ snaps) named = go made.purged refl (live_any id snaps named.1)
  where
    go : (p : Bool) → made.purged ≡ p → list_any (λ (snap : Snap). snap.live && eqb snap.id.0 id.0) (plain_kept snaps) ≡ list_any (λ (made : Made). made.live && eqb made.id.0 id.0) snaps → list_any (λ (snap : Snap). snap.live && eqb snap.id.0 id.0) (elim p [ true ↦ plain_kept snaps | false ↦ plain made ∷ plain_kept snaps ]) ≡ ((made.live && eqb made.id.0 id.0) || list_any (λ (made : Made). made.live && eqb made.id.0 id.0) snaps)
    go true is rest = rest ∙ sym (ap (λ b. (b && eqb made.id.0 id.0) || list_any (λ (made : Made). made.live && eqb made.id.0 id.0) snaps) (named.0 is))
    go false is rest = ap (λ b. (made.live && eqb made.id.0 id.0) || b) rest

pub live_is : (tree : Tree) (family : Family) → StandsFor tree family → (id : SnapId) → is_live tree id ≡ list_any (λ (snap : Made). snap.live && eqb snap.id.0 id.0) family.snaps
live_is tree family stands id = ap (λ (s : List Snap). list_any (λ (snap : Snap). snap.live && eqb snap.id.0 id.0) s) stands.snaps_are ∙ live_any id family.snaps stands.named

-- The realms of a trace, and their own ids, are those of the story.
use Rattle.std.proofs.Common.{◌≡◌, ℕ, Bool, true, false, cond, List, [], ◌∷◌, map, filter, Option, None, Some, refl, ap, ◌∙◌}
use Rattle.snap_ids.specs.declared.id.Ino.{Ino}
use Rattle.snap_ids.specs.declared.id.SnapId.{SnapId}
use Rattle.snap_ids.specs.declared.id.TheConstants.{GLOBAL}
use Rattle.snap_ids.specs.declared.values.RealmInfo.{RealmInfo}
use Rattle.realm_story.specs.declared.records.Node.{Node}
use Rattle.realm_story.specs.declared.records.Realm.{Realm}
use Rattle.realm_story.specs.declared.records.Snap.{Snap}
use Rattle.realm_story.specs.Family.{Family, is_on, is_in_global, is_marked, way_up, own_ids}
use Rattle.realm_story.specs.Records.{realm_by, is_realm, own_of, info_by, infos}
use Rattle.realm_story.specs.Stands.{plain_kept}
use Rattle.realm_story.proofs.Told.{own_is}
use Rattle.snap_realm.specs.Tree.{Tree, StandsFor, node_at, is_there, global_info, trace_of}
use Rattle.snap_realm.specs.Realms.{realms_of}
use Rattle.snap_realm.proofs.Values.{way_is}

abbrev pub own_part : RealmInfo → Ino × List SnapId
own_part info = (info.ino, info.own)

infos_are : (at : ℕ → Option Node) (snaps : List Snap) (family : Family) → ((ino : Ino) → is_realm (realm_by (at ino.0)) ≡ is_marked family.marked ino) → snaps ≡ plain_kept family.snaps → (way : List Ino) → map own_part (infos at snaps way) ≡ map (λ dir. (dir, own_ids family dir)) (filter (is_marked family.marked) way)
infos_are at snaps family marks kept [] = refl
infos_are at snaps family marks kept (ino ∷ way) = go (realm_by (at ino.0)) (is_marked family.marked ino) (marks ino) (infos_are at snaps family marks kept way)
  where
    own : own_of snaps ino ≡ own_ids family ino
    own = ap (λ s. own_of s ino) kept ∙ own_is ino family.snaps

    go : (realm : Option Realm) (b : Bool) → is_realm realm ≡ b → map own_part (infos at snaps way) ≡ map (λ dir. (dir, own_ids family dir)) (filter (is_marked family.marked) way) → map own_part (info_by realm ino snaps (infos at snaps way)) ≡ map (λ dir. (dir, own_ids family dir)) (cond b (ino ∷ filter (is_marked family.marked) way) (filter (is_marked family.marked) way))
    go None true is rest = cc
    go None false is rest = rest
    go (Some realm) true is rest = λ i. (ino, own i) ∷ rest i
    go (Some realm) false is rest = cc

-- which realms a trace has
pub realms_law : (tree : Tree) (family : Family) → StandsFor tree family → (ino : Ino) → is_there tree ino ≡ true → map own_part (trace_of tree ino) ≡ realms_of family ino
realms_law tree family stands ino there =
    ap (λ w. map own_part (cond (is_on GLOBAL w) (global_info tree ∷ []) (infos (node_at tree.nodes) tree.snaps w))) (way_is tree family stands ino there)
    ∙ go (is_in_global family.members ino)
  where
    go : (b : Bool) → map own_part (cond b (global_info tree ∷ []) (infos (node_at tree.nodes) tree.snaps (way_up family.members ino))) ≡ cond b ((GLOBAL, []) ∷ []) (map (λ dir. (dir, own_ids family dir)) (filter (is_marked family.marked) (way_up family.members ino)))
    go true = refl
    go false = infos_are (node_at tree.nodes) tree.snaps family stands.marks stands.snaps_are (way_up family.members ino)

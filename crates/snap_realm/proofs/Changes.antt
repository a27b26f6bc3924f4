-- What a call makes of a tree's records stands for what it makes of the story.
use Rattle.std.proofs.Common.{◌≡◌, ℕ, ◌+◌, ◌<◌, Bool, true, false, not, ◌||◌, ◌&&◌, cond, eqb, List, [], ◌∷◌, map, filter, Option, None, Some, refl, ap, sym, ◌∙◌, subst, eqb-true}
use Rattle.std.specs.List.{list_any}
use Rattle.std.specs.Map.{lookup}
use Rattle.std.specs.Option.{option_map}
use Rattle.std.specs.Ordering.{nat_cmp}
use Rattle.std.specs.BTreeMap.{is_at}
use Rattle.snap_ids.specs.declared.id.Ino.{Ino}
use Rattle.snap_ids.specs.declared.id.SnapId.{SnapId}
use Rattle.snap_ids.specs.declared.id.TheConstants.{GLOBAL}
use Rattle.realm_story.specs.declared.records.Node.{Node}
use Rattle.realm_story.specs.declared.records.Realm.{Realm}
use Rattle.realm_story.specs.declared.records.Snap.{Snap}
use Rattle.realm_story.specs.Family.{Made, Family, same_ino, member, above_by, is_on, is_root, is_fresh, next_id, start, born, move_to, to_global, forget, purged, add_snap, drop_snap, is_named}
use Rattle.realm_story.specs.Family.{is_in_global as family_global, realm_of as family_realm, leaves as family_leaves, leaves_realm, is_marked}
use Rattle.realm_story.specs.Records.{parent_by, birth_by, realm_by, is_node, seq_on}
use Rattle.realm_story.specs.Stands.{Climbs, Each, Stands, plain, plain_kept}
use Rattle.realm_story.proofs.Facts.{itself, both_of}
use Rattle.realm_story.proofs.Same.{put}
use Rattle.realm_story.proofs.Start.{root_node, roots, start_law}
use Rattle.realm_story.proofs.Born.{born_law}
use Rattle.realm_story.proofs.Gone.{IsLeaf as HasNoneBelow}
use Rattle.realm_story.proofs.Leaves.{global_law, forget_law}
use Rattle.realm_story.proofs.Dropped.{IsUnnamed, purged_law, drop_law}
use Rattle.realm_story.proofs.Snapped.{snapped, snapped_law}
use Rattle.realm_story.proofs.Moves.{IsMove, stay_law, leave_law, left_ids, global_move}
use Rattle.snap_realm.specs.Tree.{Tree, node_at, StandsFor, is_there, way, is_under, is_in_global, is_leaf, IsLeaf, is_child, is_live, begins_at, realm_of, leaves, opened_at}
use Rattle.snap_realm.specs.Walks.{hung, opened, unnamed, snapped_at}
use Rattle.snap_realm.specs.Walks.{snapped as own_snapped}
use Rattle.snap_realm.proofs.Values.{way_is, global_is, realm_law}

-- records that are the same stand for the same
pub stands_at : (at new : ℕ → Option Node) (snaps : List Snap) (applied : SnapId) (family : Family) → ((k : ℕ) → new k ≡ at k) → Stands at snaps applied family → Stands new snaps applied family
stands_at at new snaps applied family same stands = subst (λ g. Stands g snaps applied family) (λ i k. sym (same k) i) stands

pub start_value : (r1 r2 r3 : Node) (at0 at1 at2 at3 : ℕ → Option Node) → r1 ≡ root_node → r2 ≡ root_node → r3 ≡ root_node → ((k : ℕ) → at0 k ≡ None) → ((k : ℕ) → at1 k ≡ cond (eqb 1 k) (Some r1) (at0 k)) → ((k : ℕ) → at2 k ≡ cond (eqb 2 k) (Some r2) (at1 k)) → ((k : ℕ) → at3 k ≡ cond (eqb 3 k) (Some r3) (at2 k)) → Stands at3 [] (record { 0 = 1 }) start
start_value r1 r2 r3 at0 at1 at2 at3 is1 is2 is3 none first second third =
    stands_at roots at3 [] (record { 0 = 1 }) start (λ k.
    third k ∙ ap (λ r. cond (eqb 3 k) (Some r) (at2 k)) is3
    ∙ ap (cond (eqb 3 k) (Some root_node)) (second k ∙ ap (λ r. cond (eqb 2 k) (Some r) (at1 k)) is2
    ∙ ap (cond (eqb 2 k) (Some root_node)) (first k ∙ ap (λ r. cond (eqb 1 k) (Some r) (at0 k)) is1
    ∙ ap (cond (eqb 1 k) (Some root_node)) (none k)))) start_law

pub born_value : (tree : Tree) (family : Family) → StandsFor tree family → (ino parent : Ino) → is_there tree parent ≡ true → is_in_global tree parent ≡ false → is_there tree ino ≡ false → is_fresh ino family.snaps ≡ true → (new : ℕ → Option Node) → ((k : ℕ) → new k ≡ put ino (Some (record { parent = Some parent; birth = record { 0 = tree.applied.0 + 1 }; realm = None })) (node_at tree.nodes) k) → Stands new tree.snaps tree.applied (born ino parent family)
born_value tree family stands ino parent there outside absent fresh new same =
    stands_at (put ino (Some (record { parent = Some parent; birth = record { 0 = tree.applied.0 + 1 }; realm = None })) (node_at tree.nodes)) new tree.snaps tree.applied (born ino parent family) same
    (born_law (node_at tree.nodes) tree.snaps tree.applied family stands ino parent (record { parent = Some parent; birth = record { 0 = tree.applied.0 + 1 }; realm = None }) (record {
      parent_is = refl;
      birth_is = ap next_id stands.applied_is;
      realm_is = refl;
      there = sym (stands.there parent) ∙ there;
      outside = sym (global_is tree family stands parent there) ∙ outside;
      new = sym (stands.there ino) ∙ absent;
      fresh = fresh;
    }))

found_child : (nodes : List (ℕ × Node)) (k : ℕ) (ino : Ino) → parent_by (lookup (is_at (nat_cmp k)) nodes) ≡ Some ino → list_any (λ (entry : ℕ × Node). is_child ino entry.1.parent) nodes ≡ true
found_child [] k ino h = cc
found_child (entry ∷ nodes) k ino h = go (is_at (nat_cmp k) entry.0) h (found_child nodes k ino)
  where
    or_true : (b : Bool) → (b || true) ≡ true
    or_true true = refl
    or_true false = refl

    go : (b : Bool) → parent_by (cond b (Some entry.1) (lookup (is_at (nat_cmp k)) nodes)) ≡ Some ino → (parent_by (lookup (is_at (nat_cmp k)) nodes) ≡ Some ino → list_any (λ (entry : ℕ × Node). is_child ino entry.1.parent) nodes ≡ true) → (is_child ino entry.1.parent || list_any (λ (entry : ℕ × Node). is_child ino entry.1.parent) nodes) ≡ true
    go true is later = ap (λ p. is_child ino p || list_any (λ (entry : ℕ × Node). is_child ino entry.1.parent) nodes) is ∙ ap (λ b. b || list_any (λ (entry : ℕ × Node). is_child ino entry.1.parent) nodes) (itself ino)
    go false is later = ap (λ b. is_child ino entry.1.parent || b) (later is) ∙ or_true (is_child ino entry.1.parent)

unnot : (b : Bool) → not b ≡ true → b ≡ false
unnot true h = sym h
unnot false h = refl

-- a test of all records says that an inode is a leaf
pub leaf_of : (tree : Tree) (ino : Ino) → is_leaf tree ino ≡ true → IsLeaf tree ino
leaf_of tree ino leaf =
    let both = both_of (not (is_root ino)) (not (list_any (λ (entry : ℕ × Node). is_child ino entry.1.parent) tree.nodes)) leaf in
    record {
      no_child = λ y h.
          let there : list_any (λ (entry : ℕ × Node). is_child ino entry.1.parent) tree.nodes ≡ true = found_child tree.nodes y.0 ino h in
          let never : list_any (λ (entry : ℕ × Node). is_child ino entry.1.parent) tree.nodes ≡ false = unnot _ both.1 in
          cc;
      no_root = unnot (is_root ino) both.0;
    }

leaf_at : (tree : Tree) (ino : Ino) → IsLeaf tree ino → HasNoneBelow (node_at tree.nodes) ino
leaf_at tree ino leaf = record { no_child = leaf.no_child; no_root = leaf.no_root }

pub global_value : (tree : Tree) (family : Family) → StandsFor tree family → (ino : Ino) → is_there tree ino ≡ true → IsLeaf tree ino → (birth : SnapId) → birth ≡ birth_by (node_at tree.nodes ino.0) → (new : ℕ → Option Node) → ((k : ℕ) → new k ≡ put ino (Some (record { parent = Some GLOBAL; birth = birth; realm = None })) (node_at tree.nodes) k) → Stands new tree.snaps tree.applied (to_global ino family)
global_value tree family stands ino there leaf birth is new same =
    stands_at (put ino (Some (record { parent = Some GLOBAL; birth = birth; realm = None })) (node_at tree.nodes)) new tree.snaps tree.applied (to_global ino family) same
    (global_law (node_at tree.nodes) tree.snaps tree.applied family stands ino (record { parent = Some GLOBAL; birth = birth; realm = None }) (leaf_at tree ino leaf) (sym (stands.there ino) ∙ there) refl (is ∙ stands.births ino) refl)

pub forget_value : (tree : Tree) (family : Family) → StandsFor tree family → (ino : Ino) → IsLeaf tree ino → (new : ℕ → Option Node) → ((k : ℕ) → new k ≡ put ino None (node_at tree.nodes) k) → Stands new tree.snaps tree.applied (forget ino family)
forget_value tree family stands ino leaf new same =
    stands_at (put ino None (node_at tree.nodes)) new tree.snaps tree.applied (forget ino family) same
    (forget_law (node_at tree.nodes) tree.snaps tree.applied family stands ino (leaf_at tree ino leaf))

purge_plain : (id : SnapId) (snaps : List Made) → filter (λ (snap : Snap). not (eqb snap.id.0 id.0)) (plain_kept snaps) ≡ plain_kept (map (λ (made : Made). record made { purged = made.purged || eqb made.id.0 id.0 }) snaps)
purge_plain id [] = refl
purge_plain id (made ∷ snaps) = go made.purged (eqb made.id.0 id.0) refl (purge_plain id snaps)
  where
    go : (p e : Bool) → eqb made.id.0 id.0 ≡ e → filter (λ (snap : Snap). not (eqb snap.id.0 id.0)) (plain_kept snaps) ≡ plain_kept (map (λ (made : Made). record made { purged = made.purged || eqb made.id.0 id.0 }) snaps) → filter (λ (snap : Snap). not (eqb snap.id.0 id.0)) (elim p [ true ↦ plain_kept snaps | false ↦ plain made ∷ plain_kept snaps ]) ≡ elim (p || e) [ true ↦ plain_kept (map (λ (made : Made). record made { purged = made.purged || eqb made.id.0 id.0 }) snaps) | false ↦ plain made ∷ plain_kept (map (λ (made : Made). record made { purged = made.purged || eqb made.id.0 id.0 }) snaps) ]
    go true e is rest = rest
    go false true is rest = rw is rest
    go false false is rest = rw is (ap (λ s. plain made ∷ s) rest)

none_named : (id : SnapId) (snaps : List Made) → Each (λ made. made.purged ≡ true → made.live ≡ false) snaps → list_any (λ (snap : Snap). snap.live && eqb snap.id.0 id.0) (plain_kept snaps) ≡ false → Each (IsUnnamed id) snaps
none_named id [] named none = tt
none_named id (made ∷ snaps) named none = go made.purged refl none (none_named id snaps named.1)
  where
    left_false : (a b : Bool) → (a || b) ≡ false → a ≡ false
    left_false true b h = h
    left_false false b h = refl

    right_false : (a b : Bool) → (a || b) ≡ false → b ≡ false
    right_false true b h = cc
    right_false false b h = h

    unnamed : (live e : Bool) → (live && e) ≡ false → e ≡ true → live ≡ false
    unnamed true e h is = sym is ∙ h
    unnamed false e h is = refl

    go : (p : Bool) → made.purged ≡ p → list_any (λ (snap : Snap). snap.live && eqb snap.id.0 id.0) (elim p [ true ↦ plain_kept snaps | false ↦ plain made ∷ plain_kept snaps ]) ≡ false → (list_any (λ (snap : Snap). snap.live && eqb snap.id.0 id.0) (plain_kept snaps) ≡ false → Each (IsUnnamed id) snaps) → IsUnnamed id made × Each (IsUnnamed id) snaps
    go true is h rest = (λ e. named.0 is, rest h)
    go false is h rest = (λ e. unnamed made.live (eqb made.id.0 id.0) (left_false (made.live && eqb made.id.0 id.0) _ h) e, rest (right_false (made.live && eqb made.id.0 id.0) _ h))

pub purged_value : (tree : Tree) (family : Family) → StandsFor tree family → (id : SnapId) → is_live tree id ≡ false → (snaps : List Snap) → snaps ≡ filter (λ (snap : Snap). not (eqb snap.id.0 id.0)) tree.snaps → Stands (node_at tree.nodes) snaps tree.applied (purged id family)
purged_value tree family stands id dropped snaps same =
    subst (λ s. Stands (node_at tree.nodes) s tree.applied (purged id family)) (sym (same ∙ ap (filter (λ (snap : Snap). not (eqb snap.id.0 id.0))) stands.snaps_are ∙ purge_plain id family.snaps))
    (purged_law (node_at tree.nodes) tree.snaps tree.applied family stands id (none_named id family.snaps stands.named
    (subst (λ s. list_any (λ (snap : Snap). snap.live && eqb snap.id.0 id.0) s ≡ false) stands.snaps_are dropped)))

-- the record of an inode that is there
record Found (at : ℕ → Option Node) (ino : Ino) : Type 0 where
  node : Node
  is : at ino.0 ≡ Some node

found_in : (at : ℕ → Option Node) (ino : Ino) (node : Option Node) → at ino.0 ≡ node → is_node node ≡ true → Found at ino
found_in at ino None is h = cc
found_in at ino (Some n) is h = record { node = n; is = is }

map_same : (node : Option Node) → option_map (λ (n : Node). n) node ≡ node
map_same None = refl
map_same (Some n) = refl

hang_put : (at new : ℕ → Option Node) (ino parent : Ino) (n : Node) → at ino.0 ≡ Some n → ((k : ℕ) → new k ≡ option_map (hung ino k parent) (at k)) → (k : ℕ) → new k ≡ put ino (Some (record { parent = Some parent; birth = n.birth; realm = n.realm })) at k
hang_put at new ino parent n is same k = same k ∙ go (eqb ino.0 k) refl
  where
    go : (b : Bool) → eqb ino.0 k ≡ b → option_map (λ (node : Node). cond b (record { parent = Some parent; birth = node.birth; realm = node.realm }) node) (at k) ≡ cond b (Some (record { parent = Some parent; birth = n.birth; realm = n.realm })) (at k)
    go true e = ap (option_map (λ (node : Node). record { parent = Some parent; birth = node.birth; realm = node.realm })) (ap at (sym (eqb-true ino.0 k e)) ∙ is)
    go false e = map_same (at k)

open_put : (at new : ℕ → Option Node) (ino : Ino) (realm : Realm) (n : Node) → at ino.0 ≡ Some n → ((k : ℕ) → new k ≡ option_map (opened ino k realm) (at k)) → (k : ℕ) → new k ≡ put ino (Some (record { parent = n.parent; birth = n.birth; realm = Some realm })) at k
open_put at new ino realm n is same k = same k ∙ go (eqb ino.0 k) refl
  where
    go : (b : Bool) → eqb ino.0 k ≡ b → option_map (λ (node : Node). cond b (record { parent = node.parent; birth = node.birth; realm = Some realm }) node) (at k) ≡ cond b (Some (record { parent = n.parent; birth = n.birth; realm = Some realm })) (at k)
    go true e = ap (option_map (λ (node : Node). record { parent = node.parent; birth = node.birth; realm = Some realm })) (ap at (sym (eqb-true ino.0 k e)) ∙ is)
    go false e = map_same (at k)

both_put : (at new last : ℕ → Option Node) (ino : Ino) (a b : Node) → ((k : ℕ) → new k ≡ put ino (Some a) at k) → ((k : ℕ) → last k ≡ put ino (Some b) new k) → (k : ℕ) → last k ≡ put ino (Some b) at k
both_put at new last ino a b first second k = second k ∙ go (eqb ino.0 k) refl
  where
    go : (t : Bool) → eqb ino.0 k ≡ t → cond t (Some b) (new k) ≡ cond t (Some b) (at k)
    go true e = refl
    go false e = first k ∙ ap (λ t. cond t (Some a) (at k)) e

-- what is asked of a move
pub record IsAsked (tree : Tree) (ino parent : Ino) : Type 0 where
  pub there : is_there tree ino ≡ true
  pub parent_there : is_there tree parent ≡ true
  pub no_root : is_root ino ≡ false
  pub outside : is_in_global tree parent ≡ false
  pub apart : is_under tree parent ino ≡ false

move_of : (tree : Tree) (family : Family) → StandsFor tree family → (ino parent : Ino) → IsAsked tree ino parent → is_in_global tree ino ≡ false → (n : Node) → node_at tree.nodes ino.0 ≡ Some n → (realm : Option Realm) → IsMove (node_at tree.nodes) family ino parent (record { parent = Some parent; birth = n.birth; realm = realm })
move_of tree family stands ino parent asked outside n is realm = record {
  parent_is = refl;
  birth_is = sym (ap birth_by is);
  there = sym (stands.there ino) ∙ asked.there;
  no_root = asked.no_root;
  outside = sym (global_is tree family stands ino asked.there) ∙ outside;
  parent_there = sym (stands.there parent) ∙ asked.parent_there;
  parent_outside = sym (global_is tree family stands parent asked.parent_there) ∙ asked.outside;
  apart = sym (ap (is_on ino) (way_is tree family stands parent asked.parent_there)) ∙ asked.apart;
}

leaves_is : (family : Family) (x parent : Ino) → family_global family.members x ≡ false → leaves_realm x parent family ≡ family_leaves family (above_by (member family.members x)) parent
leaves_is family x parent outside = ap (λ b. cond b false (family_leaves family (above_by (member family.members x)) parent)) outside

pub leaves_value : (tree : Tree) (family : Family) → StandsFor tree family → (ino parent : Ino) → IsAsked tree ino parent → is_in_global tree ino ≡ false → leaves tree (parent_by (node_at tree.nodes ino.0)) parent ≡ leaves_realm ino parent family
leaves_value tree family stands ino parent asked outside =
    go (above_by (member family.members ino)) (stands.climbs ino)
    ∙ sym (leaves_is family ino parent (sym (global_is tree family stands ino asked.there) ∙ outside))
  where
    go : (above : List Ino) → Climbs (node_at tree.nodes) ino above → leaves tree (parent_by (node_at tree.nodes ino.0)) parent ≡ family_leaves family above parent
    go [] climbs = ap (λ o. leaves tree o parent) climbs
    go (old ∷ way) climbs =
        ap (λ o. leaves tree o parent) climbs.0
        ∙ ap (λ r. not (same_ino r (realm_of tree parent))) (realm_law tree family stands old (stands.there old ∙ stands.closed ino old climbs.0))
        ∙ ap (λ r. not (same_ino (family_realm family old) r)) (realm_law tree family stands parent asked.parent_there)

pub stay_value : (tree : Tree) (family : Family) → StandsFor tree family → (ino parent : Ino) → IsAsked tree ino parent → is_in_global tree ino ≡ false → leaves tree (parent_by (node_at tree.nodes ino.0)) parent ≡ false → (new : ℕ → Option Node) → ((k : ℕ) → new k ≡ option_map (hung ino k parent) (node_at tree.nodes k)) → Stands new tree.snaps tree.applied (move_to ino parent family)
stay_value tree family stands ino parent asked outside stay new same =
    let found = found_in (node_at tree.nodes) ino (node_at tree.nodes ino.0) refl asked.there in
    let node : Node = record { parent = Some parent; birth = found.node.birth; realm = found.node.realm } in
    stands_at (put ino (Some node) (node_at tree.nodes)) new tree.snaps tree.applied (move_to ino parent family) (hang_put (node_at tree.nodes) new ino parent found.node found.is same)
    (stay_law (node_at tree.nodes) tree.snaps tree.applied family stands ino parent node (move_of tree family stands ino parent asked outside found.node found.is found.node.realm) (sym (ap realm_by found.is)) (sym (leaves_value tree family stands ino parent asked outside) ∙ stay))

pub leave_value : (tree : Tree) (family : Family) → StandsFor tree family → (ino parent : Ino) → IsAsked tree ino parent → is_in_global tree ino ≡ false → leaves tree (parent_by (node_at tree.nodes ino.0)) parent ≡ true → (realm : Realm) → realm ≡ opened_at tree ino → (new last : ℕ → Option Node) → ((k : ℕ) → new k ≡ option_map (opened ino k realm) (node_at tree.nodes k)) → ((k : ℕ) → last k ≡ option_map (hung ino k parent) (new k)) → Stands last tree.snaps tree.applied (move_to ino parent family)
leave_value tree family stands ino parent asked outside leave realm is_realm new last first second =
    let at : ℕ → Option Node = node_at tree.nodes in
    let found = found_in at ino (at ino.0) refl asked.there in
    let node : Node = record { parent = Some parent; birth = found.node.birth; realm = Some realm } in
    let once : Node = record { parent = found.node.parent; birth = found.node.birth; realm = Some realm } in
    let opens : (k : ℕ) → new k ≡ put ino (Some once) at k = open_put at new ino realm found.node found.is first in
    let mine : new ino.0 ≡ Some once = opens ino.0 ∙ ap (λ b. cond b (Some once) (at ino.0)) (itself ino) in
    let hangs : (k : ℕ) → last k ≡ put ino (Some node) new k = hang_put new last ino parent once mine second in
    stands_at (put ino (Some node) at) last tree.snaps tree.applied (move_to ino parent family) (both_put at new last ino once node opens hangs)
    (leave_law at tree.snaps tree.applied family stands ino parent node (move_of tree family stands ino parent asked outside found.node found.is (Some realm))
    (ap Some (is_realm ∙ ap (λ w. record { seq = record { 0 = seq_on at w }; since = next_id tree.applied; past = left_ids at tree.snaps w ino }) (way_is tree family stands ino asked.there)))
    (sym (leaves_value tree family stands ino parent asked outside) ∙ leave))

pub global_inside : (tree : Tree) (family : Family) → StandsFor tree family → (ino : Ino) → is_there tree ino ≡ true → is_in_global tree ino ≡ true → (parent : Ino) → StandsFor tree (move_to ino parent family) × (false ≡ leaves_realm ino parent family)
global_inside tree family stands ino there inside parent =
    let in_story : family_global family.members ino ≡ true = sym (global_is tree family stands ino there) ∙ inside in (
      subst (StandsFor tree) (sym (global_move family ino parent in_story)) stands,
      sym (ap (λ b. cond b false (family_leaves family (above_by (member family.members ino)) parent)) in_story),
    )

drop_plain : (dir : Ino) (name : List ℕ) (snaps : List Made) → map (unnamed dir name) (plain_kept snaps) ≡ plain_kept (map (λ (made : Made). record made { live = made.live && not (is_named dir name made) }) snaps)
drop_plain dir name [] = refl
drop_plain dir name (made ∷ snaps) = go made.purged (drop_plain dir name snaps)
  where
    go : (p : Bool) → map (unnamed dir name) (plain_kept snaps) ≡ plain_kept (map (λ (made : Made). record made { live = made.live && not (is_named dir name made) }) snaps) → map (unnamed dir name) (elim p [ true ↦ plain_kept snaps | false ↦ plain made ∷ plain_kept snaps ]) ≡ elim p [ true ↦ plain_kept (map (λ (made : Made). record made { live = made.live && not (is_named dir name made) }) snaps) | false ↦ plain (record made { live = made.live && not (is_named dir name made) }) ∷ plain_kept (map (λ (made : Made). record made { live = made.live && not (is_named dir name made) }) snaps) ]
    go true rest = rest
    go false rest = ap (λ s. unnamed dir name (plain made) ∷ s) rest

pub drop_value : (tree : Tree) (family : Family) → StandsFor tree family → (dir : Ino) (name : List ℕ) (snaps : List Snap) → snaps ≡ map (unnamed dir name) tree.snaps → Stands (node_at tree.nodes) snaps tree.applied (drop_snap dir name family)
drop_value tree family stands dir name snaps same =
    subst (λ s. Stands (node_at tree.nodes) s tree.applied (drop_snap dir name family)) (sym (same ∙ ap (map (unnamed dir name)) stands.snaps_are ∙ drop_plain dir name family.snaps))
    (drop_law (node_at tree.nodes) tree.snaps tree.applied family stands dir name)

snapped_same : (id : SnapId) (r : Option Realm) → own_snapped id r ≡ snapped id r
snapped_same id None = refl
snapped_same id (Some realm) = refl

snap_put : (at new : ℕ → Option Node) (dir : Ino) (id : SnapId) (n : Node) → at dir.0 ≡ Some n → ((k : ℕ) → new k ≡ option_map (snapped_at dir k id) (at k)) → (k : ℕ) → new k ≡ put dir (Some (record { parent = n.parent; birth = n.birth; realm = Some (own_snapped id n.realm) })) at k
snap_put at new dir id n is same k = same k ∙ go (eqb dir.0 k) refl
  where
    go : (b : Bool) → eqb dir.0 k ≡ b → option_map (λ (node : Node). cond b (record { parent = node.parent; birth = node.birth; realm = Some (own_snapped id node.realm) }) node) (at k) ≡ cond b (Some (record { parent = n.parent; birth = n.birth; realm = Some (own_snapped id n.realm) })) (at k)
    go true e = ap (option_map (λ (node : Node). record { parent = node.parent; birth = node.birth; realm = Some (own_snapped id node.realm) })) (ap at (sym (eqb-true dir.0 k e)) ∙ is)
    go false e = map_same (at k)

pub add_value : (tree : Tree) (family : Family) → StandsFor tree family → (dir : Ino) (id : SnapId) (name : List ℕ) → is_there tree dir ≡ true → is_in_global tree dir ≡ false → tree.applied.0 < id.0 → (new : ℕ → Option Node) → ((k : ℕ) → new k ≡ option_map (snapped_at dir k id) (node_at tree.nodes k)) → (snaps : List Snap) → snaps ≡ record { id = id; root = dir; name = name; live = true } ∷ tree.snaps → Stands new snaps id (add_snap dir id name family)
add_value tree family stands dir id name there outside later new same snaps more =
    let at : ℕ → Option Node = node_at tree.nodes in
    let found = found_in at dir (at dir.0) refl there in
    let node : Node = record { parent = found.node.parent; birth = found.node.birth; realm = Some (own_snapped id found.node.realm) } in
    subst (λ s. Stands new s id (add_snap dir id name family)) (sym more)
    (stands_at (put dir (Some node) at) new (record { id = id; root = dir; name = name; live = true } ∷ tree.snaps) id (add_snap dir id name family) (snap_put at new dir id found.node found.is same)
    (snapped_law at tree.snaps tree.applied family stands dir id name node (record {
      parent_is = sym (ap parent_by found.is);
      birth_is = sym (ap birth_by found.is);
      realm_is = ap Some (snapped_same id found.node.realm ∙ ap (snapped id) (sym (ap realm_by found.is)));
      there = sym (stands.there dir) ∙ there;
      outside = sym (global_is tree family stands dir there) ∙ outside;
      later = later;
    })))

-- whether a move makes a realm begin where none did
pub opens_value : (tree : Tree) (family : Family) → StandsFor tree family → (ino parent : Ino) → IsAsked tree ino parent → ((not (is_in_global tree ino) && leaves tree (parent_by (node_at tree.nodes ino.0)) parent) && not (begins_at tree ino)) ≡ (leaves_realm ino parent family && not (is_marked family.marked ino))
opens_value tree family stands ino parent asked =
    ap (λ b. (not (is_in_global tree ino) && leaves tree (parent_by (node_at tree.nodes ino.0)) parent) && not b) (stands.marks ino)
    ∙ ap (λ b. b && not (is_marked family.marked ino)) (go (is_in_global tree ino) refl)
  where
    go : (b : Bool) → is_in_global tree ino ≡ b → (not b && leaves tree (parent_by (node_at tree.nodes ino.0)) parent) ≡ leaves_realm ino parent family
    go true inside = sym (ap (λ b. cond b false (family_leaves family (above_by (member family.members ino)) parent)) (sym (global_is tree family stands ino asked.there) ∙ inside))
    go false outside = leaves_value tree family stands ino parent asked outside

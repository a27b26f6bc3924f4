-- What a tree's records say is what the story says, for each story that the tree stands for.
use Rattle.std.proofs.Common.{◌≡◌, ℕ, ◌<◌, ◌≤◌, Bool, true, false, ◌||◌, ◌&&◌, cond, eqb, leb, List, [], ◌∷◌, length, map, filter, Option, None, Some, refl, ap, sym, ◌∙◌, subst, arith, eqb-true, Less, Equal, Greater}
use Rattle.std.proofs.lemmas.Bool.Decides.{nat_tests}
use Rattle.std.proofs.lemmas.Cmp.{eq_by_cmp_equiv, nat_cmp_total}
use Rattle.std.proofs.lemmas.Map.Steps.{length-le_from_keys}
use Rattle.std.specs.Cmp.{nat_cmp_is}
use Rattle.std.specs.List.{IsDistinct, AllByRecursion, list_any}
use Rattle.std.specs.Option.{IsSome}
use Rattle.std.specs.Ordering.{nat_cmp, is_eq, eq_by_cmp}
use Rattle.std.specs.BTreeMap.{is_at}
use Rattle.snap_ids.specs.declared.id.Ino.{Ino}
use Rattle.snap_ids.specs.declared.id.SnapId.{SnapId}
use Rattle.snap_ids.specs.declared.id.TheConstants.{GLOBAL}
use Rattle.snap_ids.specs.declared.values.RealmInfo.{RealmInfo}
use Rattle.snap_ids.specs.Context.{Context}
use Rattle.snap_ids.specs.Traces.{from_id, if_from, context_of}
use Rattle.snap_ids.specs.Traces.{seq_of as trace_seq}
use Rattle.realm_story.specs.declared.records.Node.{Node}
use Rattle.realm_story.specs.declared.records.Snap.{Snap}
use Rattle.realm_story.specs.Family.{Made, Family, same_ino, member, above_by, way_up, is_on, is_marked, nearest, context}
use Rattle.realm_story.specs.Family.{is_in_global as family_global, realm_of as family_realm, birth_of as family_birth, live_ids as family_live, ids_of as made_ids}
use Rattle.realm_story.specs.Records.{is_node, nearest_on, ids_of, infos, seq_on}
use Rattle.realm_story.specs.Stands.{Each, IsApart, HasAtMost, plain, plain_kept}
use Rattle.realm_story.proofs.Ways.{up_is}
use Rattle.realm_story.proofs.Given.{seq_given}
use Rattle.realm_story.proofs.Contexts.{context_is, global_context_is, context_of_any, effective_is}
use Rattle.realm_story.proofs.Told.{realm_is}
use Rattle.snap_realm.specs.Tree.{Tree, node_at, StandsFor, is_there, way, is_in_global, birth_of, begins_at, realm_of, global_info, trace_of, top_seq, seq_of, live_ids, is_live_of}

-- the order of numbers tells equal ones
pub at_is : (k q : ℕ) → is_at (nat_cmp k) q ≡ eqb k q
at_is k q = go (eqb k q) refl
  where
    unequal : (b : Bool) → eqb k q ≡ false → leb k q ≡ b → is_eq (nat_cmp k q) ≡ false
    unequal true e le = let less : k < q = grind (arith, nat_tests) in ap is_eq (sym (nat_cmp_is k q Less less))
    unequal false e le = let more : q < k = grind (arith, nat_tests) in ap is_eq (sym (nat_cmp_is k q Greater more))

    go : (b : Bool) → eqb k q ≡ b → is_eq (nat_cmp k q) ≡ b
    go true e = ap is_eq (sym (nat_cmp_is k q Equal (eqb-true k q e)))
    go false e = unequal (leb k q) e refl

abbrev pub numbers : List Ino → List ℕ
numbers way = map (λ (ino : Ino). ino.0) way

pub length_numbers : (way : List Ino) → length (numbers way) ≡ length way
length_numbers [] = refl
length_numbers (ino ∷ rest) = omega (arith, length_numbers rest)

off_all : (x : Ino) (way : List Ino) → is_on x way ≡ false → AllByRecursion (λ k. eq_by_cmp nat_cmp x.0 k ≡ false) (numbers way)
off_all x [] off = tt
off_all x (ino ∷ way) off = go (eqb x.0 ino.0) refl off (off_all x way)
  where
    go : (b : Bool) → eqb x.0 ino.0 ≡ b → (b || is_on x way) ≡ false → (is_on x way ≡ false → AllByRecursion (λ k. eq_by_cmp nat_cmp x.0 k ≡ false) (numbers way)) → AllByRecursion (λ k. eq_by_cmp nat_cmp x.0 k ≡ false) (ino.0 ∷ numbers way)
    go true e h rest = cc
    go false e h rest = (at_is x.0 ino.0 ∙ e, rest h)

pub distinct : (way : List Ino) → IsApart way → IsDistinct (eq_by_cmp nat_cmp) (numbers way)
unfolding IsDistinct
distinct [] apart = tt
distinct (ino ∷ way) apart = (off_all ino way apart.0, distinct way apart.1)

pub found_on : (q : ℕ) (way : List Ino) → list_any (eq_by_cmp nat_cmp q) (numbers way) ≡ true → is_on (record { 0 = q }) way ≡ true
found_on q [] h = h
found_on q (ino ∷ way) h = go (eqb q ino.0) refl (found_on q way)
  where
    again : (eqb q ino.0 || list_any (eq_by_cmp nat_cmp q) (numbers way)) ≡ true
    again = ap (λ b. b || list_any (eq_by_cmp nat_cmp q) (numbers way)) (sym (at_is q ino.0)) ∙ h

    other : (b c : Bool) → b ≡ false → (b || c) ≡ true → c ≡ true
    other true c e h = cc
    other false c e h = h

    go : (b : Bool) → eqb q ino.0 ≡ b → (list_any (eq_by_cmp nat_cmp q) (numbers way) ≡ true → is_on (record { 0 = q }) way ≡ true) → (b || is_on (record { 0 = q }) way) ≡ true
    go true e rest = refl
    go false e rest = rest (other (eqb q ino.0) (list_any (eq_by_cmp nat_cmp q) (numbers way)) e again)

some_node : (node : Option Node) → is_node node ≡ true → IsSome node
some_node None h = cc
some_node (Some n) h = refl

-- there are no more inodes than records
pub at_most : (nodes : List (ℕ × Node)) → HasAtMost (length nodes) (node_at nodes)
at_most nodes ways apart each =
    let short : length (numbers ways) ≤ length nodes = length-le_from_keys {eq = eq_by_cmp nat_cmp} (eq_by_cmp_equiv nat_cmp_total) (numbers ways) nodes (distinct ways apart) (λ q h. some_node (node_at nodes q) (each (record { 0 = q }) (found_on q ways h))) in
    omega (arith, length_numbers ways, short)

pub way_is : (tree : Tree) (family : Family) → StandsFor tree family → (ino : Ino) → is_there tree ino ≡ true → way tree ino ≡ way_up family.members ino
way_is tree family stands ino there =
    up_is (length tree.nodes) (node_at tree.nodes) ino (above_by (member family.members ino)) (at_most tree.nodes) (λ x next h. stands.there next ∙ stands.closed x next h) there (stands.climbs ino)

pub global_is : (tree : Tree) (family : Family) → StandsFor tree family → (ino : Ino) → is_there tree ino ≡ true → is_in_global tree ino ≡ family_global family.members ino
global_is tree family stands ino there = ap (is_on GLOBAL) (way_is tree family stands ino there)

pub realm_law : (tree : Tree) (family : Family) → StandsFor tree family → (ino : Ino) → is_there tree ino ≡ true → realm_of tree ino ≡ family_realm family ino
realm_law tree family stands ino there =
    ap (λ w. cond (is_on GLOBAL w) GLOBAL (nearest_on (begins_at tree) ino w)) (way_is tree family stands ino there)
    ∙ go (family_global family.members ino) refl
  where
    go : (b : Bool) → family_global family.members ino ≡ b → cond b GLOBAL (nearest_on (begins_at tree) ino (way_up family.members ino)) ≡ family_realm family ino
    go true e = sym (ap (λ b. cond b GLOBAL (nearest (is_marked family.marked) ino (above_by (member family.members ino)))) e)
    go false e = realm_is (node_at tree.nodes) tree.snaps tree.applied family stands ino ino e

pub trace_law : (tree : Tree) (family : Family) → StandsFor tree family → (ino : Ino) → is_there tree ino ≡ true → context_of (trace_of tree ino) (birth_of tree ino) ≡ context family ino
trace_law tree family stands ino there =
    ap (context_of (trace_of tree ino)) (stands.births ino)
    ∙ ap (λ w. context_of (cond (is_on GLOBAL w) (global_info tree ∷ []) (infos (node_at tree.nodes) tree.snaps w)) (family_birth family ino)) (way_is tree family stands ino there)
    ∙ go (family_global family.members ino) refl
  where
    go : (b : Bool) → family_global family.members ino ≡ b → context_of (cond b (global_info tree ∷ []) (infos (node_at tree.nodes) tree.snaps (way_up family.members ino))) (family_birth family ino) ≡ context family ino
    go true e = global_context_is (node_at tree.nodes) tree.snaps tree.applied family stands ino e
    go false e = context_is (node_at tree.nodes) tree.snaps tree.applied family stands ino (sym (stands.there ino) ∙ there) e

late : (tree : Tree) (family : Family) → StandsFor tree family → (ino : Ino) → 2 ≤ (birth_of tree ino).0
late tree family stands ino = subst (λ (n : SnapId). 2 ≤ n.0) (sym (stands.births ino)) (stands.late ino)

top_is : (tree : Tree) (ino : Ino) (b : Bool) → is_in_global tree ino ≡ b → top_seq tree ino ≡ trace_seq (trace_of tree ino)
top_is tree ino b e = ap (λ b. cond b tree.applied.0 (seq_on (node_at tree.nodes) (way tree ino))) e ∙ go b ∙ sym (ap (λ b. trace_seq (cond b (global_info tree ∷ []) (infos (node_at tree.nodes) tree.snaps (way tree ino)))) e)
  where
    go : (b : Bool) → cond b tree.applied.0 (seq_on (node_at tree.nodes) (way tree ino)) ≡ trace_seq (cond b (global_info tree ∷ []) (infos (node_at tree.nodes) tree.snaps (way tree ino)))
    go true = omega arith
    go false = sym (seq_given (node_at tree.nodes) tree.snaps (way tree ino))

pub seq_law : (tree : Tree) (family : Family) → StandsFor tree family → (ino : Ino) → is_there tree ino ≡ true → seq_of tree ino ≡ (context family ino).seq.0
seq_law tree family stands ino there =
    ap (λ n. if_from (birth_of tree ino) n 1) (top_is tree ino (is_in_global tree ino) refl)
    ∙ sym (ap (λ (c : Context). c.seq.0) (context_of_any (trace_of tree ino) (birth_of tree ino) (late tree family stands ino)))
    ∙ ap (λ (c : Context). c.seq.0) (trace_law tree family stands ino there)

pub effective_law : (tree : Tree) (family : Family) → StandsFor tree family → (ino : Ino) → is_there tree ino ≡ true → from_id (family_birth family ino) ((context_of (trace_of tree ino) (record { 0 = 0 })).ids) ≡ (context family ino).ids
effective_law tree family stands ino there =
    subst (λ birth. from_id birth ((context_of (trace_of tree ino) (record { 0 = 0 })).ids) ≡ (context family ino).ids) (stands.births ino)
    (from_any (trace_of tree ino) ∙ ap (λ (c : Context). c.ids) (trace_law tree family stands ino there))
  where
    from_any : (realms : List RealmInfo) → from_id (birth_of tree ino) ((context_of realms (record { 0 = 0 })).ids) ≡ (context_of realms (birth_of tree ino)).ids
    from_any [] = refl
    from_any (realm ∷ above) = effective_is realm above (birth_of tree ino) (late tree family stands ino)

live_is : (snaps : List Made) → Each (λ made. made.purged ≡ true → made.live ≡ false) snaps → ids_of (filter (λ (snap : Snap). snap.live) (plain_kept snaps)) ≡ made_ids (filter (λ (made : Made). made.live) snaps)
live_is [] named = refl
live_is (made ∷ snaps) named = go made.purged made.live refl refl (live_is snaps named.1)
  where
    go : (p b : Bool) → made.purged ≡ p → made.live ≡ b → ids_of (filter (λ (snap : Snap). snap.live) (plain_kept snaps)) ≡ made_ids (filter (λ (made : Made). made.live) snaps) → ids_of (filter (λ (snap : Snap). snap.live) (elim p [ true ↦ plain_kept snaps | false ↦ plain made ∷ plain_kept snaps ])) ≡ made_ids (cond b (made ∷ filter (λ (made : Made). made.live) snaps) (filter (λ (made : Made). made.live) snaps))
    go true true pis bis rest = let never : true ≡ false = sym bis ∙ named.0 pis in cc
    go true false pis bis rest = rest
    go false true pis bis rest = rw (bis, rest) refl
    go false false pis bis rest = rw bis rest

pub live_law : (tree : Tree) (family : Family) → StandsFor tree family → live_ids tree ≡ family_live family
live_law tree family stands = ap (λ s. ids_of (filter (λ (snap : Snap). snap.live) s)) stands.snaps_are ∙ live_is family.snaps stands.named

-- whether a directory has a live snapshot: what the store has dropped isn't live
any_live : (dir : Ino) (snaps : List Made) → Each (λ made. made.purged ≡ true → made.live ≡ false) snaps → list_any (is_live_of dir) (plain_kept snaps) ≡ list_any (λ (made : Made). made.live && same_ino made.root dir) snaps
any_live dir [] named = refl
any_live dir (made ∷ snaps) named = go made.purged made.live refl refl (any_live dir snaps named.1)
  where
    go : (p b : Bool) → made.purged ≡ p → made.live ≡ b → list_any (is_live_of dir) (plain_kept snaps) ≡ list_any (λ (made : Made). made.live && same_ino made.root dir) snaps → list_any (is_live_of dir) (elim p [ true ↦ plain_kept snaps | false ↦ plain made ∷ plain_kept snaps ]) ≡ ((b && same_ino made.root dir) || list_any (λ (made : Made). made.live && same_ino made.root dir) snaps)
    go true true pis bis rest = let never : true ≡ false = sym bis ∙ named.0 pis in cc
    go true false pis bis rest = rest
    go false b pis bis rest = rw bis (ap (λ c. (b && same_ino made.root dir) || c) rest)

pub any_live_law : (tree : Tree) (family : Family) → StandsFor tree family → (dir : Ino) → list_any (is_live_of dir) tree.snaps ≡ list_any (λ (made : Made). made.live && same_ino made.root dir) family.snaps
any_live_law tree family stands dir = ap (list_any (is_live_of dir)) stands.snaps_are ∙ any_live dir family.snaps stands.named

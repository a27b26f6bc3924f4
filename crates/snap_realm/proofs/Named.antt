-- What is said of the snapshots that the store still keeps, where they have a name, is what the story says.
use Rattle.std.specs.Prelude.{find}
use Rattle.std.proofs.Common.{◌≡◌, ℕ, ◌≤◌, arith, Bool, true, false, ◌||◌, ◌&&◌, ◌==◌, cond, leb, List, [], ◌∷◌, length, map, filter, Option, None, Some, refl, ap, sym, ◌∙◌, bytes_eq}
use Rattle.std.proofs.lemmas.Bool.Decides.{nat_tests}
use Rattle.std.specs.List.{list_any}
use Rattle.snap_ids.specs.declared.id.Ino.{Ino}
use Rattle.snap_ids.specs.declared.id.SnapId.{SnapId}
use Rattle.realm_story.specs.declared.records.Node.{Node}
use Rattle.realm_story.specs.declared.records.Snap.{Snap}
use Rattle.realm_story.specs.Family.{Made, Family, same_ino, is_on, is_named}
use Rattle.realm_story.specs.Records.{lists}
use Rattle.realm_story.specs.Stands.{Each, IsRight, plain, plain_kept}
use Rattle.realm_story.proofs.Contexts.{covers_by}
use Rattle.snap_realm.specs.Tree.{Tree, StandsFor, has_name}
use Rattle.snap_realm.specs.Walks.{id_by}
use Rattle.snap_realm.specs.Refusals.{refusal_by, refusal, refusal_kept, id_named, has_id, name_by, name_with}

-- a live snapshot of a directory that has a name
pub named_law : (dir : Ino) (name : List ℕ) (snaps : List Made) → Each (λ made. made.purged ≡ true → made.live ≡ false) snaps → list_any (has_name dir name) (plain_kept snaps) ≡ list_any (is_named dir name) snaps
named_law dir name [] named = refl
named_law dir name (made ∷ snaps) named = go made.purged refl (named_law dir name snaps named.1)
  where
    dead : made.live ≡ false → is_named dir name made ≡ false
    dead h = ap (λ b. b && (same_ino made.root dir && bytes_eq made.name name)) h

    go : (p : Bool) → made.purged ≡ p → list_any (has_name dir name) (plain_kept snaps) ≡ list_any (is_named dir name) snaps → list_any (has_name dir name) (elim p [ true ↦ plain_kept snaps | false ↦ plain made ∷ plain_kept snaps ]) ≡ (is_named dir name made || list_any (is_named dir name) snaps)
    go true is rest = rest ∙ sym (ap (λ b. b || list_any (is_named dir name) snaps) (dead (named.0 is)))
    go false is rest = ap (λ b. is_named dir name made || b) rest

-- how many live snapshots pass a test
pub count_law : (q : Snap → Bool) (snaps : List Made) → Each (λ made. made.purged ≡ true → made.live ≡ false) snaps → length (filter (λ (snap : Snap). snap.live && q snap) (plain_kept snaps)) ≡ length (filter (λ (made : Made). made.live && q (plain made)) snaps)
count_law q [] named = refl
count_law q (made ∷ snaps) named = go made.purged (made.live && q (plain made)) refl refl (count_law q snaps named.1)
  where
    dead : made.live ≡ false → (made.live && q (plain made)) ≡ false
    dead h = ap (λ b. b && q (plain made)) h

    go : (p b : Bool) → made.purged ≡ p → (made.live && q (plain made)) ≡ b → length (filter (λ (snap : Snap). snap.live && q snap) (plain_kept snaps)) ≡ length (filter (λ (made : Made). made.live && q (plain made)) snaps) → length (filter (λ (snap : Snap). snap.live && q snap) (elim p [ true ↦ plain_kept snaps | false ↦ plain made ∷ plain_kept snaps ])) ≡ length (cond b (made ∷ filter (λ (made : Made). made.live && q (plain made)) snaps) (filter (λ (made : Made). made.live && q (plain made)) snaps))
    go true true pis bis rest = let never : true ≡ false = sym bis ∙ dead (named.0 pis) in cc
    go true false pis bis rest = rest
    go false true pis bis rest = rw (bis, rest) refl
    go false false pis bis rest = rw bis rest

-- a live snapshot that the realms on a way list, from the first id of an inode on
abbrev pub shown_on : (ℕ → Option Node) → List Ino → SnapId → Snap → Bool
shown_on at way birth snap = snap.live && (leb birth.0 snap.id.0 && lists at way snap.root snap.id)

pub shown_right : (at : ℕ → Option Node) (way : List Ino) (ino : Ino) (birth : SnapId) (snaps : List Made) → Each (λ made. made.purged ≡ true → made.live ≡ false) snaps → Each (IsRight at way ino birth) snaps → filter (shown_on at way birth) (plain_kept snaps) ≡ map plain (filter (λ (made : Made). made.live) (filter (covers_by birth false ino) snaps))
shown_right at way ino birth [] named right = refl
shown_right at way ino birth (made ∷ snaps) named right =
    go made.purged made.live (leb birth.0 made.id.0) (is_on ino made.covered) refl refl refl refl named.0 (λ kept late. right.0 kept (order birth.0 made.id.0 late)) (shown_right at way ino birth snaps named.1 right.1)
  where
    order : (m n : ℕ) → leb m n ≡ true → m ≤ n
    order m n h = grind (arith, nat_tests)

    kept : List Snap
    kept = plain_kept snaps

    cover : List Made
    cover = filter (covers_by birth false ino) snaps

    skips : (b : Bool) → made.live ≡ false → map plain (filter (λ (made : Made). made.live) cover) ≡ map plain (filter (λ (made : Made). made.live) (cond b (made ∷ cover) cover))
    skips true dead = rw dead refl
    skips false dead = refl

    hidden : (c : Bool) → made.live ≡ false → filter (shown_on at way birth) (plain made ∷ kept) ≡ filter (shown_on at way birth) kept
    hidden c dead = ap (λ b. cond (b && (leb birth.0 made.id.0 && lists at way made.root made.id)) (plain made ∷ filter (shown_on at way birth) kept) (filter (shown_on at way birth) kept)) dead

    go : (p v l o : Bool) → made.purged ≡ p → made.live ≡ v → leb birth.0 made.id.0 ≡ l → is_on ino made.covered ≡ o → (made.purged ≡ true → made.live ≡ false) → (made.purged ≡ false → leb birth.0 made.id.0 ≡ true → lists at way made.root made.id ≡ is_on ino made.covered) → filter (shown_on at way birth) kept ≡ map plain (filter (λ (made : Made). made.live) cover) → filter (shown_on at way birth) (elim p [ true ↦ kept | false ↦ plain made ∷ kept ]) ≡ map plain (filter (λ (made : Made). made.live) (cond (l && o) (made ∷ cover) cover))
    go true v l o pis vis lis ois dead same rest = rest ∙ skips (l && o) (dead pis)
    go false false l o pis vis lis ois dead same rest = hidden true vis ∙ rest ∙ skips (l && o) vis
    go false true false o pis vis lis ois dead same rest = ap (λ b. cond (made.live && (b && lists at way made.root made.id)) (plain made ∷ filter (shown_on at way birth) kept) (filter (shown_on at way birth) kept)) lis ∙ ap (λ b. cond (b && false) (plain made ∷ filter (shown_on at way birth) kept) (filter (shown_on at way birth) kept)) vis ∙ rest
    go false true true o pis vis lis ois dead same rest =
        ap (λ b. cond (made.live && (leb birth.0 made.id.0 && b)) (plain made ∷ filter (shown_on at way birth) kept) (filter (shown_on at way birth) kept)) (same pis lis ∙ ois)
        ∙ ap (λ b. cond (made.live && (b && o)) (plain made ∷ filter (shown_on at way birth) kept) (filter (shown_on at way birth) kept)) lis
        ∙ ap (λ b. cond (b && o) (plain made ∷ filter (shown_on at way birth) kept) (filter (shown_on at way birth) kept)) vis
        ∙ last o
      where
        last : (o : Bool) → cond o (plain made ∷ filter (shown_on at way birth) kept) (filter (shown_on at way birth) kept) ≡ map plain (filter (λ (made : Made). made.live) (cond o (made ∷ cover) cover))
        last true = ap (λ s. plain made ∷ s) rest ∙ rw vis refl
        last false = rest

live_count : (snaps : List Made) → Each (λ made. made.purged ≡ true → made.live ≡ false) snaps → length (filter (λ (snap : Snap). snap.live) (plain_kept snaps)) ≡ length (filter (λ (made : Made). made.live) snaps)
live_count [] named = refl
live_count (made ∷ snaps) named = go made.purged made.live refl refl (live_count snaps named.1)
  where
    go : (p b : Bool) → made.purged ≡ p → made.live ≡ b → length (filter (λ (snap : Snap). snap.live) (plain_kept snaps)) ≡ length (filter (λ (made : Made). made.live) snaps) → length (filter (λ (snap : Snap). snap.live) (elim p [ true ↦ plain_kept snaps | false ↦ plain made ∷ plain_kept snaps ])) ≡ length (cond b (made ∷ filter (λ (made : Made). made.live) snaps) (filter (λ (made : Made). made.live) snaps))
    go true true pis bis rest = let never : true ≡ false = sym bis ∙ named.0 pis in cc
    go true false pis bis rest = rest
    go false true pis bis rest = rw (bis, rest) refl
    go false false pis bis rest = rw bis rest

-- why a snapshot isn't made
pub refusal_law : (tree : Tree) (family : Family) → StandsFor tree family → (dir : Ino) (name : List ℕ) → refusal_kept dir name tree.snaps ≡ refusal dir name family.snaps
refusal_law tree family stands dir name =
    ap (refusal_kept dir name) stands.snaps_are
    ∙ ap (λ b. refusal_by b (length (filter (λ (snap : Snap). snap.live && same_ino snap.root dir) (plain_kept family.snaps))) (length (filter (λ (snap : Snap). snap.live) (plain_kept family.snaps)))) (named_law dir name family.snaps stands.named)
    ∙ ap (λ n. refusal_by (list_any (is_named dir name) family.snaps) n (length (filter (λ (snap : Snap). snap.live) (plain_kept family.snaps)))) (count_law (λ (snap : Snap). same_ino snap.root dir) family.snaps stands.named)
    ∙ ap (λ n. refusal_by (list_any (is_named dir name) family.snaps) (length (filter (λ (made : Made). made.live && same_ino made.root dir) family.snaps)) n) (live_count family.snaps stands.named)

id_is : (dir : Ino) (name : List ℕ) (snaps : List Made) → Each (λ made. made.purged ≡ true → made.live ≡ false) snaps → id_by (find (has_name dir name) (plain_kept snaps)) ≡ id_named dir name snaps
id_is dir name [] named = refl
id_is dir name (made ∷ snaps) named = go made.purged (is_named dir name made) refl refl (id_is dir name snaps named.1)
  where
    dead : made.live ≡ false → is_named dir name made ≡ false
    dead h = ap (λ b. b && (same_ino made.root dir && bytes_eq made.name name)) h

    go : (p b : Bool) → made.purged ≡ p → is_named dir name made ≡ b → id_by (find (has_name dir name) (plain_kept snaps)) ≡ id_named dir name snaps → id_by (find (has_name dir name) (elim p [ true ↦ plain_kept snaps | false ↦ plain made ∷ plain_kept snaps ])) ≡ cond b (Some made.id) (id_named dir name snaps)
    go true true pis bis rest = let never : true ≡ false = sym bis ∙ dead (named.0 pis) in cc
    go true false pis bis rest = rest
    go false b pis bis rest = ap (λ t. id_by (cond t (Some (plain made)) (find (has_name dir name) (plain_kept snaps)))) bis ∙ last b
      where
        last : (b : Bool) → id_by (cond b (Some (plain made)) (find (has_name dir name) (plain_kept snaps))) ≡ cond b (Some made.id) (id_named dir name snaps)
        last true = refl
        last false = rest

-- which snapshot has a name
pub id_law : (tree : Tree) (family : Family) → StandsFor tree family → (dir : Ino) (name : List ℕ) → id_by (find (has_name dir name) tree.snaps) ≡ id_named dir name family.snaps
id_law tree family stands dir name = ap (λ s. id_by (find (has_name dir name) s)) stands.snaps_are ∙ id_is dir name family.snaps stands.named

name_is : (id : SnapId) (snaps : List Made) → Each (λ made. made.purged ≡ true → made.live ≡ false) snaps → name_by (find (has_id id) (plain_kept snaps)) ≡ name_with id snaps
name_is id [] named = refl
name_is id (made ∷ snaps) named = go made.purged (has_id id (plain made)) refl refl (name_is id snaps named.1)
  where
    dead : made.live ≡ false → has_id id (plain made) ≡ false
    dead h = ap (λ b. b && made.id.0 == id.0) h

    go : (p b : Bool) → made.purged ≡ p → has_id id (plain made) ≡ b → name_by (find (has_id id) (plain_kept snaps)) ≡ name_with id snaps → name_by (find (has_id id) (elim p [ true ↦ plain_kept snaps | false ↦ plain made ∷ plain_kept snaps ])) ≡ cond b (Some (made.root, made.name)) (name_with id snaps)
    go true true pis bis rest = let never : true ≡ false = sym bis ∙ dead (named.0 pis) in cc
    go true false pis bis rest = rest
    go false b pis bis rest = ap (λ t. name_by (cond t (Some (plain made)) (find (has_id id) (plain_kept snaps)))) bis ∙ last b
      where
        last : (b : Bool) → name_by (cond b (Some (plain made)) (find (has_id id) (plain_kept snaps))) ≡ cond b (Some (made.root, made.name)) (name_with id snaps)
        last true = refl
        last false = rest

-- the name of the snapshot that has an id
pub name_law : (tree : Tree) (family : Family) → StandsFor tree family → (id : SnapId) → name_by (find (has_id id) tree.snaps) ≡ name_with id family.snaps
name_law tree family stands id = ap (λ s. name_by (find (has_id id) s)) stands.snaps_are ∙ name_is id family.snaps stands.named

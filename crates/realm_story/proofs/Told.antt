-- The realm of an inode, the live ids and a directory's own ones.
use Rattle.std.proofs.Common.{◌≡◌, ℕ, Bool, true, false, not, ◌&&◌, cond, List, [], ◌∷◌, Option, refl, ap, sym, ◌∙◌, map, filter}
use Rattle.snap_ids.specs.declared.id.Ino.{Ino}
use Rattle.snap_ids.specs.declared.id.SnapId.{SnapId}
use Rattle.snap_ids.specs.declared.id.TheConstants.{GLOBAL}
use Rattle.realm_story.specs.declared.records.Node.{Node}
use Rattle.realm_story.specs.declared.records.Snap.{Snap}
use Rattle.realm_story.specs.Family.{Made, Family, same_ino, member, above_by, way_up, is_marked, is_in_global, is_kept, nearest, realm_of}
use Rattle.realm_story.specs.Family.{ids_of as made_ids}
use Rattle.realm_story.specs.Records.{realm_by, is_realm, nearest_on, ids_of, own_of}
use Rattle.realm_story.specs.Stands.{Each, Stands, plain, plain_kept}

nearest_is : (test : Ino → Bool) (last ino : Ino) (way : List Ino) → nearest_on test last (ino ∷ way) ≡ nearest test ino way
nearest_is test last ino [] = go (test ino)
  where
    go : (b : Bool) → cond b ino ino ≡ ino
    go true = refl
    go false = refl
nearest_is test last ino (next ∷ way) = ap (cond (test ino) ino) (nearest_is test ino next way)

-- a realm begins at an inode by the records
abbrev pub begins_at : (ℕ → Option Node) → Ino → Bool
begins_at at ino = is_realm (realm_by (at ino.0))

-- the realm of an inode outside the global realm
pub realm_is : (at : ℕ → Option Node) (snaps : List Snap) (applied : SnapId) (family : Family) → Stands at snaps applied family → (last ino : Ino) → is_in_global family.members ino ≡ false → nearest_on (begins_at at) last (way_up family.members ino) ≡ realm_of family ino
realm_is at snaps applied family stands last ino outside =
    nearest_is (begins_at at) last ino (above_by (member family.members ino))
    ∙ ap (λ test. nearest test ino (above_by (member family.members ino))) (λ i y. stands.marks y i)
    ∙ sym (ap (λ b. cond b GLOBAL (nearest (is_marked family.marked) ino (above_by (member family.members ino)))) outside)

-- of what has a name, nothing is lost
pub live_same : (q : Snap → Bool) (snaps : List Made) → Each (λ made. made.purged ≡ true → made.live ≡ false) snaps → filter (λ (snap : Snap). snap.live && q snap) (plain_kept snaps) ≡ map plain (filter (λ (made : Made). made.live && q (plain made)) snaps)
live_same q [] named = refl
live_same q (made ∷ snaps) named = go made.purged (made.live && q (plain made)) refl refl (live_same q snaps named.1)
  where
    dead : made.live ≡ false → (made.live && q (plain made)) ≡ false
    dead h = ap (λ b. b && q (plain made)) h

    go : (p b : Bool) → made.purged ≡ p → (made.live && q (plain made)) ≡ b → filter (λ (snap : Snap). snap.live && q snap) (plain_kept snaps) ≡ map plain (filter (λ (made : Made). made.live && q (plain made)) snaps) → filter (λ (snap : Snap). snap.live && q snap) (elim p [ true ↦ plain_kept snaps | false ↦ plain made ∷ plain_kept snaps ]) ≡ map plain (cond b (made ∷ filter (λ (made : Made). made.live && q (plain made)) snaps) (filter (λ (made : Made). made.live && q (plain made)) snaps))
    go true true pis bis rest = let never : true ≡ false = sym bis ∙ dead (named.0 pis) in cc
    go true false pis bis rest = rest
    go false true pis bis rest = rw (bis, rest) refl
    go false false pis bis rest = rw bis rest

pub ids_map : (snaps : List Made) → ids_of (map plain snaps) ≡ made_ids snaps
ids_map [] = refl
ids_map (made ∷ snaps) = ap (λ ids. made.id ∷ ids) (ids_map snaps)

-- a directory's own ids
pub own_is : (dir : Ino) (snaps : List Made) → own_of (plain_kept snaps) dir ≡ made_ids (filter (λ (made : Made). same_ino made.root dir && is_kept made) snaps)
own_is dir [] = refl
own_is dir (made ∷ snaps) = go made.purged (same_ino made.root dir) refl refl (own_is dir snaps)
  where
    go : (p b : Bool) → made.purged ≡ p → same_ino made.root dir ≡ b → own_of (plain_kept snaps) dir ≡ made_ids (filter (λ (made : Made). same_ino made.root dir && is_kept made) snaps) → own_of (elim p [ true ↦ plain_kept snaps | false ↦ plain made ∷ plain_kept snaps ]) dir ≡ made_ids (cond (b && not p) (made ∷ filter (λ (made : Made). same_ino made.root dir && is_kept made) snaps) (filter (λ (made : Made). same_ino made.root dir && is_kept made) snaps))
    go true true pis bis rest = rest
    go true false pis bis rest = rest
    go false true pis bis rest = rw (bis, rest) refl
    go false false pis bis rest = rw bis rest

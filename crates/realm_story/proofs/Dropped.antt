-- A snapshot loses its name, or the store has dropped it.
use Rattle.std.proofs.Common.{◌≡◌, ℕ, ◌+◌, Bool, true, false, not, ◌||◌, ◌&&◌, cond, eqb, leb, List, [], ◌∷◌, Option, refl, ap, sym, ◌∙◌, subst, map, filter}
use Rattle.snap_ids.specs.declared.id.Ino.{Ino}
use Rattle.snap_ids.specs.declared.id.SnapId.{SnapId}
use Rattle.realm_story.specs.declared.records.Node.{Node}
use Rattle.realm_story.specs.declared.records.Snap.{Snap}
use Rattle.realm_story.specs.Family.{Made, Family, way_up, is_there, is_on, is_in_global, birth_of, greatest, is_marked, is_named, drop_snap, purged}
use Rattle.realm_story.specs.Family.{ids_of as made_ids}
use Rattle.realm_story.specs.Stands.{Each, FallBelow, IsRight, IsRooted, Stands, plain_kept}
use Rattle.realm_story.proofs.Contexts.{covers_by}
use Rattle.realm_story.proofs.Same.{each_weaker, each_both}

-- what a change of a snapshot keeps
pub record IsKept (f : Made → Made) : Type 0 where
  pub id : (made : Made) → (f made).id ≡ made.id
  pub root : (made : Made) → (f made).root ≡ made.root
  pub covered : (made : Made) → (f made).covered ≡ made.covered
  pub kept : (made : Made) → (f made).purged ≡ false → made.purged ≡ false

each_map : (P Q : Made → Type 0) (f : Made → Made) (snaps : List Made) → ((made : Made) → P made → Q (f made)) → Each P snaps → Each Q (map f snaps)
each_map P Q f [] next each = tt
each_map P Q f (made ∷ snaps) next each = (next made each.0, each_map P Q f snaps next each.1)

fall_map : (f : Made → Made) → IsKept f → (bound : ℕ) (snaps : List Made) → FallBelow bound snaps → FallBelow bound (map f snaps)
fall_map f keeps bound [] fall = tt
fall_map f keeps bound (made ∷ snaps) fall = rw (keeps.id made) (fall.0, fall.1, fall_map f keeps made.id.0 snaps fall.2)

ids_map : (f : Made → Made) → IsKept f → (snaps : List Made) → made_ids (map f snaps) ≡ made_ids snaps
ids_map f keeps [] = refl
ids_map f keeps (made ∷ snaps) = rw (keeps.id made, ids_map f keeps snaps) refl

covering_map : (f : Made → Made) → IsKept f → (birth : SnapId) (g : Bool) (ino : Ino) (snaps : List Made) → made_ids (filter (covers_by birth g ino) (map f snaps)) ≡ made_ids (filter (covers_by birth g ino) snaps)
covering_map f keeps birth g ino [] = refl
covering_map f keeps birth g ino (made ∷ snaps) =
    subst (λ b. made_ids (cond b (f made ∷ filter (covers_by birth g ino) (map f snaps)) (filter (covers_by birth g ino) (map f snaps))) ≡ made_ids (filter (covers_by birth g ino) (made ∷ snaps))) (sym same)
    (go (covers_by birth g ino made) (covering_map f keeps birth g ino snaps))
  where
    same : covers_by birth g ino (f made) ≡ covers_by birth g ino made
    same =
        ap (λ (id : SnapId). leb birth.0 id.0 && (g || is_on ino (f made).covered)) (keeps.id made)
        ∙ ap (λ covered. leb birth.0 made.id.0 && (g || is_on ino covered)) (keeps.covered made)

    go : (b : Bool) → made_ids (filter (covers_by birth g ino) (map f snaps)) ≡ made_ids (filter (covers_by birth g ino) snaps) → made_ids (cond b (f made ∷ filter (covers_by birth g ino) (map f snaps)) (filter (covers_by birth g ino) (map f snaps))) ≡ made_ids (cond b (made ∷ filter (covers_by birth g ino) snaps) (filter (covers_by birth g ino) snaps))
    go true rest = rw (keeps.id made, rest) refl
    go false rest = rest

-- the snapshots change, and nothing else
snaps_law : (at : ℕ → Option Node) (snaps : List Snap) (applied : SnapId) (family : Family) → Stands at snaps applied family → (f : Made → Made) → IsKept f → Each (λ made. (f made).purged ≡ true → (f made).live ≡ false) family.snaps → Stands at (plain_kept (map f family.snaps)) applied (record { members = family.members; snaps = map f family.snaps; marked = family.marked; applied = family.applied })
snaps_law at snaps applied family stands f keeps named = record {
  applied_is = stands.applied_is;
  snaps_are = refl;
  fall = fall_map f keeps (applied.0 + 1) family.snaps stands.fall;
  last = stands.last ∙ ap greatest (sym (ids_map f keeps family.snaps));
  there = stands.there;
  births = stands.births;
  late = stands.late;
  born = stands.born;
  marks = stands.marks;
  climbs = stands.climbs;
  closed = stands.closed;
  tops = stands.tops;
  early = stands.early;
  named = each_map (λ made. (f made).purged ≡ true → (f made).live ≡ false) (λ made. made.purged ≡ true → made.live ≡ false) f family.snaps (λ made h. h) named;
  rooted = each_map (IsRooted family) (IsRooted family) f family.snaps (λ made rooted. subst (λ root. is_there family.members root ≡ true → is_in_global family.members root ≡ false → is_marked family.marked root ≡ true) (sym (keeps.root made)) rooted) stands.rooted;
  right = λ ino there outside. each_map (IsRight at (way_up family.members ino) ino (birth_of family ino)) (IsRight at (way_up family.members ino) ino (birth_of family ino)) f family.snaps
      (λ made right kept late. rw (keeps.id made, keeps.root made, keeps.covered made) (right (keeps.kept made kept) (rw (keeps.id made) at late)))
      (stands.right ino there outside);
  latest = λ ino there outside. stands.latest ino there outside ∙ ap greatest (sym (covering_map f keeps (birth_of family ino) (is_in_global family.members ino) ino family.snaps));
}

left_false : (a b : Bool) → (a || b) ≡ false → a ≡ false
left_false true b h = h
left_false false b h = refl

and_false : (a b : Bool) → a ≡ false → (a && b) ≡ false
and_false true b h = cc
and_false false b h = refl

pub drop_law : (at : ℕ → Option Node) (snaps : List Snap) (applied : SnapId) (family : Family) → Stands at snaps applied family → (dir : Ino) (name : List ℕ) → Stands at (plain_kept (drop_snap dir name family).snaps) applied (drop_snap dir name family)
drop_law at snaps applied family stands dir name =
    snaps_law at snaps applied family stands (λ made. record made { live = made.live && not (is_named dir name made) })
    (record { id = λ made. refl; root = λ made. refl; covered = λ made. refl; kept = λ made h. h })
    (each_weaker (λ made. made.purged ≡ true → made.live ≡ false) (λ made. made.purged ≡ true → (made.live && not (is_named dir name made)) ≡ false) family.snaps (λ made named gone. and_false made.live (not (is_named dir name made)) (named gone)) stands.named)

-- no snapshot with a name has an id
abbrev pub IsUnnamed : SnapId → Made → Type 0
IsUnnamed id made = eqb made.id.0 id.0 ≡ true → made.live ≡ false

unnamed : (a b : Bool) (live : Bool) → (a ≡ true → live ≡ false) → (b ≡ true → live ≡ false) → (a || b) ≡ true → live ≡ false
unnamed true b live first second h = first refl
unnamed false b live first second h = second h

pub purged_law : (at : ℕ → Option Node) (snaps : List Snap) (applied : SnapId) (family : Family) → Stands at snaps applied family → (id : SnapId) → Each (IsUnnamed id) family.snaps → Stands at (plain_kept (purged id family).snaps) applied (purged id family)
purged_law at snaps applied family stands id dropped =
    snaps_law at snaps applied family stands (λ made. record made { purged = made.purged || eqb made.id.0 id.0 })
    (record { id = λ made. refl; root = λ made. refl; covered = λ made. refl; kept = λ made h. left_false made.purged (eqb made.id.0 id.0) h })
    (each_both (λ made. made.purged ≡ true → made.live ≡ false) (IsUnnamed id) (λ made. (made.purged || eqb made.id.0 id.0) ≡ true → made.live ≡ false) family.snaps (λ made named dropped. unnamed made.purged (eqb made.id.0 id.0) made.live named dropped) stands.named dropped)

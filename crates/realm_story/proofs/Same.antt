-- What stays as one inode's record changes.
use Rattle.std.proofs.Common.{◌≡◌, ℕ, ◌<◌, ◌≤◌, Bool, true, false, ◌||◌, cond, eqb, leb, max, List, [], ◌∷◌, Option, None, Some, refl, arith}
use Rattle.snap_ids.specs.declared.id.Ino.{Ino}
use Rattle.snap_ids.specs.declared.id.SnapId.{SnapId}
use Rattle.realm_story.specs.declared.records.Node.{Node}
use Rattle.realm_story.specs.declared.records.Realm.{Realm}
use Rattle.realm_story.specs.declared.records.Snap.{Snap}
use Rattle.realm_story.specs.Family.{Made, Family, same_ino, member, is_there, above_by, is_on, greatest}
use Rattle.realm_story.specs.Records.{realm_by, lists, seq_on, seq_by}
use Rattle.realm_story.specs.Stands.{Climbs, IsEarly, Each, FallBelow, Stands}
use Rattle.realm_story.proofs.Ways.{all_there}

-- the records with another one for an inode
abbrev pub put : Ino → Option Node → (ℕ → Option Node) → ℕ → Option Node
put ino item at k = cond (eqb ino.0 k) item (at k)

pub or_first : (a b : Bool) → (a || b) ≡ false → a ≡ false
or_first true b h = h
or_first false b h = refl

pub or_second : (a b : Bool) → (a || b) ≡ false → b ≡ false
or_second true b h = cc
or_second false b h = h

pub climbs_put : (at : ℕ → Option Node) (x : Ino) (item : Option Node) (ino : Ino) (way : List Ino) → is_on x (ino ∷ way) ≡ false → Climbs at ino way → Climbs (put x item at) ino way
climbs_put at x item ino [] off climbs = rw (or_first (same_ino x ino) false off) climbs
climbs_put at x item ino (next ∷ way) off climbs =
    let here : eqb x.0 ino.0 ≡ false = or_first (same_ino x ino) (is_on x (next ∷ way)) off in
    (rw here climbs.0, climbs_put at x item next way (or_second (same_ino x ino) (is_on x (next ∷ way)) off) climbs.1)

pub lists_put : (at : ℕ → Option Node) (x : Ino) (item : Option Node) (way : List Ino) (root : Ino) (s : SnapId) → is_on x way ≡ false → lists (put x item at) way root s ≡ lists at way root s
lists_put at x item [] root s off = refl
lists_put at x item (ino ∷ way) root s off =
    let here : eqb x.0 ino.0 ≡ false = or_first (same_ino x ino) (is_on x way) off in
    rw (here, lists_put at x item way root s (or_second (same_ino x ino) (is_on x way) off)) refl

pub seq_put : (at : ℕ → Option Node) (x : Ino) (item : Option Node) (way : List Ino) → is_on x way ≡ false → seq_on (put x item at) way ≡ seq_on at way
seq_put at x item [] off = refl
seq_put at x item (ino ∷ way) off =
    let here : eqb x.0 ino.0 ≡ false = or_first (same_ino x ino) (is_on x way) off in
    rw (here, seq_put at x item way (or_second (same_ino x ino) (is_on x way) off)) refl

-- no sequence id is above the last id
seq_low_by : (last : ℕ) (r : Option Realm) (n : ℕ) → IsEarly last r → n ≤ last → seq_by r n ≤ last
seq_low_by last None n early low = low
seq_low_by last (Some realm) n early low = go (leb realm.since.0 n)
  where
    go : (b : Bool) → max realm.seq.0 (cond b n 0) ≤ last
    go true = omega (arith, early.0, low)
    go false = omega (arith, early.0)

pub seq_low : (at : ℕ → Option Node) (last : ℕ) → ((ino : Ino) → IsEarly last (realm_by (at ino.0))) → (way : List Ino) → seq_on at way ≤ last
seq_low at last early [] = omega arith
seq_low at last early (ino ∷ way) = seq_low_by last (realm_by (at ino.0)) (seq_on at way) (early ino) (seq_low at last early way)

-- what isn't there is above nothing
pub absent_above : (at : ℕ → Option Node) (snaps : List Snap) (applied : SnapId) (family : Family) → Stands at snaps applied family → (x : Ino) → is_there family.members x ≡ false → (ino : Ino) → is_on x (above_by (member family.members ino)) ≡ false
absent_above at snaps applied family stands x absent ino = go (is_on x (above_by (member family.members ino))) refl
  where
    go : (b : Bool) → is_on x (above_by (member family.members ino)) ≡ b → b ≡ false
    go true is =
        let there : is_there family.members x ≡ true = all_there (λ y. is_there family.members y ≡ true) at ino (above_by (member family.members ino)) (stands.climbs ino) stands.closed x is in
        cc
    go false is = refl

pub greatest_one : (ids : List SnapId) → 1 ≤ greatest ids
greatest_one [] = omega arith
greatest_one (id ∷ ids) = omega (arith, greatest_one ids)

pub each_weaker : (P Q : Made → Type 0) (snaps : List Made) → ((made : Made) → P made → Q made) → Each P snaps → Each Q snaps
each_weaker P Q [] weaker each = tt
each_weaker P Q (made ∷ snaps) weaker each = (weaker made each.0, each_weaker P Q snaps weaker each.1)

pub each_both : (P Q R : Made → Type 0) (snaps : List Made) → ((made : Made) → P made → Q made → R made) → Each P snaps → Each Q snaps → Each R snaps
each_both P Q R [] both ps qs = tt
each_both P Q R (made ∷ snaps) both ps qs = (both made ps.0 qs.0, each_both P Q R snaps both ps.1 qs.1)

-- the ids are below the bound
pub each_below : (bound : ℕ) (snaps : List Made) → FallBelow bound snaps → Each (λ made. made.id.0 < bound) snaps
each_below bound [] fall = tt
each_below bound (made ∷ snaps) fall =
    (fall.0, each_weaker (λ m. m.id.0 < made.id.0) (λ m. m.id.0 < bound) snaps (λ m low. omega (arith, low, fall.0)) (each_below made.id.0 snaps fall.2))

-- Lists of ids: what is listed in them, and where a new one stands.
use Rattle.std.proofs.Common.{◌≡◌, ℕ, ◌<◌, Bool, true, false, not, ◌||◌, ◌&&◌, ◌==◌, cond, eqb, ltb, List, [], ◌∷◌, ◌++◌, map, filter, refl, ap, ◌∙◌, arith}
use Rattle.std.proofs.lemmas.Bool.{eqb-true}
use Rattle.std.proofs.lemmas.Bool.Decides.{nat_tests}
use Rattle.std.proofs.lemmas.List.{map-append}
use Rattle.std.proofs.lemmas.List.Elements.{filter-append}
use Rattle.std.proofs.lemmas.Map.Views.{any-filter_same}
use Rattle.snap_ids.specs.declared.id.Ino.{Ino}
use Rattle.snap_ids.specs.declared.id.SnapId.{SnapId}
use Rattle.snap_ids.specs.Context.{is_listed}
use Rattle.plain_tree.specs.State.{Snapshot}
use Rattle.plain_tree.specs.Change.{is_live, removed}
use Rattle.journal_moments.specs.Moments.{is_live_snap}
use Rattle.snap_table.specs.Rising.{with_id, without}

-- an id that passes a test is listed where it was
pub listed_filter : (p : SnapId → Bool) (s : SnapId) (ids : List SnapId) → is_listed s (filter p ids) ≡ (p s && is_listed s ids)
listed_filter p s ids = any-filter_same (λ (id : SnapId). id.0 == s.0) p (p s) (λ id is. ap (λ (n : ℕ). p (record { 0 = n })) (eqb-true id.0 s.0 is)) ids

turned : (a b : ℕ) → (a == b) ≡ (b == a)
turned a b = grind (arith, nat_tests)

pub listed_without : (id s : SnapId) (ids : List SnapId) → is_listed s (without id ids) ≡ (not (id.0 == s.0) && is_listed s ids)
listed_without id s ids = listed_filter (λ (other : SnapId). not (other.0 == id.0)) s ids ∙ ap (λ b. not b && is_listed s ids) (turned s.0 id.0)

-- an id more is listed
placed : (t e a b c r : Bool) → (e ≡ true → a ≡ b) → r ≡ (c || b) → (cond t (b || (a || c)) (cond e (a || c) (a || r))) ≡ ((a || c) || b)
placed true e true true c r same is = refl
placed true e true false c r same is = refl
placed true e false true true r same is = refl
placed true e false true false r same is = refl
placed true e false false true r same is = refl
placed true e false false false r same is = refl
placed false true true b c r same is = refl
placed false true false true c r same is = let never = same refl in cc
placed false true false false true r same is = refl
placed false true false false false r same is = refl
placed false false true b c r same is = refl
placed false false false b c r same is = is

pushed : (s : SnapId) (t e : Bool) (id next : SnapId) (ids more : List SnapId) → is_listed s (cond t (id ∷ next ∷ ids) (cond e (next ∷ ids) (next ∷ more))) ≡ cond t (id.0 == s.0 || (next.0 == s.0 || is_listed s ids)) (cond e (next.0 == s.0 || is_listed s ids) (next.0 == s.0 || is_listed s more))
pushed s true e id next ids more = refl
pushed s false true id next ids more = refl
pushed s false false id next ids more = refl

same_test : (a b c : ℕ) → (a == b) ≡ true → (a == c) ≡ (b == c)
same_test a b c is = ap (λ n. n == c) (eqb-true a b is)

pub listed_with : (id s : SnapId) (ids : List SnapId) → is_listed s (with_id id ids) ≡ (is_listed s ids || id.0 == s.0)
listed_with id s [] = only (id.0 == s.0)
  where
    only : (b : Bool) → (b || false) ≡ b
    only true = refl
    only false = refl
listed_with id s (next ∷ ids) =
    pushed s (ltb id.0 next.0) (eqb next.0 id.0) id next ids (with_id id ids)
    ∙ placed (ltb id.0 next.0) (eqb next.0 id.0) (next.0 == s.0) (id.0 == s.0) (is_listed s ids) (is_listed s (with_id id ids)) (same_test next.0 id.0 s.0) (listed_with id s ids)

-- an id above all others stands last
pub with_above : (id : SnapId) (ids : List SnapId) → ((s : SnapId) → is_listed s ids ≡ true → s.0 < id.0) → with_id id ids ≡ ids ++ id ∷ []
with_above id [] above = refl
with_above id (next ∷ ids) above =
    let itself : (next.0 == next.0) ≡ true = grind (arith, nat_tests) in
    let less : next.0 < id.0 = above next (rw itself refl) in
    behind (ltb id.0 next.0) (eqb next.0 id.0) refl refl less (with_above id ids (λ s is. above s (or_right (next.0 == s.0) (is_listed s ids) is)))
  where
    or_right : (a b : Bool) → b ≡ true → (a || b) ≡ true
    or_right true b is = refl
    or_right false b is = is

    behind : (t e : Bool) → ltb id.0 next.0 ≡ t → eqb next.0 id.0 ≡ e → next.0 < id.0 → with_id id ids ≡ ids ++ id ∷ [] → cond t (id ∷ next ∷ ids) (cond e (next ∷ ids) (next ∷ with_id id ids)) ≡ next ∷ (ids ++ id ∷ [])
    behind true e lower same less rest = absurd (grind (arith, nat_tests))
    behind false true lower same less rest = absurd (grind (arith, nat_tests))
    behind false false lower same less rest = ap (λ xs. next ∷ xs) rest

-- the ids of the live ones among some snapshots
abbrev pub ids_of : List Snapshot → List SnapId
ids_of snaps = map (λ (snap : Snapshot). snap.id) (filter is_live snaps)

pub listed_live : (s : SnapId) (snaps : List Snapshot) → is_listed s (ids_of snaps) ≡ is_live_snap s snaps
listed_live s [] = refl
listed_live s (snap ∷ snaps) = go snap.live (listed_live s snaps)
  where
    go : (b : Bool) → is_listed s (ids_of snaps) ≡ is_live_snap s snaps → is_listed s (map (λ (snap : Snapshot). snap.id) (cond b (snap ∷ filter is_live snaps) (filter is_live snaps))) ≡ ((b && snap.id.0 == s.0) || is_live_snap s snaps)
    go true rest = ap (λ (c : Bool). snap.id.0 == s.0 || c) rest
    go false rest = rest

pub ids_more : (snaps : List Snapshot) (id : SnapId) (dir : Ino) (name : List ℕ) → ids_of (snaps ++ record { id = id; root = dir; name = name; live = true } ∷ []) ≡ ids_of snaps ++ id ∷ []
ids_more snaps id dir name =
    let new : Snapshot = record { id = id; root = dir; name = name; live = true } in
    ap (λ (xs : List Snapshot). map (λ (snap : Snapshot). snap.id) xs) (filter-append is_live snaps (new ∷ []))
    ∙ map-append (λ (snap : Snapshot). snap.id) (filter is_live snaps) (new ∷ [])

-- a removed snapshot's id isn't among them, and all others are
pub ids_less : (id : SnapId) (snaps : List Snapshot) → without id (ids_of snaps) ≡ ids_of (removed id snaps)
ids_less id [] = refl
ids_less id (snap ∷ snaps) = go snap.live (snap.id.0 == id.0) refl (ids_less id snaps)
  where
    kept : (b : Bool) → (snap.id.0 == id.0) ≡ b → without id (ids_of snaps) ≡ ids_of (removed id snaps) → without id (snap.id ∷ ids_of snaps) ≡ map (λ (snap : Snapshot). snap.id) (cond (not b) (record snap { live = not b } ∷ filter is_live (removed id snaps)) (filter is_live (removed id snaps)))
    kept true is rest = rw is rest
    kept false is rest = rw is (ap (λ (xs : List SnapId). snap.id ∷ xs) rest)

    go : (a b : Bool) → (snap.id.0 == id.0) ≡ b → without id (ids_of snaps) ≡ ids_of (removed id snaps) → without id (map (λ (snap : Snapshot). snap.id) (cond a (snap ∷ filter is_live snaps) (filter is_live snaps))) ≡ map (λ (snap : Snapshot). snap.id) (cond (a && not b) (record snap { live = a && not b } ∷ filter is_live (removed id snaps)) (filter is_live (removed id snaps)))
    go true b is rest = kept b is rest
    go false b is rest = rest

-- a removed snapshot lives no more
pub dead_then : (id : SnapId) (snaps : List Snapshot) → is_live_snap id (removed id snaps) ≡ false
dead_then id [] = refl
dead_then id (snap ∷ snaps) = go snap.live (snap.id.0 == id.0) (dead_then id snaps)
  where
    go : (a b : Bool) → is_live_snap id (removed id snaps) ≡ false → (((a && not b) && b) || is_live_snap id (removed id snaps)) ≡ false
    go true true rest = rest
    go true false rest = rest
    go false b rest = rest

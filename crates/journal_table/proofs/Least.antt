-- The first of rising ids is the least of the same ids in any order.
use Rattle.std.proofs.Common.{◌≡◌, ◌<◌, ◌≤◌, Bool, true, false, ◌||◌, ◌&&◌, ◌==◌, cond, List, [], ◌∷◌, filter, Some, refl, sym, ap, subst, ◌∙◌, arith, ltb-true}
use Rattle.std.proofs.lemmas.Bool.{eqb-true}
use Rattle.std.proofs.lemmas.Bool.Decides.{nat_tests}
use Rattle.snap_ids.specs.declared.id.SnapId.{SnapId}
use Rattle.snap_ids.specs.Context.{is_listed}
use Rattle.snap_table.specs.Rising.{begins_above, rises, first_of}
use Rattle.journal_laws.proofs.Steps.{both_true}
use Rattle.journal_table.specs.Stands.{IsLeast}
use Rattle.journal_table.proofs.Lists.{listed_filter}

-- what is listed behind the first of rising ids is above it
all_above : (id : SnapId) (ids : List SnapId) → rises (id ∷ ids) ≡ true → (s : SnapId) → is_listed s ids ≡ true → id.0 < s.0
all_above id [] rising s is = cc
all_above id (next ∷ ids) rising s is =
    let l = both_true (begins_above id (next ∷ ids)) (rises (next ∷ ids)) rising in
    go (next.0 == s.0) refl (ltb-true id.0 next.0 l.0) is (all_above next ids l.1 s)
  where
    go : (b : Bool) → (next.0 == s.0) ≡ b → id.0 < next.0 → (b || is_listed s ids) ≡ true → (is_listed s ids ≡ true → next.0 < s.0) → id.0 < s.0
    go true same less is rest = omega (arith, eqb-true next.0 s.0 same, less)
    go false same less is rest = omega (arith, less, rest is)

-- the first of those that pass a test is the least of them
module _ (p : SnapId → Bool) where
  passes : (id : SnapId) (ids : List SnapId) → rises (id ∷ ids) ≡ true → (s : SnapId) → is_listed s (id ∷ filter p ids) ≡ true → id.0 ≤ s.0
  passes id ids rising s is = go (id.0 == s.0) refl is
    where
      go : (b : Bool) → (id.0 == s.0) ≡ b → (b || is_listed s (filter p ids)) ≡ true → id.0 ≤ s.0
      go true same is = omega (arith, eqb-true id.0 s.0 same)
      go false same is =
          let listed = (both_true (p s) (is_listed s ids) (sym (listed_filter p s ids) ∙ is)).1 in
          omega (arith, all_above id ids rising s listed)

  least_passes : (ids : List SnapId) → rises ids ≡ true → (id : SnapId) → first_of (filter p ids) ≡ Some id → (s : SnapId) → is_listed s (filter p ids) ≡ true → id.0 ≤ s.0
  least_passes [] rising id is s listed = cc
  least_passes (x ∷ ids) rising id is s listed = go (p x) is listed (least_passes ids (both_true (begins_above x ids) (rises ids) rising).1 id)
    where
      go : (b : Bool) → first_of (cond b (x ∷ filter p ids) (filter p ids)) ≡ Some id → is_listed s (cond b (x ∷ filter p ids) (filter p ids)) ≡ true → (first_of (filter p ids) ≡ Some id → (s : SnapId) → is_listed s (filter p ids) ≡ true → id.0 ≤ s.0) → id.0 ≤ s.0
      go true is listed rest =
          let same : x ≡ id = cc in
          subst (λ (t : SnapId). t.0 ≤ s.0) same (passes x ids rising s listed)
      go false is listed rest = rest is s listed

itself_listed : (id : SnapId) (ids : List SnapId) → is_listed id (id ∷ ids) ≡ true
itself_listed id ids = let same : (id.0 == id.0) ≡ true = grind (arith, nat_tests) in rw same refl

none_listed : (ids : List SnapId) → ((s : SnapId) → false ≡ is_listed s ids) → ids ≡ []
none_listed [] same = refl
none_listed (id ∷ ids) same = let never : false ≡ true = same id ∙ itself_listed id ids in cc

least_is : (firsts ids : List SnapId) → ((id : SnapId) → first_of firsts ≡ Some id → (s : SnapId) → is_listed s firsts ≡ true → id.0 ≤ s.0) → ((s : SnapId) → is_listed s firsts ≡ is_listed s ids) → IsLeast (first_of firsts) ids
least_is [] ids least same = none_listed ids same
least_is (id ∷ firsts) ids least same = (sym (same id) ∙ itself_listed id firsts, λ s is. least id refl s (same s ∙ is))

-- so it is the least of the same ids in another order
pub first_least : (p : SnapId → Bool) (rising ids : List SnapId) → rises rising ≡ true → ((s : SnapId) → is_listed s rising ≡ is_listed s ids) → IsLeast (first_of (filter p rising)) (filter p ids)
first_least p rising ids order same =
    least_is (filter p rising) (filter p ids) (least_passes p rising order)
    (λ s. listed_filter p s rising ∙ ap (λ b. p s && b) (same s) ∙ sym (listed_filter p s ids))

all_pass : (ids : List SnapId) → filter (λ (id : SnapId). true) ids ≡ ids
all_pass [] = refl
all_pass (id ∷ ids) = ap (λ (xs : List SnapId). id ∷ xs) (all_pass ids)

pub first_is_least : (rising ids : List SnapId) → rises rising ≡ true → ((s : SnapId) → is_listed s rising ≡ is_listed s ids) → IsLeast (first_of rising) ids
first_is_least rising ids order same =
    subst (λ (xs : List SnapId). IsLeast (first_of rising) xs) (all_pass ids)
    (subst (λ (xs : List SnapId). IsLeast (first_of xs) (filter (λ (id : SnapId). true) ids)) (all_pass rising)
    (first_least (λ (id : SnapId). true) rising ids order same))

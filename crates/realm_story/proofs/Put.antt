-- The ids of some snapshots of falling ones, and more of them put in their places.
use Rattle.std.proofs.Common.{◌≡◌, ℕ, ◌<◌, ◌≤◌, Bool, true, false, ◌&&◌, ◌||◌, cond, eqb, ltb, leb, List, [], ◌∷◌, refl, ap, sym, ◌∙◌, subst, arith, filter, eqb-true}
use Rattle.std.proofs.lemmas.Bool.Decides.{nat_tests}
use Rattle.std.specs.List.{list_all}
use Rattle.snap_ids.specs.declared.id.SnapId.{SnapId}
use Rattle.snap_ids.specs.Context.{begins_below, is_listed}
use Rattle.snap_ids.specs.Traces.{with_id, with_ids, from_id}
use Rattle.realm_story.specs.declared.records.Snap.{Snap}
use Rattle.realm_story.specs.Records.{ids_of}
use Rattle.realm_story.proofs.Facts.{id_of, id_itself, above-apart, above-less, less-not, apart_sym, both_of}

-- the ids fall strictly below a bound
abbrev pub Falling : ℕ → List Snap → Type 0
Falling bound [] = Unit {0}
Falling bound (snap ∷ snaps) = (snap.id.0 < bound) × Falling snap.id.0 snaps

further : (m n : ℕ) (snaps : List Snap) → m ≤ n → Falling m snaps → Falling n snaps
further m n [] more fall = tt
further m n (snap ∷ snaps) more fall = (omega (arith, fall.0), fall.1)

-- what two tests tell of each of falling snapshots below a bound
pub filter_below : (p q : Snap → Bool) (bound : ℕ) (snaps : List Snap) → Falling bound snaps → ((snap : Snap) → snap.id.0 < bound → p snap ≡ q snap) → filter p snaps ≡ filter q snaps
filter_below p q bound [] fall same = refl
filter_below p q bound (snap ∷ snaps) fall same =
    let rest : filter p snaps ≡ filter q snaps = filter_below p q snap.id.0 snaps fall.1 (λ s low. same s (omega (arith, low, fall.0))) in
    rw (same snap fall.0, rest) refl

-- the test of an id, else another one
abbrev pub or_id : SnapId → (Snap → Bool) → Snap → Bool
or_id id p snap = eqb snap.id.0 id.0 || p snap

apart_below : (id : SnapId) (p : Snap → Bool) (snaps : List Snap) → Falling id.0 snaps → filter (or_id id p) snaps ≡ filter p snaps
apart_below id p snaps fall = filter_below (or_id id p) p id.0 snaps fall (λ s low. rw (above-apart s.id.0 id.0 low) refl)

begins_kept : (id : SnapId) (p : Snap → Bool) (snaps : List Snap) → Falling id.0 snaps → begins_below id (ids_of (filter p snaps)) ≡ true
begins_kept id p [] fall = refl
begins_kept id p (snap ∷ snaps) fall =
    elim (p snap) as (λ b. begins_below id (ids_of (cond b (snap ∷ filter p snaps) (filter p snaps))) ≡ true) [
      | true ↦ above-less snap.id.0 id.0 fall.0
      | false ↦ begins_kept id p snaps (further snap.id.0 id.0 snaps (omega (arith, fall.0)) fall.1)
    ]

with_id-front : (id : SnapId) (ids : List SnapId) → begins_below id ids ≡ true → with_id id ids ≡ id ∷ ids
with_id-front id [] below = refl
with_id-front id (next ∷ ids) below = rw below refl

with_id-same : (id next : SnapId) (ids : List SnapId) → id ≡ next → with_id id (next ∷ ids) ≡ next ∷ ids
with_id-same id next ids same = subst (λ t. with_id t (next ∷ ids) ≡ next ∷ ids) (sym same) (there next ids (ltb next.0 next.0) refl)
  where
    there : (x : SnapId) (xs : List SnapId) (l : Bool) → ltb x.0 x.0 ≡ l → cond l (x ∷ x ∷ xs) (cond (eqb x.0 x.0) (x ∷ xs) (x ∷ with_id x xs)) ≡ x ∷ xs
    there x xs true less = absurd (grind (arith, nat_tests))
    there x xs false less = rw (id_itself x) refl

with_id-later : (id next : SnapId) (ids : List SnapId) → id.0 < next.0 → with_id id (next ∷ ids) ≡ next ∷ with_id id ids
with_id-later id next ids less = rw (less-not id.0 next.0 less, apart_sym id.0 next.0 less) refl

listed_below : (id : SnapId) (bound : ℕ) (snaps : List Snap) → Falling bound snaps → is_listed id (ids_of snaps) ≡ true → id.0 < bound
listed_below id bound [] fall listed = cc
listed_below id bound (snap ∷ snaps) fall listed =
    found (eqb snap.id.0 id.0) refl listed (λ h. listed_below id snap.id.0 snaps fall.1 h)
  where
    found : (e : Bool) → eqb snap.id.0 id.0 ≡ e → (e || is_listed id (ids_of snaps)) ≡ true → (is_listed id (ids_of snaps) ≡ true → id.0 < snap.id.0) → id.0 < bound
    found true equal h later = let same : snap.id.0 ≡ id.0 = eqb-true snap.id.0 id.0 equal in omega (arith, fall.0)
    found false equal h later = let low : id.0 < snap.id.0 = later h in omega (arith, fall.0)

or_rest : (e b : Bool) → (e || b) ≡ true → e ≡ false → b ≡ true
or_rest true b h apart = cc
or_rest false b h apart = h

put_at : (id : SnapId) (p : Snap → Bool) (snap : Snap) (snaps : List Snap) (e b : Bool) → eqb snap.id.0 id.0 ≡ e → Falling snap.id.0 snaps → (e ≡ false → id.0 < snap.id.0) → (e ≡ false → with_id id (ids_of (filter p snaps)) ≡ ids_of (filter (or_id id p) snaps)) → with_id id (ids_of (cond b (snap ∷ filter p snaps) (filter p snaps))) ≡ ids_of (cond (e || b) (snap ∷ filter (or_id id p) snaps) (filter (or_id id p) snaps))
put_at id p snap snaps true true equal fall low next =
    let same : id ≡ snap.id = sym (id_of snap.id id equal) in
    let apart : filter (or_id id p) snaps ≡ filter p snaps = apart_below id p snaps (subst (λ t. Falling t.0 snaps) (sym same) fall) in
    with_id-same id snap.id (ids_of (filter p snaps)) same ∙ ap (λ xs. snap.id ∷ ids_of xs) (sym apart)
put_at id p snap snaps true false equal fall low next =
    let same : id ≡ snap.id = sym (id_of snap.id id equal) in
    let lower : Falling id.0 snaps = subst (λ t. Falling t.0 snaps) (sym same) fall in
    let apart : filter (or_id id p) snaps ≡ filter p snaps = apart_below id p snaps lower in
    with_id-front id (ids_of (filter p snaps)) (begins_kept id p snaps lower)
    ∙ ap (λ x. x ∷ ids_of (filter p snaps)) same
    ∙ ap (λ xs. snap.id ∷ ids_of xs) (sym apart)
put_at id p snap snaps false true equal fall low next =
    with_id-later id snap.id (ids_of (filter p snaps)) (low refl) ∙ ap (λ xs. snap.id ∷ xs) (next refl)
put_at id p snap snaps false false equal fall low next = next refl

-- the id of a snapshot goes to its place
pub put_one : (id : SnapId) (p : Snap → Bool) (bound : ℕ) (snaps : List Snap) → Falling bound snaps → is_listed id (ids_of snaps) ≡ true → with_id id (ids_of (filter p snaps)) ≡ ids_of (filter (or_id id p) snaps)
put_one id p bound [] fall listed = cc
put_one id p bound (snap ∷ snaps) fall listed =
    let listed_there : (eqb snap.id.0 id.0 || is_listed id (ids_of snaps)) ≡ true = listed in
    put_at id p snap snaps (eqb snap.id.0 id.0) (p snap) refl fall.1
    (λ apart. listed_below id snap.id.0 snaps fall.1 (or_rest (eqb snap.id.0 id.0) (is_listed id (ids_of snaps)) listed_there apart))
    (λ apart. put_one id p snap.id.0 snaps fall.1 (or_rest (eqb snap.id.0 id.0) (is_listed id (ids_of snaps)) listed_there apart))

-- the test of some ids, else another one
abbrev pub or_listed : List SnapId → (Snap → Bool) → Snap → Bool
or_listed ids p snap = is_listed snap.id ids || p snap

filter_same : (p q : Snap → Bool) (snaps : List Snap) → ((snap : Snap) → p snap ≡ q snap) → filter p snaps ≡ filter q snaps
filter_same p q [] same = refl
filter_same p q (snap ∷ snaps) same = let rest : filter p snaps ≡ filter q snaps = filter_same p q snaps same in rw (same snap, rest) refl

or_step : (x y : ℕ) (b c : Bool) → (eqb x y || (b || c)) ≡ ((eqb y x || b) || c)
or_step x y b c = rw (swapped x y) (regroup (eqb y x) b c)
  where
    swapped : (x y : ℕ) → eqb x y ≡ eqb y x
    swapped x y = grind (arith, nat_tests)

    regroup : (a b c : Bool) → (a || (b || c)) ≡ ((a || b) || c)
    regroup true b c = refl
    regroup false b c = refl

-- all of them are ids of snapshots
abbrev pub all_in : List Snap → List SnapId → Bool
all_in snaps ids = list_all (λ id. is_listed id (ids_of snaps)) ids

-- the ids of some snapshots go to their places
pub put_all : (more : List SnapId) (p : Snap → Bool) (bound : ℕ) (snaps : List Snap) → Falling bound snaps → all_in snaps more ≡ true → with_ids more (ids_of (filter p snaps)) ≡ ids_of (filter (or_listed more p) snaps)
put_all [] p bound snaps fall known = refl
put_all (id ∷ more) p bound snaps fall known =
    let both = both_of (is_listed id (ids_of snaps)) (all_in snaps more) known in
    ap (with_id id) (put_all more p bound snaps fall both.1)
    ∙ put_one id (or_listed more p) bound snaps fall both.0
    ∙ ap ids_of (filter_same (or_id id (or_listed more p)) (or_listed (id ∷ more) p) snaps (λ snap. or_step snap.id.0 id.0 (is_listed snap.id more) (p snap)))

-- the ids from one on
pub from_kept : (first : SnapId) (p : Snap → Bool) (snaps : List Snap) → from_id first (ids_of (filter p snaps)) ≡ ids_of (filter (λ snap. leb first.0 snap.id.0 && p snap) snaps)
from_kept first p [] = refl
from_kept first p (snap ∷ snaps) = at (p snap) (leb first.0 snap.id.0) refl (from_kept first p snaps)
  where
    at : (b c : Bool) → leb first.0 snap.id.0 ≡ c → from_id first (ids_of (filter p snaps)) ≡ ids_of (filter (λ snap. leb first.0 snap.id.0 && p snap) snaps) → from_id first (ids_of (cond b (snap ∷ filter p snaps) (filter p snaps))) ≡ ids_of (cond (c && b) (snap ∷ filter (λ snap. leb first.0 snap.id.0 && p snap) snaps) (filter (λ snap. leb first.0 snap.id.0 && p snap) snaps))
    at true true is rest = rw (is, rest) refl
    at true false is rest = rw (is, rest) refl
    at false true is rest = rest
    at false false is rest = rest

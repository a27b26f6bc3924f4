-- What the versions of a name hold at an id.
use Rattle.std.proofs.Common.{◌≡◌, ℕ, zero, suc, ◌+◌, ◌<◌, ◌≤◌, Bool, true, false, ◌&&◌, cond, nat_lt, nat_le, List, [], ◌∷◌, ◌++◌, take, drop, slice_get, length, get_or, None, Some, refl, arith}
use Rattle.std.specs.List.{AllByRecursion}
use Rattle.std.specs.List.Sorted.{IsPartitionedBy}
use Rattle.std.specs.Option.{option_or}
use Rattle.std.proofs.lemmas.Bool.Decides.{nat_tests}
use Rattle.snap_ids.specs.declared.id.SnapId.{SnapId}
use Rattle.dentry_tree.specs.declared.version.Version.{Version}
use Rattle.dentry_tree.specs.Dentries.{is_valid_at, ino_at, AreBetween}
use Rattle.dentry_tree.specs.Places.{begun}

-- the ids between which versions stand don't fall
pub between_le : (low : ℕ) (vs : List Version) (high : ℕ) → AreBetween low vs high → low ≤ high
between_le low [] high between = between
between_le low (v ∷ vs) high between =
    let more : v.valid.last.0 + 1 ≤ high = between_le (v.valid.last.0 + 1) vs high between.2 in
    omega (arith, between.0, between.1)

-- versions above an id are above a lower one
pub between_from : (lower low : ℕ) (vs : List Version) (high : ℕ) → lower ≤ low → AreBetween low vs high → AreBetween lower vs high
between_from lower low [] high less between = omega arith
between_from lower low (v ∷ vs) high less between = (omega (arith, between.0), between.1, between.2)

-- none of those above an id is valid there
pub none_below : (low : ℕ) (vs : List Version) (high : ℕ) (s : SnapId) → s.0 < low → AreBetween low vs high → ino_at s vs ≡ None
none_below low [] high s below between = refl
none_below low (v ∷ vs) high s below between =
    let out : is_valid_at s v ≡ false = grind (arith, nat_tests, between.0) in
    rw out (none_below (v.valid.last.0 + 1) vs high s (omega (arith, between.0, between.1)) between.2)

-- nor of those below it
pub none_above : (low : ℕ) (vs : List Version) (high : ℕ) (s : SnapId) → high ≤ s.0 → AreBetween low vs high → ino_at s vs ≡ None
none_above low [] high s above between = refl
none_above low (v ∷ vs) high s above between =
    let ends : v.valid.last.0 + 1 ≤ high = between_le (v.valid.last.0 + 1) vs high between.2 in
    let out : is_valid_at s v ≡ false = grind (arith, nat_tests) in
    rw out (none_above (v.valid.last.0 + 1) vs high s above between.2)

first_found : (v : Version) (vs : List Version) (high : ℕ) (s : SnapId) → s.0 ≤ v.valid.last.0 → AreBetween (v.valid.last.0 + 1) vs high → (begins ends : Bool) → nat_le v.valid.first.0 s.0 ≡ begins → nat_le s.0 v.valid.last.0 ≡ ends → cond (begins && ends) (Some v.ino) (ino_at s vs) ≡ cond begins (Some v.ino) None
first_found v vs high s last between true true begins ends = refl
first_found v vs high s last between true false begins ends = absurd (let no : v.valid.last.0 < s.0 = grind (arith, nat_tests) in omega arith)
first_found v vs high s last between false ends is_begun is_ended = none_below (v.valid.last.0 + 1) vs high s (omega arith) between

-- the first one that doesn't end before the id is the one that is valid there, if any is
pub found : (low : ℕ) (vs : List Version) (high : ℕ) (s : SnapId) (i : ℕ) → AreBetween low vs high → AllByRecursion (λ v. nat_lt v.valid.last.0 s.0 ≡ true) (take i vs) → AllByRecursion (λ v. nat_lt v.valid.last.0 s.0 ≡ false) (drop i vs) → ino_at s vs ≡ begun s (slice_get vs i)
found low [] high s zero between front back = refl
found low [] high s (suc i) between front back = refl
found low (v ∷ vs) high s zero between front back =
    let last : s.0 ≤ v.valid.last.0 = grind (arith, nat_tests, back.0) in
    first_found v vs high s last between.2 _ _ refl refl
found low (v ∷ vs) high s (suc i) between front back =
    let out : is_valid_at s v ≡ false = grind (arith, nat_tests, front.0) in
    rw out (found (v.valid.last.0 + 1) vs high s i between.2 front.1 back)

-- each of those above an id begins and ends above it
all_above : (low : ℕ) (vs : List Version) (high : ℕ) (j : ℕ) (d : Version) → AreBetween low vs high → j < length vs → low ≤ (get_or vs j d).valid.last.0
all_above low [] high j d between lt = absurd (omega arith)
all_above low (v ∷ vs) high zero d between lt = omega (arith, between.0, between.1)
all_above low (v ∷ vs) high (suc j) d between lt =
    let rest : v.valid.last.0 + 1 ≤ (get_or vs j d).valid.last.0 = all_above (v.valid.last.0 + 1) vs high j d between.2 (omega arith) in
    omega (arith, between.0, between.1)

earlier_ends : (v w : Version) (s : SnapId) → v.valid.last.0 + 1 ≤ w.valid.last.0 → nat_lt w.valid.last.0 s.0 ≡ true → nat_lt v.valid.last.0 s.0 ≡ true
earlier_ends v w s less passes = grind (arith, nat_tests)

-- what ends before an id comes first
pub ends_before : (low : ℕ) (vs : List Version) (high : ℕ) (s : SnapId) → AreBetween low vs high → IsPartitionedBy (λ (v : Version). nat_lt v.valid.last.0 s.0) vs
ends_before low [] high s between i j d le lt passes = absurd (omega arith)
ends_before low (v ∷ vs) high s between zero zero d le lt passes = passes
ends_before low (v ∷ vs) high s between zero (suc j) d le lt passes = earlier_ends v (get_or vs j d) s (all_above (v.valid.last.0 + 1) vs high j d between.2 (omega arith)) passes
ends_before low (v ∷ vs) high s between (suc i) zero d le lt passes = absurd (omega arith)
ends_before low (v ∷ vs) high s between (suc i) (suc j) d le lt passes = ends_before (v.valid.last.0 + 1) vs high s between.2 i j d (omega arith) (omega arith) passes

all_begin_above : (low : ℕ) (vs : List Version) (high : ℕ) (j : ℕ) (d : Version) → AreBetween low vs high → j < length vs → low ≤ (get_or vs j d).valid.first.0
all_begin_above low [] high j d between lt = absurd (omega arith)
all_begin_above low (v ∷ vs) high zero d between lt = between.0
all_begin_above low (v ∷ vs) high (suc j) d between lt =
    let rest : v.valid.last.0 + 1 ≤ (get_or vs j d).valid.first.0 = all_begin_above (v.valid.last.0 + 1) vs high j d between.2 (omega arith) in
    omega (arith, between.0, between.1)

earlier_begins : (v w : Version) (s : SnapId) → v.valid.first.0 ≤ v.valid.last.0 → v.valid.last.0 + 1 ≤ w.valid.first.0 → nat_le w.valid.first.0 s.0 ≡ true → nat_le v.valid.first.0 s.0 ≡ true
earlier_begins v w s ends less passes = grind (arith, nat_tests)

-- what begins by an id comes first
pub begins_by : (low : ℕ) (vs : List Version) (high : ℕ) (s : SnapId) → AreBetween low vs high → IsPartitionedBy (λ (v : Version). nat_le v.valid.first.0 s.0) vs
begins_by low [] high s between i j d le lt passes = absurd (omega arith)
begins_by low (v ∷ vs) high s between zero zero d le lt passes = passes
begins_by low (v ∷ vs) high s between zero (suc j) d le lt passes = earlier_begins v (get_or vs j d) s between.1 (all_begin_above (v.valid.last.0 + 1) vs high j d between.2 (omega arith)) passes
begins_by low (v ∷ vs) high s between (suc i) zero d le lt passes = absurd (omega arith)
begins_by low (v ∷ vs) high s between (suc i) (suc j) d le lt passes = begins_by (v.valid.last.0 + 1) vs high s between.2 i j d (omega arith) (omega arith) passes

-- versions, and further ones behind them
pub ino_at-append : (s : SnapId) (vs ws : List Version) → ino_at s (vs ++ ws) ≡ option_or (ino_at s vs) (ino_at s ws)
ino_at-append s [] ws = refl
ino_at-append s (v ∷ vs) ws = either (is_valid_at s v) v vs ws s (ino_at-append s vs ws)
  where
    either : (b : Bool) (v : Version) (vs ws : List Version) (s : SnapId) → ino_at s (vs ++ ws) ≡ option_or (ino_at s vs) (ino_at s ws) → cond b (Some v.ino) (ino_at s (vs ++ ws)) ≡ option_or (cond b (Some v.ino) (ino_at s vs)) (ino_at s ws)
    either true v vs ws s rest = refl
    either false v vs ws s rest = rest

-- What versions say at an id.
use Rattle.std.proofs.Common.{◌≡◌, ℕ, zero, suc, ◌+◌, ◌<◌, ◌≤◌, Bool, true, false, ◌&&◌, cond, nat_lt, nat_le, List, [], ◌∷◌, ◌++◌, take, drop, slice_get, length, get_or, None, Some, refl, arith}
use Rattle.std.specs.List.{AllByRecursion}
use Rattle.std.specs.List.Sorted.{IsPartitionedBy}
use Rattle.std.specs.Option.{option_or}
use Rattle.std.proofs.lemmas.Bool.Decides.{nat_tests}
use Rattle.snap_ids.specs.declared.id.SnapId.{SnapId}
use Rattle.inode_versions.specs.declared.attr.Version.{Version}
use Rattle.inode_versions.specs.Histories.{is_valid_at, earlier_at, AreBetween}
use Rattle.inode_versions.specs.Parts.{begun}
use Rattle.inode_versions.proofs.Order.{between_le}

-- none of those above an id is valid there
pub none_below : (low : ℕ) (vs : List Version) (high : ℕ) (s : SnapId) → s.0 < low → AreBetween low vs high → earlier_at vs s ≡ None
none_below low [] high s below between = refl
none_below low (v ∷ vs) high s below between =
    let out : is_valid_at s v ≡ false = grind (arith, nat_tests, between.0) in
    rw out (none_below (v.valid.last.0 + 1) vs high s (omega (arith, between.0, between.1)) between.2)

-- nor of those below it
pub none_above : (low : ℕ) (vs : List Version) (high : ℕ) (s : SnapId) → high ≤ s.0 → AreBetween low vs high → earlier_at vs s ≡ None
none_above low [] high s above between = refl
none_above low (v ∷ vs) high s above between =
    let ends : v.valid.last.0 + 1 ≤ high = between_le (v.valid.last.0 + 1) vs high between.2 in
    let out : is_valid_at s v ≡ false = grind (arith, nat_tests) in
    rw out (none_above (v.valid.last.0 + 1) vs high s above between.2)

first_found : (v : Version) (vs : List Version) (high : ℕ) (s : SnapId) → s.0 ≤ v.valid.last.0 → AreBetween (v.valid.last.0 + 1) vs high → (begins ends : Bool) → nat_le v.valid.first.0 s.0 ≡ begins → nat_le s.0 v.valid.last.0 ≡ ends → cond (begins && ends) (Some v.attr) (earlier_at vs s) ≡ cond begins (Some v.attr) None
first_found v vs high s last between true true begins ends = refl
first_found v vs high s last between true false begins ends = absurd (let no : v.valid.last.0 < s.0 = grind (arith, nat_tests) in omega arith)
first_found v vs high s last between false ends is_begun is_ended = none_below (v.valid.last.0 + 1) vs high s (omega arith) between

-- the first one that doesn't end before the id is the one that is valid there, if any is
pub found : (low : ℕ) (vs : List Version) (high : ℕ) (s : SnapId) (i : ℕ) → AreBetween low vs high → AllByRecursion (λ v. nat_lt v.valid.last.0 s.0 ≡ true) (take i vs) → AllByRecursion (λ v. nat_lt v.valid.last.0 s.0 ≡ false) (drop i vs) → earlier_at vs s ≡ begun s (slice_get vs i)
found low [] high s zero between front back = refl
found low [] high s (suc i) between front back = refl
found low (v ∷ vs) high s zero between front back =
    let last : s.0 ≤ v.valid.last.0 = grind (arith, nat_tests, back.0) in
    first_found v vs high s last between.2 _ _ refl refl
found low (v ∷ vs) high s (suc i) between front back =
    let out : is_valid_at s v ≡ false = grind (arith, nat_tests, front.0) in
    rw out (found (v.valid.last.0 + 1) vs high s i between.2 front.1 back)

-- each of those above an id ends above it
all_above : (low : ℕ) (vs : List Version) (high : ℕ) (j : ℕ) (d : Version) → AreBetween low vs high → j < length vs → low ≤ (get_or vs j d).valid.last.0
all_above low [] high j d between lt = absurd (omega arith)
all_above low (v ∷ vs) high zero d between lt = omega (arith, between.0, between.1)
all_above low (v ∷ vs) high (suc j) d between lt =
    let rest : v.valid.last.0 + 1 ≤ (get_or vs j d).valid.last.0 = all_above (v.valid.last.0 + 1) vs high j d between.2 (omega arith) in
    omega (arith, between.0, between.1)

earlier_ends : (v w : Version) (s : SnapId) → v.valid.last.0 + 1 ≤ w.valid.last.0 → nat_lt w.valid.last.0 s.0 ≡ true → nat_lt v.valid.last.0 s.0 ≡ true
earlier_ends v w s less passes = grind (arith, nat_tests)

-- in order, versions that pass a test come first if what ends before such a version passes it too
ends_first : (p : Version → Bool) → ((v w : Version) → v.valid.last.0 + 1 ≤ w.valid.last.0 → p w ≡ true → p v ≡ true) → (low : ℕ) (vs : List Version) (high : ℕ) → AreBetween low vs high → IsPartitionedBy p vs
ends_first p steady low [] high between i j d le lt passes = absurd (omega arith)
ends_first p steady low (v ∷ vs) high between zero zero d le lt passes = passes
ends_first p steady low (v ∷ vs) high between zero (suc j) d le lt passes = steady v (get_or vs j d) (all_above (v.valid.last.0 + 1) vs high j d between.2 (omega arith)) passes
ends_first p steady low (v ∷ vs) high between (suc i) zero d le lt passes = absurd (omega arith)
ends_first p steady low (v ∷ vs) high between (suc i) (suc j) d le lt passes = ends_first p steady (v.valid.last.0 + 1) vs high between.2 i j d (omega arith) (omega arith) passes

-- what ends before an id comes first
pub ends_before : (low : ℕ) (vs : List Version) (high : ℕ) (s : SnapId) → AreBetween low vs high → IsPartitionedBy (λ (v : Version). nat_lt v.valid.last.0 s.0) vs
ends_before low vs high s between = ends_first (λ v. nat_lt v.valid.last.0 s.0) (λ v w less passes. earlier_ends v w s less passes) low vs high between

-- and so does what ends by it
ends_by_too : (v w : Version) (s : SnapId) → v.valid.last.0 + 1 ≤ w.valid.last.0 → nat_le w.valid.last.0 s.0 ≡ true → nat_le v.valid.last.0 s.0 ≡ true
ends_by_too v w s less passes = grind (arith, nat_tests)

pub ends_by : (low : ℕ) (vs : List Version) (high : ℕ) (s : SnapId) → AreBetween low vs high → IsPartitionedBy (λ (v : Version). nat_le v.valid.last.0 s.0) vs
ends_by low vs high s between = ends_first (λ v. nat_le v.valid.last.0 s.0) (λ v w less passes. ends_by_too v w s less passes) low vs high between

-- versions, and further ones behind them
pub earlier_at-append : (vs ws : List Version) (s : SnapId) → earlier_at (vs ++ ws) s ≡ option_or (earlier_at vs s) (earlier_at ws s)
earlier_at-append [] ws s = refl
earlier_at-append (v ∷ vs) ws s = either (is_valid_at s v) v vs ws s (earlier_at-append vs ws s)
  where
    either : (b : Bool) (v : Version) (vs ws : List Version) (s : SnapId) → earlier_at (vs ++ ws) s ≡ option_or (earlier_at vs s) (earlier_at ws s) → cond b (Some v.attr) (earlier_at (vs ++ ws) s) ≡ option_or (cond b (Some v.attr) (earlier_at vs s)) (earlier_at ws s)
    either true v vs ws s rest = refl
    either false v vs ws s rest = rest

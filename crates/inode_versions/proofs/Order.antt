-- Versions in order, and parts of them.
use Rattle.std.proofs.Common.{◌≡◌, ℕ, zero, suc, ◌+◌, ◌<◌, ◌≤◌, Bool, true, false, ◌||◌, ◌==◌, cond, nat_le, nat_lt, min, max, List, [], ◌∷◌, ◌++◌, length, take, drop, refl, arith}
use Rattle.std.specs.List.{filter, flat_map, AllByRecursion, AllWithin}
use Rattle.std.proofs.lemmas.Bool.Decides.{nat_tests}
use Rattle.snap_ids.specs.declared.id.SnapId.{SnapId}
use Rattle.inode_versions.specs.declared.attr.Attr.{Attr}
use Rattle.inode_versions.specs.declared.attr.Version.{Version}
use Rattle.inode_versions.specs.Histories.{History, AreBetween, IsHistory, is_needed, with_size, since_settled}
use Rattle.snap_ids.specs.declared.id.TheConstants.{NOSNAP}
use Rattle.inode_versions.specs.Parts.{part, parts, settled_parts, changed, trimmed, settled, head_parts, head_before}

-- the ids between which versions stand don't fall
pub between_le : (low : ℕ) (vs : List Version) (high : ℕ) → AreBetween low vs high → low ≤ high
between_le low [] high between = between
between_le low (v ∷ vs) high between =
    let more : v.valid.last.0 + 1 ≤ high = between_le (v.valid.last.0 + 1) vs high between.2 in
    omega (arith, between.0, between.1)

-- versions above an id are above a lower one
pub between_from : (lower low : ℕ) (vs : List Version) (high : ℕ) → lower ≤ low → AreBetween low vs high → AreBetween lower vs high
between_from lower low [] high less between = omega arith
between_from lower low (v ∷ vs) high less between = (omega (arith, between.0), between.1, between.2)

-- and below an id are below a higher one
pub between_to : (low : ℕ) (vs : List Version) (high higher : ℕ) → high ≤ higher → AreBetween low vs high → AreBetween low vs higher
between_to low [] high higher more between = omega arith
between_to low (v ∷ vs) high higher more between = (between.0, between.1, between_to (v.valid.last.0 + 1) vs high higher more between.2)

-- versions, and further ones behind them
pub between-append : (low : ℕ) (vs : List Version) (mid : ℕ) (ws : List Version) (high : ℕ) → AreBetween low vs mid → AreBetween mid ws high → AreBetween low (vs ++ ws) high
between-append low [] mid ws high front back = between_from low mid ws high front back
between-append low (v ∷ vs) mid ws high front back = (front.0, front.1, between-append (v.valid.last.0 + 1) vs mid ws high front.2 back)

-- one version, if there is an id between its ends
one_part : (low first last : ℕ) (attr : Attr) (high : ℕ) (some : Bool) → nat_le first last ≡ some → low ≤ first → last < high → low ≤ high → AreBetween low (cond some (record { valid = record { first = record { 0 = first }; last = record { 0 = last } }; attr = attr } ∷ []) []) high
one_part low first last attr high true some above below ends = (above, grind (arith, nat_tests), omega arith)
one_part low first last attr high false some above below ends = ends

pub part_between : (low first last : ℕ) (attr : Attr) (high : ℕ) → low ≤ first → last < high → low ≤ high → AreBetween low (part first last attr) high
part_between low first last attr high above below ends = one_part low first last attr high (nat_le first last) refl above below ends

-- the versions that pass a test
one_kept : (p : Version → Bool) (low : ℕ) (v : Version) (vs : List Version) (high : ℕ) (kept : Bool) → low ≤ v.valid.first.0 → v.valid.first.0 ≤ v.valid.last.0 → AreBetween (v.valid.last.0 + 1) (filter p vs) high → AreBetween low (cond kept (v ∷ filter p vs) (filter p vs)) high
one_kept p low v vs high true above ends rest = (above, ends, rest)
one_kept p low v vs high false above ends rest = between_from low (v.valid.last.0 + 1) (filter p vs) high (omega arith) rest

pub between-filter : (p : Version → Bool) (low : ℕ) (vs : List Version) (high : ℕ) → AreBetween low vs high → AreBetween low (filter p vs) high
between-filter p low [] high between = between
between-filter p low (v ∷ vs) high between = one_kept p low v vs high (p v) between.0 between.1 (between-filter p (v.valid.last.0 + 1) vs high between.2)

-- versions, each in pieces between its own ends
pub between-flat_map : (f : Version → List Version) → ((v : Version) → v.valid.first.0 ≤ v.valid.last.0 → AreBetween v.valid.first.0 (f v) (v.valid.last.0 + 1)) → (low : ℕ) (vs : List Version) (high : ℕ) → AreBetween low vs high → AreBetween low (flat_map f vs) high
between-flat_map f within low [] high between = between
between-flat_map f within low (v ∷ vs) high between =
    between-append low (f v) (v.valid.last.0 + 1) (flat_map f vs) high
    (between_from low v.valid.first.0 (f v) (v.valid.last.0 + 1) between.0 (within v between.1))
    (between-flat_map f within (v.valid.last.0 + 1) vs high between.2)

-- a version in three pieces
parts_between : (follows upto : SnapId) (size : ℕ) → follows.0 < upto.0 → (v : Version) → v.valid.first.0 ≤ v.valid.last.0 → AreBetween v.valid.first.0 (parts follows upto size v) (v.valid.last.0 + 1)
parts_between follows upto size less v ends =
    let first = v.valid.first.0 in
    let last = v.valid.last.0 in
    let one = max first (min (last + 1) (follows.0 + 1)) in
    let two = max first (min (last + 1) (upto.0 + 1)) in
    between-append first _ one _ (last + 1)
    (part_between first first (min last follows.0) _ one (omega arith) (omega arith) (omega arith))
    (between-append one _ two _ (last + 1)
    (part_between one (max first (follows.0 + 1)) (min last upto.0) _ two (omega arith) (omega arith) (omega arith))
    (part_between two (max first (upto.0 + 1)) last _ (last + 1) (omega arith) (omega arith) (omega arith)))

one_piece : (follows upto : SnapId) (size : ℕ) → follows.0 < upto.0 → (v : Version) → v.valid.first.0 ≤ v.valid.last.0 → (same : Bool) → AreBetween v.valid.first.0 (cond same (v ∷ []) (parts follows upto size v)) (v.valid.last.0 + 1)
one_piece follows upto size less v ends true = (omega arith, ends, omega arith)
one_piece follows upto size less v ends false = parts_between follows upto size less v ends

pub settled_parts_between : (follows upto : SnapId) (size : ℕ) → follows.0 < upto.0 → (v : Version) → v.valid.first.0 ≤ v.valid.last.0 → AreBetween v.valid.first.0 (settled_parts follows upto size v) (v.valid.last.0 + 1)
settled_parts_between follows upto size less v ends = one_piece follows upto size less v ends _

-- of each up to a place
pub all_taken : {X : Type 0} (P : X → Type 0) (xs : List X) (i : ℕ) → AllWithin P xs 0 i → AllByRecursion P (take i xs)
all_taken P xs zero within = tt
all_taken P [] (suc i) within = tt
all_taken P (x ∷ xs) (suc i) within =
    (within 0 x (omega arith) (omega arith), all_taken P xs i (λ k d low high. within (suc k) d (omega arith) (omega arith)))

-- of each from a place on
pub all_dropped : {X : Type 0} (P : X → Type 0) (xs : List X) (i : ℕ) → AllWithin P xs i (length xs) → AllByRecursion P (drop i xs)
all_dropped P [] zero within = tt
all_dropped P [] (suc i) within = tt
all_dropped P (x ∷ xs) zero within =
    (within 0 x (omega arith) (omega arith), all_dropped P xs zero (λ k d low high. within (suc k) d (omega arith) (omega arith)))
all_dropped P (x ∷ xs) (suc i) within = all_dropped P xs i (λ k d low high. within (suc k) d (omega arith) (omega arith))

-- an inode after a change
pub changed_history : (follows : SnapId) (attr : Attr) (history : History) → follows.0 < NOSNAP.0 → IsHistory history → IsHistory (changed follows attr history)
changed_history follows attr history below is =
    let since = history.since.0 in
    let later = max since (follows.0 + 1) in
    record {
      live = omega (arith, is.live);
      earlier = between-append 0 history.earlier since _ later is.earlier (part_between since since follows.0 history.head later (omega arith) (omega arith) (omega arith));
    }

-- an inode without some of its earlier versions
pub trimmed_history : (live : List SnapId) (history : History) → IsHistory history → IsHistory (trimmed live history)
trimmed_history live history is = record {
  live = is.live;
  earlier = between-filter (is_needed live) 0 history.earlier history.since.0 is.earlier;
}

module _ (follows upto : SnapId) (size : ℕ) (less : follows.0 < upto.0) (history : History) where
  abbrev since : ℕ
  since = history.since.0

  abbrev mid : ℕ
  mid = max since (follows.0 + 1)

  -- the first id stays, or goes no further than NOSNAP
  live_since : (same none out further : Bool) → follows.0 < NOSNAP.0 → nat_lt upto.0 NOSNAP.0 ≡ further → since ≤ NOSNAP.0 → (cond (same || (none || out)) history.since (cond further (record { 0 = upto.0 + 1 }) (record { 0 = mid }))).0 ≤ NOSNAP.0
  live_since true none out further below is_further live = live
  live_since false true out further below is_further live = live
  live_since false false true further below is_further live = live
  live_since false false false true below is_further live = grind (arith, nat_tests)
  live_since false false false false below is_further live = omega arith

  -- the head's pieces stand before its new first id
  head_between : (same none out further : Bool) → nat_le upto.0 follows.0 ≡ none → nat_lt upto.0 since ≡ out → AreBetween since (cond (same || out) [] (head_before follows history ++ cond further (part mid upto.0 (with_size size history.head)) [])) (cond (same || (none || out)) history.since (cond further (record { 0 = upto.0 + 1 }) (record { 0 = mid }))).0
  head_between true none out further is_none is_out = omega arith
  head_between false true out further is_none is_out = absurd (let no : upto.0 ≤ follows.0 = grind (arith, nat_tests) in omega arith)
  head_between false false true further is_none is_out = omega arith
  head_between false false false true is_none is_out =
      let reached : since ≤ upto.0 = grind (arith, nat_tests) in
      between-append since (head_before follows history) mid _ (upto.0 + 1)
      (part_between since since follows.0 history.head mid (omega arith) (omega arith) (omega arith))
      (part_between mid mid upto.0 (with_size size history.head) (upto.0 + 1) (omega arith) (omega arith) (omega arith))
  head_between false false false false is_none is_out =
      between-append since (head_before follows history) mid [] mid
      (part_between since since follows.0 history.head mid (omega arith) (omega arith) (omega arith)) (omega arith)

  -- the same of the definitions
  pub head_parts_between : AreBetween since (head_parts follows upto size history) (since_settled follows upto size history.head history.since).0
  head_parts_between = head_between (history.head.size == size) (nat_le upto.0 follows.0) (nat_lt upto.0 since) (nat_lt upto.0 NOSNAP.0) refl refl

  -- an inode after a size is settled
  pub settled_history : follows.0 < NOSNAP.0 → IsHistory history → IsHistory (settled follows upto size history)
  settled_history below is = record {
    live = live_since (history.head.size == size) (nat_le upto.0 follows.0) (nat_lt upto.0 since) (nat_lt upto.0 NOSNAP.0) below refl is.live;
    earlier = between-append 0 (flat_map (settled_parts follows upto size) history.earlier) since (head_parts follows upto size history) _
        (between-flat_map (settled_parts follows upto size) (settled_parts_between follows upto size less) 0 history.earlier since is.earlier)
        head_parts_between;
  }

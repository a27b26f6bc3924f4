-- What a cut, a new version and a trim leave of the versions of a name.
use Rattle.std.proofs.Common.{◌≡◌, ℕ, zero, suc, ◌+◌, ◌-◌, ◌<◌, ◌≤◌, Bool, true, false, ◌==◌, cond, min, max, nat_le, List, [], ◌∷◌, ◌++◌, take, drop, set, length, get_or, None, Some, refl, sym, ◌∙◌, ap, arith}
use Rattle.std.specs.List.{AllByRecursion, filter}
use Rattle.std.proofs.lemmas.Bool.Decides.{nat_tests}
use Rattle.snap_ids.specs.declared.id.SnapId.{SnapId}
use Rattle.snap_ids.specs.declared.id.TheConstants.{NOSNAP}
use Rattle.dentry_tree.specs.declared.version.Version.{Version}
use Rattle.dentry_tree.specs.Dentries.{is_valid_at, ino_at, AreBetween, changed_at, newest_of}
use Rattle.dentry_tree.specs.Places.{ended, last_ended, cut_versions}
use Rattle.dentry_tree.proofs.Held.{between_le, between_from, none_below}

-- a version up to an id
abbrev pub version_to : Version → ℕ → Version
version_to v last = record { ino = v.ino; valid = record { first = v.valid.first; last = record { 0 = last } } }

module _ (applied : SnapId) where
  -- a version that ends by the id stays as it is
  ended_same : (v : Version) → v.valid.last.0 ≤ applied.0 → ended applied v ≡ v
  ended_same v ends = ap (version_to v) (omega arith)

  -- where the first one begins later, nothing is left
  cut_none : (vs : List Version) → AllByRecursion (λ v. nat_le v.valid.first.0 applied.0 ≡ false) vs → cut_versions applied vs ≡ []
  cut_none [] later = refl
  cut_none (v ∷ vs) later = rw later.0 refl

  -- those that begin by the id, the last of which ends by it, are what is left
  pub last_ended-cut : (low : ℕ) (vs : List Version) (high : ℕ) (i : ℕ) → AreBetween low vs high → AllByRecursion (λ v. nat_le v.valid.first.0 applied.0 ≡ true) (take i vs) → AllByRecursion (λ v. nat_le v.valid.first.0 applied.0 ≡ false) (drop i vs) → last_ended applied (take i vs) ≡ cut_versions applied vs
  last_ended-cut low [] high zero between front back = refl
  last_ended-cut low [] high (suc i) between front back = refl
  last_ended-cut low (v ∷ vs) high zero between front back = rw back.0 refl
  last_ended-cut low (v ∷ vs) high (suc zero) between front back = rw front.0 (ap (λ ws. ended applied v ∷ ws) (sym (cut_none vs back)))
  last_ended-cut low (v ∷ []) high (suc (suc i)) between front back = rw front.0 refl
  last_ended-cut low (v ∷ w ∷ vs) high (suc (suc i)) between front back =
      let by : w.valid.first.0 ≤ applied.0 = grind (arith, nat_tests, front.1.0) in
      let less : v.valid.last.0 + 1 ≤ w.valid.first.0 = between.2.0 in
      let same : ended applied v ≡ v = ended_same v (omega arith) in
      let rest : last_ended applied (take (suc i) (w ∷ vs)) ≡ cut_versions applied (w ∷ vs) = last_ended-cut (v.valid.last.0 + 1) (w ∷ vs) high (suc i) between.2 front.1 back in
      rw front.0 (ap (λ ws. v ∷ ws) rest ∙ ap (λ x. x ∷ cut_versions applied (w ∷ vs)) (sym same))

  -- what is left stands between the same ids
  one_cut : (low : ℕ) (v : Version) (ws : List Version) (high : ℕ) (begins : Bool) → nat_le v.valid.first.0 applied.0 ≡ begins → low ≤ v.valid.first.0 → v.valid.first.0 ≤ v.valid.last.0 → v.valid.last.0 + 1 ≤ high → AreBetween (min v.valid.last.0 applied.0 + 1) ws high → AreBetween low (cond begins (ended applied v ∷ ws) []) high
  one_cut low v ws high true begins above ends below rest = (above, (let by : v.valid.first.0 ≤ applied.0 = grind (arith, nat_tests) in omega arith), rest)
  one_cut low v ws high false begins above ends below rest = omega arith

  pub cut_between : (low : ℕ) (vs : List Version) (high : ℕ) → AreBetween low vs high → AreBetween low (cut_versions applied vs) high
  cut_between low [] high between = between
  cut_between low (v ∷ vs) high between =
      one_cut low v (cut_versions applied vs) high (nat_le v.valid.first.0 applied.0) refl between.0 between.1 (between_le (v.valid.last.0 + 1) vs high between.2)
      (between_from (min v.valid.last.0 applied.0 + 1) (v.valid.last.0 + 1) (cut_versions applied vs) high (omega arith) (cut_between (v.valid.last.0 + 1) vs high between.2))

  -- the ids up to it keep what they have
  one_kept : (s : SnapId) (v : Version) (vs ws : List Version) (high : ℕ) (begins : Bool) → nat_le v.valid.first.0 applied.0 ≡ begins → s.0 ≤ applied.0 → v.valid.first.0 ≤ v.valid.last.0 → AreBetween (v.valid.last.0 + 1) vs high → ino_at s ws ≡ ino_at s vs → ino_at s (cond begins (ended applied v ∷ ws) []) ≡ ino_at s (v ∷ vs)
  one_kept s v vs ws high true begins by ends between rest =
      let same : is_valid_at s (ended applied v) ≡ is_valid_at s v = grind (arith, nat_tests) in
      rw same (ap (λ o. cond (is_valid_at s v) (Some v.ino) o) rest)
  one_kept s v vs ws high false begins by ends between rest =
      let out : is_valid_at s v ≡ false = grind (arith, nat_tests) in
      rw out (sym (none_below (v.valid.last.0 + 1) vs high s (let later : applied.0 < v.valid.first.0 = grind (arith, nat_tests) in omega arith) between))

  pub cut_earlier : (s : SnapId) (low : ℕ) (vs : List Version) (high : ℕ) → s.0 ≤ applied.0 → AreBetween low vs high → ino_at s (cut_versions applied vs) ≡ ino_at s vs
  cut_earlier s low [] high by between = refl
  cut_earlier s low (v ∷ vs) high by between = one_kept s v vs (cut_versions applied vs) high (nat_le v.valid.first.0 applied.0) refl by between.1 between.2 (cut_earlier s (v.valid.last.0 + 1) vs high by between.2)

  -- later ones have nothing
  one_gone : (s : SnapId) (v : Version) (ws : List Version) (begins : Bool) → applied.0 < s.0 → ino_at s ws ≡ None → ino_at s (cond begins (ended applied v ∷ ws) []) ≡ None
  one_gone s v ws true later rest =
      let out : is_valid_at s (ended applied v) ≡ false = grind (arith, nat_tests) in
      rw out rest
  one_gone s v ws false later rest = refl

  pub cut_later : (s : SnapId) (vs : List Version) → applied.0 < s.0 → ino_at s (cut_versions applied vs) ≡ None
  cut_later s [] later = refl
  cut_later s (v ∷ vs) later = one_gone s v (cut_versions applied vs) (nat_le v.valid.first.0 applied.0) later (cut_later s vs later)

  -- and nothing changed later than the id
  one_newest : (v : Version) (vs ws : List Version) (begins : Bool) → nat_le v.valid.first.0 applied.0 ≡ begins → newest_of ws ≤ applied.0 → newest_of (cond begins (ended applied v ∷ ws) []) ≤ applied.0
  one_newest v vs ws true begins rest =
      let by : v.valid.first.0 ≤ applied.0 = grind (arith, nat_tests) in
      let last : changed_at (ended applied v) ≤ applied.0 = either v ((min v.valid.last.0 applied.0) == NOSNAP.0) by in
      omega arith
    where
      either : (v : Version) (live : Bool) → v.valid.first.0 ≤ applied.0 → max (v.valid.first.0 - 1) (cond live 0 (min v.valid.last.0 applied.0)) ≤ applied.0
      either v true by = omega arith
      either v false by = omega arith
  one_newest v vs ws false begins rest = omega arith

  pub cut_newest : (vs : List Version) → newest_of (cut_versions applied vs) ≤ applied.0
  cut_newest [] = omega arith
  cut_newest (v ∷ vs) = one_newest v vs (cut_versions applied vs) (nat_le v.valid.first.0 applied.0) refl (cut_newest vs)

  -- versions that changed by an id and aren't live end by it
  ended_by : (v : Version) (live : Bool) → (v.valid.last.0 == NOSNAP.0) ≡ live → max (v.valid.first.0 - 1) (cond live 0 v.valid.last.0) ≤ applied.0 → v.valid.first.0 ≤ NOSNAP.0 → is_valid_at NOSNAP v ≡ false → v.valid.last.0 ≤ applied.0
  ended_by v true is by first none = absurd (let same : v.valid.last.0 ≡ NOSNAP.0 = grind (arith, nat_tests) in let valid : is_valid_at NOSNAP v ≡ true = grind (arith, nat_tests) in cc)
  ended_by v false is by first none = omega arith

  -- the first isn't live, nor is another
  none_live : (v : Version) (vs : List Version) (valid : Bool) → cond valid (Some v.ino) (ino_at NOSNAP vs) ≡ None → (valid ≡ false) × (ino_at NOSNAP vs ≡ None)
  none_live v vs true none = absurd (let no : Some v.ino ≡ None = none in cc)
  none_live v vs false none = (refl, none)

  -- so all of them stand before the next id
  pub between_applied : (low : ℕ) (vs : List Version) → low ≤ applied.0 + 1 → applied.0 < NOSNAP.0 → AreBetween low vs (NOSNAP.0 + 1) → newest_of vs ≤ applied.0 → ino_at NOSNAP vs ≡ None → AreBetween low vs (applied.0 + 1)
  between_applied low [] start below between by none = start
  between_applied low (v ∷ vs) start below between by none =
      let more : v.valid.last.0 + 1 ≤ NOSNAP.0 + 1 = between_le (v.valid.last.0 + 1) vs (NOSNAP.0 + 1) between.2 in
      let out = none_live v vs (is_valid_at NOSNAP v) none in
      let first : changed_at v ≤ applied.0 = omega (arith, by) in
      let rest : newest_of vs ≤ applied.0 = omega (arith, by) in
      let ends : v.valid.last.0 ≤ applied.0 = ended_by v (v.valid.last.0 == NOSNAP.0) refl first (omega (arith, between.1)) out.0 in
      (between.0, between.1, between_applied (v.valid.last.0 + 1) vs (omega arith) below between.2 rest out.1)

-- one more version behind others
pub between_more : (low : ℕ) (vs : List Version) (mid : ℕ) (v : Version) (high : ℕ) → AreBetween low vs mid → mid ≤ v.valid.first.0 → v.valid.first.0 ≤ v.valid.last.0 → v.valid.last.0 + 1 ≤ high → AreBetween low (vs ++ v ∷ []) high
between_more low [] mid v high between above ends below = (omega arith, ends, below)
between_more low (w ∷ vs) mid v high between above ends below = (between.0, between.1, between_more (w.valid.last.0 + 1) vs mid v high between.2 above ends below)

pub newest_more : (vs : List Version) (v : Version) → newest_of (vs ++ v ∷ []) ≡ max (newest_of vs) (changed_at v)
newest_more [] v = omega arith
newest_more (w ∷ vs) v = let rest : newest_of (vs ++ v ∷ []) ≡ max (newest_of vs) (changed_at v) = newest_more vs v in omega arith

-- without some versions
module _ (p : Version → Bool) where
  one_filtered : (low : ℕ) (v : Version) (vs : List Version) (high : ℕ) (kept : Bool) → low ≤ v.valid.first.0 → v.valid.first.0 ≤ v.valid.last.0 → AreBetween (v.valid.last.0 + 1) (filter p vs) high → AreBetween low (cond kept (v ∷ filter p vs) (filter p vs)) high
  one_filtered low v vs high true above ends rest = (above, ends, rest)
  one_filtered low v vs high false above ends rest = between_from low (v.valid.last.0 + 1) (filter p vs) high (omega arith) rest

  pub filter_between : (low : ℕ) (vs : List Version) (high : ℕ) → AreBetween low vs high → AreBetween low (filter p vs) high
  filter_between low [] high between = between
  filter_between low (v ∷ vs) high between = one_filtered low v vs high (p v) between.0 between.1 (filter_between (v.valid.last.0 + 1) vs high between.2)

  one_no_newer : (v : Version) (vs ws : List Version) (kept : Bool) → newest_of ws ≤ newest_of vs → newest_of (cond kept (v ∷ ws) ws) ≤ newest_of (v ∷ vs)
  one_no_newer v vs ws true rest = omega arith
  one_no_newer v vs ws false rest = omega arith

  pub filter_newest : (vs : List Version) → newest_of (filter p vs) ≤ newest_of vs
  filter_newest [] = omega arith
  filter_newest (v ∷ vs) = one_no_newer v vs (filter p vs) (p v) (filter_newest vs)

  -- where all that are valid at an id stay, it has what it had
  one_same : (s : SnapId) (v : Version) (vs ws : List Version) (kept valid : Bool) → is_valid_at s v ≡ valid → (valid ≡ true → kept ≡ true) → ino_at s ws ≡ ino_at s vs → ino_at s (cond kept (v ∷ ws) ws) ≡ cond valid (Some v.ino) (ino_at s vs)
  one_same s v vs ws true valid is stays rest = rw is (ap (λ o. cond valid (Some v.ino) o) rest)
  one_same s v vs ws false true is stays rest = absurd (let no : false ≡ true = stays refl in cc)
  one_same s v vs ws false false is stays rest = rest

  pub filter_same_at : (s : SnapId) (vs : List Version) → AllByRecursion (λ v. is_valid_at s v ≡ true → p v ≡ true) vs → ino_at s (filter p vs) ≡ ino_at s vs
  filter_same_at s [] stays = refl
  filter_same_at s (v ∷ vs) stays = one_same s v vs (filter p vs) (p v) (is_valid_at s v) refl stays.0 (filter_same_at s vs stays.1)

-- the last version, written over
pub last_set : (applied : SnapId) (vs : List Version) (v : Version) (i : ℕ) → length vs ≡ suc i → v ≡ get_or vs i v → set vs i (ended applied v) ≡ last_ended applied vs
last_set applied [] v i some is = absurd (omega arith)
last_set applied (w ∷ []) v zero some is = ap (λ x. ended applied x ∷ []) is
last_set applied (w ∷ []) v (suc i) some is = absurd (omega arith)
last_set applied (w ∷ x ∷ vs) v zero some is = absurd (omega arith)
last_set applied (w ∷ x ∷ vs) v (suc i) some is = ap (λ ws. w ∷ ws) (last_set applied (x ∷ vs) v i (omega arith) is)

pub length-last_ended : (applied : SnapId) (vs : List Version) → length (last_ended applied vs) ≡ length vs
length-last_ended applied [] = refl
length-last_ended applied (v ∷ []) = refl
length-last_ended applied (v ∷ w ∷ vs) = ap suc (length-last_ended applied (w ∷ vs))

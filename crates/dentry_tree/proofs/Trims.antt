-- What a trim leaves.
use Rattle.std.proofs.Common.{◌≡◌, ℕ, ◌+◌, ◌-◌, ◌<◌, ◌≤◌, Bool, true, false, not, ◌||◌, ◌&&◌, ◌==◌, cond, max, nat_le, List, [], ◌∷◌, length, None, refl, sym, ◌∙◌, ap, arith}
use Rattle.std.specs.List.{AllByRecursion, filter, list_any, cons_option, count_by}
use Rattle.std.specs.Option.{option_map}
use Rattle.std.proofs.lemmas.List.Sums.{sum_by-cons}
use Rattle.std.proofs.lemmas.Bool.{eqb-true}
use Rattle.std.proofs.lemmas.Bool.Decides.{nat_tests}
use Rattle.snap_ids.specs.Context.{is_listed}
use Rattle.snap_ids.specs.declared.id.SnapId.{SnapId}
use Rattle.snap_ids.specs.declared.id.TheConstants.{NOSNAP}
use Rattle.dentry_tree.specs.declared.version.Version.{Version}
use Rattle.dentry_tree.specs.Dentries.{Dentry, entry_of, is_valid_at, ino_at, entry_at, entries_in, AreBetween, AreVersions, changed_at, newest_of, newest_in, IsBefore, IsInOrder, AreDentries, total}
use Rattle.dentry_tree.specs.Places.{has_versions, is_needed, trimmed, trimmed_all, unneeded, count_unneeded}
use Rattle.dentry_tree.proofs.Held.{between_le}
use Rattle.dentry_tree.proofs.Cuts.{filter_between, filter_newest, filter_same_at}
use Rattle.dentry_tree.proofs.Entries.{entries_in-cons}
use Rattle.dentry_tree.proofs.Splits.{newest_in-cons}

module _ (live : List SnapId) where
  -- a dentry that has versions left, or hasn't
  one_entry : (s : SnapId) (d : Dentry) (es : List Dentry) (some : Bool) → has_versions (trimmed live d) ≡ some → ino_at s (filter (is_needed live) d.versions) ≡ ino_at s d.versions → entries_in s (cond some (trimmed live d ∷ es) es) ≡ cons_option (entry_at s d) (entries_in s es)
  one_entry s d es true is same = entries_in-cons s (trimmed live d) es ∙ ap (λ o. cons_option (option_map (entry_of d) o) (entries_in s es)) same
  one_entry s d es false is same = ap (λ o. cons_option (option_map (entry_of d) o) (entries_in s es)) (sym (none (filter (is_needed live) d.versions) (not_true (length (filter (is_needed live) d.versions) == 0) is)) ∙ same)
    where
      not_true : (b : Bool) → not b ≡ false → b ≡ true
      not_true true h = refl
      not_true false h = cc

      none : (vs : List Version) → (length vs == 0) ≡ true → ino_at s vs ≡ None
      none [] h = refl
      none (v ∷ vs) h = absurd (let no : length (v ∷ vs) ≡ 0 = eqb-true (length (v ∷ vs)) 0 h in omega arith)

  -- an id keeps its entries where all versions that are valid there stay
  pub trim_same : (s : SnapId) (ds : List Dentry) → AllByRecursion (λ d. AllByRecursion (λ v. is_valid_at s v ≡ true → is_needed live v ≡ true) d.versions) ds → entries_in s (trimmed_all live ds) ≡ entries_in s ds
  trim_same s [] stays = refl
  trim_same s (d ∷ ds) stays =
      one_entry s d (trimmed_all live ds) (has_versions (trimmed live d)) refl (filter_same_at (is_needed live) s d.versions stays.0)
      ∙ ap (cons_option (entry_at s d)) (trim_same s ds stays.1)
      ∙ sym (entries_in-cons s d ds)

  -- all of some versions
  all_versions : (P : Version → Type 0) → ((v : Version) → P v) → (vs : List Version) → AllByRecursion P vs
  all_versions P each [] = tt
  all_versions P each (v ∷ vs) = (each v, all_versions P each vs)

  all_dentries : (P : Version → Type 0) → ((v : Version) → P v) → (ds : List Dentry) → AllByRecursion (λ (d : Dentry). AllByRecursion P d.versions) ds
  all_dentries P each [] = tt
  all_dentries P each (d ∷ ds) = (all_versions P each d.versions, all_dentries P each ds)

  or_true : (b : Bool) → (b || true) ≡ true
  or_true true = refl
  or_true false = refl

  -- a listed id needs what is valid there
  one_listed : (s : SnapId) (v : Version) (id : SnapId) (ids : List SnapId) (same : Bool) → (id.0 == s.0) ≡ same → (same || is_listed s ids) ≡ true → is_valid_at s v ≡ true → (is_listed s ids ≡ true → list_any (λ i. is_valid_at i v) ids ≡ true) → (is_valid_at id v || list_any (λ i. is_valid_at i v) ids) ≡ true
  one_listed s v id ids true is listed valid rest = ap (λ b. b || list_any (λ i. is_valid_at i v) ids) (ap (λ n. nat_le v.valid.first.0 n && nat_le n v.valid.last.0) (eqb-true id.0 s.0 is) ∙ valid)
  one_listed s v id ids false is listed valid rest = ap (λ b. is_valid_at id v || b) (rest listed) ∙ or_true (is_valid_at id v)

  listed_any : (s : SnapId) (v : Version) (ids : List SnapId) → is_listed s ids ≡ true → is_valid_at s v ≡ true → list_any (λ i. is_valid_at i v) ids ≡ true
  listed_any s v [] listed valid = cc
  listed_any s v (id ∷ ids) listed valid = one_listed s v id ids (id.0 == s.0) refl listed valid (λ more. listed_any s v ids more valid)

  listed_needed : (s : SnapId) → is_listed s live ≡ true → (v : Version) → is_valid_at s v ≡ true → is_needed live v ≡ true
  listed_needed s listed v valid = ap (λ b. (v.valid.last.0 == NOSNAP.0) || b) (listed_any s v live listed valid) ∙ or_true (v.valid.last.0 == NOSNAP.0)

  pub trim_live : (s : SnapId) (ds : List Dentry) → is_listed s live ≡ true → entries_in s (trimmed_all live ds) ≡ entries_in s ds
  trim_live s ds listed = trim_same s ds (all_dentries (λ v. is_valid_at s v ≡ true → is_needed live v ≡ true) (listed_needed s listed) ds)

  -- what begins or ends by no later id than this, and is valid later, is live
  last_below : (s : SnapId) (v : Version) (live_too : Bool) → max (v.valid.first.0 - 1) (cond live_too 0 v.valid.last.0) < s.0 → live_too ≡ false → v.valid.last.0 < s.0
  last_below s v true changed is = cc
  last_below s v false changed is = omega arith

  live_needed : (s : SnapId) (v : Version) → changed_at v < s.0 → is_valid_at s v ≡ true → (live_too : Bool) → (v.valid.last.0 == NOSNAP.0) ≡ live_too → is_needed live v ≡ true
  live_needed s v changed valid true is = ap (λ b. b || list_any (λ i. is_valid_at i v) live) is
  live_needed s v changed valid false is = absurd (let last : v.valid.last.0 < s.0 = last_below s v (v.valid.last.0 == NOSNAP.0) changed is in let no : s.0 ≤ v.valid.last.0 = grind (arith, nat_tests) in omega arith)

  later_versions : (s : SnapId) (vs : List Version) → newest_of vs < s.0 → AllByRecursion (λ v. is_valid_at s v ≡ true → is_needed live v ≡ true) vs
  later_versions s [] most = tt
  later_versions s (v ∷ vs) most = ((λ valid. live_needed s v (omega (arith, most)) valid (v.valid.last.0 == NOSNAP.0) refl), later_versions s vs (omega (arith, most)))

  later_dentries : (s : SnapId) (ds : List Dentry) → newest_in ds < s.0 → AllByRecursion (λ (d : Dentry). AllByRecursion (λ v. is_valid_at s v ≡ true → is_needed live v ≡ true) d.versions) ds
  later_dentries s [] most = tt
  later_dentries s (d ∷ ds) most = (later_versions s d.versions (omega (arith, most, newest_in-cons d ds)), later_dentries s ds (omega (arith, most, newest_in-cons d ds)))

  pub trim_later : (s : SnapId) (ds : List Dentry) → newest_in ds < s.0 → entries_in s (trimmed_all live ds) ≡ entries_in s ds
  trim_later s ds most = trim_same s ds (later_dentries s ds most)

  -- what is live stays
  up_to_last : (v : Version) → v.valid.last.0 ≤ NOSNAP.0 → is_valid_at NOSNAP v ≡ true → is_needed live v ≡ true
  up_to_last v upto valid =
      let last : (v.valid.last.0 == NOSNAP.0) ≡ true = grind (arith, nat_tests) in
      ap (λ b. b || list_any (λ i. is_valid_at i v) live) last

  nosnap_versions : (low : ℕ) (vs : List Version) → AreBetween low vs (NOSNAP.0 + 1) → AllByRecursion (λ v. is_valid_at NOSNAP v ≡ true → is_needed live v ≡ true) vs
  nosnap_versions low [] between = tt
  nosnap_versions low (v ∷ vs) between =
      let more : v.valid.last.0 + 1 ≤ NOSNAP.0 + 1 = between_le (v.valid.last.0 + 1) vs (NOSNAP.0 + 1) between.2 in
      (up_to_last v (omega arith), nosnap_versions (v.valid.last.0 + 1) vs between.2)

  nosnap_dentries : (ds : List Dentry) → AllByRecursion AreVersions ds → AllByRecursion (λ (d : Dentry). AllByRecursion (λ v. is_valid_at NOSNAP v ≡ true → is_needed live v ≡ true) d.versions) ds
  nosnap_dentries [] all = tt
  nosnap_dentries (d ∷ ds) all = (nosnap_versions 0 d.versions all.0, nosnap_dentries ds all.1)

  pub trim_nosnap : (ds : List Dentry) → AreDentries ds → entries_in NOSNAP (trimmed_all live ds) ≡ entries_in NOSNAP ds
  trim_nosnap ds are = trim_same NOSNAP ds (nosnap_dentries ds are.versions)

  -- the dentries are in order
  one_before : (a d : Dentry) (es : List Dentry) (some : Bool) → IsBefore a d → AllByRecursion (IsBefore a) es → AllByRecursion (IsBefore a) (cond some (trimmed live d ∷ es) es)
  one_before a d es true before all = (before, all)
  one_before a d es false before all = all

  all_before : (a : Dentry) (ds : List Dentry) → AllByRecursion (IsBefore a) ds → AllByRecursion (IsBefore a) (trimmed_all live ds)
  all_before a [] all = tt
  all_before a (d ∷ ds) all = one_before a d (trimmed_all live ds) (has_versions (trimmed live d)) all.0 (all_before a ds all.1)

  one_in_order : (d : Dentry) (es : List Dentry) (some : Bool) → AllByRecursion (IsBefore d) es → IsInOrder es → IsInOrder (cond some (trimmed live d ∷ es) es)
  one_in_order d es true before order = (before, order)
  one_in_order d es false before order = order

  trim_in_order : (ds : List Dentry) → IsInOrder ds → IsInOrder (trimmed_all live ds)
  trim_in_order [] order = tt
  trim_in_order (d ∷ ds) order = one_in_order d (trimmed_all live ds) (has_versions (trimmed live d)) (all_before d ds order.0) (trim_in_order ds order.1)

  one_versions : (d : Dentry) (es : List Dentry) (some : Bool) → AreVersions d → AllByRecursion AreVersions es → AllByRecursion AreVersions (cond some (trimmed live d ∷ es) es)
  one_versions d es true here all = (filter_between (is_needed live) 0 d.versions (NOSNAP.0 + 1) here, all)
  one_versions d es false here all = all

  trim_versions : (ds : List Dentry) → AllByRecursion AreVersions ds → AllByRecursion AreVersions (trimmed_all live ds)
  trim_versions [] all = tt
  trim_versions (d ∷ ds) all = one_versions d (trimmed_all live ds) (has_versions (trimmed live d)) all.0 (trim_versions ds all.1)

  pub trim_dentries : (ds : List Dentry) → AreDentries ds → AreDentries (trimmed_all live ds)
  trim_dentries ds are = record { in_order = trim_in_order ds are.in_order; versions = trim_versions ds are.versions }

  -- nothing is newer
  one_newest : (d : Dentry) (es ds : List Dentry) (some : Bool) → newest_in es ≤ newest_in ds → newest_in (cond some (trimmed live d ∷ es) es) ≤ newest_in (d ∷ ds)
  one_newest d es ds true rest =
      let here : newest_of (filter (is_needed live) d.versions) ≤ newest_of d.versions = filter_newest (is_needed live) d.versions in
      omega (arith, newest_in-cons (trimmed live d) es, newest_in-cons d ds)
  one_newest d es ds false rest = omega (arith, newest_in-cons d ds)

  pub trim_newest : (ds : List Dentry) → newest_in (trimmed_all live ds) ≤ newest_in ds
  trim_newest [] = omega arith
  trim_newest (d ∷ ds) = one_newest d (trimmed_all live ds) ds (has_versions (trimmed live d)) (trim_newest ds)

  -- how many go
  one_count : (v : Version) (vs : List Version) (kept : Bool) → length (filter (is_needed live) vs) + count_by (λ v. not (is_needed live v)) vs ≡ length vs → length (cond kept (v ∷ filter (is_needed live) vs) (filter (is_needed live) vs)) + (cond (not kept) 1 0 + count_by (λ v. not (is_needed live v)) vs) ≡ length (v ∷ vs)
  one_count v vs true rest = omega arith
  one_count v vs false rest = omega arith

  count_dropped : (vs : List Version) → length (filter (is_needed live) vs) + count_by (λ v. not (is_needed live v)) vs ≡ length vs
  count_dropped [] = refl
  count_dropped (v ∷ vs) =
      ap (λ n. length (cond (is_needed live v) (v ∷ filter (is_needed live) vs) (filter (is_needed live) vs)) + n) (sum_by-cons (λ (w : Version). cond (not (is_needed live w)) 1 0) v vs)
      ∙ one_count v vs (is_needed live v) (count_dropped vs)

  pub count_unneeded_nil : count_unneeded live [] ≡ 0
  unfolding count_unneeded
  count_unneeded_nil = refl

  pub count_unneeded_cons : (d : Dentry) (ds : List Dentry) → count_unneeded live (d ∷ ds) ≡ unneeded live d + count_unneeded live ds
  unfolding count_unneeded
  count_unneeded_cons d ds = sum_by-cons (unneeded live) d ds

  total-cons : (d : Dentry) (ds : List Dentry) → total (d ∷ ds) ≡ length d.versions + total ds
  total-cons d ds = sum_by-cons (λ (e : Dentry). length e.versions) d ds

  not_true : (b : Bool) → not b ≡ false → b ≡ true
  not_true true h = refl
  not_true false h = cc

  one_total : (d : Dentry) (es ds : List Dentry) (some : Bool) → has_versions (trimmed live d) ≡ some → total es + count_unneeded live ds ≡ total ds → total (cond some (trimmed live d ∷ es) es) + count_unneeded live (d ∷ ds) ≡ total (d ∷ ds)
  one_total d es ds true is rest =
      let here : length (filter (is_needed live) d.versions) + unneeded live d ≡ length d.versions = count_dropped d.versions in
      omega (arith, total-cons (trimmed live d) es, total-cons d ds, count_unneeded_cons d ds)
  one_total d es ds false is rest =
      let here : length (filter (is_needed live) d.versions) + unneeded live d ≡ length d.versions = count_dropped d.versions in
      let none : length (filter (is_needed live) d.versions) ≡ 0 = eqb-true (length (filter (is_needed live) d.versions)) 0 (not_true (length (filter (is_needed live) d.versions) == 0) is) in
      omega (arith, total-cons d ds, count_unneeded_cons d ds)

  pub trim_total : (ds : List Dentry) → total (trimmed_all live ds) + count_unneeded live ds ≡ total ds
  trim_total [] = omega (arith, count_unneeded_nil)
  trim_total (d ∷ ds) = one_total d (trimmed_all live ds) ds (has_versions (trimmed live d)) refl (trim_total ds)

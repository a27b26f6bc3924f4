-- What an inode is at an id after a change, a settled size and a trim.
use Rattle.std.proofs.Common.{zero, suc, take, drop, ◌≡◌, ℕ, ◌+◌, ◌<◌, ◌≤◌, Bool, true, false, not, ◌==◌, ◌&&◌, ◌||◌, cond, nat_lt, nat_le, min, max, List, [], ◌∷◌, ◌++◌, length, Option, None, Some, refl, ap, ◌∙◌, sym, arith}
use Rattle.std.specs.List.{filter, flat_map, list_any, AllByRecursion}
use Rattle.std.specs.Option.{option_or, option_map}
use Rattle.std.proofs.lemmas.Bool.{eqb-true}
use Rattle.std.proofs.lemmas.List.Filters.{length-filter_both}
use Rattle.std.proofs.lemmas.List.Sums.{length-filter}
use Rattle.std.proofs.lemmas.Bool.Decides.{nat_tests}
use Rattle.snap_ids.specs.declared.id.SnapId.{SnapId}
use Rattle.snap_ids.specs.Context.{is_listed}
use Rattle.snap_ids.specs.declared.id.TheConstants.{NOSNAP}
use Rattle.inode_versions.specs.declared.attr.Attr.{Attr}
use Rattle.inode_versions.specs.declared.attr.Version.{Version}
use Rattle.inode_versions.specs.Histories.{History, IsHistory, AreBetween, is_valid_at, earlier_at, at_id, is_needed, is_kept_at, settled_at, since_settled, with_size}
use Rattle.inode_versions.specs.Parts.{part, parts, settled_parts, changed, trimmed, settled, head_parts, head_before, head_settled, unneeded}
use Rattle.inode_versions.proofs.Order.{between-filter, between_le, head_parts_between}
use Rattle.inode_versions.proofs.Found.{none_below, none_above, earlier_at-append}

-- what holds of the ids between two, or nothing
abbrev pub between : ℕ → ℕ → Attr → SnapId → Option Attr
between first last attr s = cond (nat_le first s.0 && nat_le s.0 last) (Some attr) None

-- a part says what it has
one_part_at : (first last : ℕ) (attr : Attr) (s : SnapId) (some : Bool) → nat_le first last ≡ some → earlier_at (cond some (record { valid = record { first = record { 0 = first }; last = record { 0 = last } }; attr = attr } ∷ []) []) s ≡ between first last attr s
one_part_at first last attr s true is = refl
one_part_at first last attr s false is =
    let out : (nat_le first s.0 && nat_le s.0 last) ≡ false = grind (arith, nat_tests) in
    rw out refl

pub part_at : (first last : ℕ) (attr : Attr) (s : SnapId) → earlier_at (part first last attr) s ≡ between first last attr s
part_at first last attr s = one_part_at first last attr s (nat_le first last) refl

module _ (follows : SnapId) (attr : Attr) (below : follows.0 < NOSNAP.0) (history : History) (s : SnapId) (upto_nosnap : s.0 ≤ NOSNAP.0) (is : IsHistory history) where
  -- at an id of the head's: it stays up to `follows`
  changed_head : (above : Bool) → nat_lt follows.0 s.0 ≡ above → nat_le history.since.0 s.0 ≡ true → at_id (changed follows attr history) s ≡ cond above (Some attr) (at_id history s)
  changed_head true is_above begun =
      let later : nat_le (max history.since.0 (follows.0 + 1)) s.0 ≡ true = grind (arith, nat_tests) in
      let live : nat_le s.0 NOSNAP.0 ≡ true = grind (arith, nat_tests) in
      rw (later, live) refl
  changed_head false is_above begun =
      let later : nat_le (max history.since.0 (follows.0 + 1)) s.0 ≡ false = grind (arith, nat_tests) in
      let live : nat_le s.0 NOSNAP.0 ≡ true = grind (arith, nat_tests) in
      let last : nat_le s.0 follows.0 ≡ true = grind (arith, nat_tests) in
      let since_le : history.since.0 ≤ s.0 = grind (arith, nat_tests) in
      rw (later, begun, live)
      (earlier_at-append history.earlier (head_before follows history) s
      ∙ ap (λ o. option_or o (earlier_at (head_before follows history) s)) (none_above 0 history.earlier history.since.0 s since_le is.earlier)
      ∙ part_at history.since.0 follows.0 history.head s
      ∙ rw (begun, last) refl)

  -- at an earlier id
  changed_earlier : nat_le history.since.0 s.0 ≡ false → at_id (changed follows attr history) s ≡ at_id history s
  changed_earlier before =
      let later : nat_le (max history.since.0 (follows.0 + 1)) s.0 ≡ false = grind (arith, nat_tests) in
      rw (later, before)
      (earlier_at-append history.earlier (head_before follows history) s
      ∙ ap (option_or (earlier_at history.earlier s)) (part_at history.since.0 follows.0 history.head s ∙ rw before refl)
      ∙ option_or_none (earlier_at history.earlier s))
    where
      option_or_none : (o : Option Attr) → option_or o None ≡ o
      option_or_none None = refl
      option_or_none (Some a) = refl

  pub changed_at : at_id (changed follows attr history) s ≡ cond (nat_lt follows.0 s.0 && nat_le history.since.0 s.0) (Some attr) (at_id history s)
  changed_at = either (nat_lt follows.0 s.0) (nat_le history.since.0 s.0) refl refl
    where
      either : (above begun : Bool) → nat_lt follows.0 s.0 ≡ above → nat_le history.since.0 s.0 ≡ begun → at_id (changed follows attr history) s ≡ cond (above && begun) (Some attr) (at_id history s)
      either true true is_above is_begun = changed_head true is_above is_begun
      either false true is_above is_begun = changed_head false is_above is_begun
      either true false is_above is_begun = changed_earlier is_begun
      either false false is_above is_begun = changed_earlier is_begun

or_none : (o : Option Attr) → option_or o None ≡ o
or_none None = refl
or_none (Some a) = refl

-- an attribute that has the size
same_size : (size : ℕ) (attr : Attr) → (attr.size == size) ≡ true → with_size size attr ≡ attr
same_size size attr same = ap (λ n. let a : Attr = record { kind = attr.kind; mode = attr.mode; size = n } in a) (sym (eqb-true attr.size size same))

stays : (size : ℕ) (attr : Attr) (b : Bool) → (attr.size == size) ≡ true → cond b (with_size size attr) attr ≡ attr
stays size attr true same = same_size size attr same
stays size attr false same = refl

module _ (follows upto : SnapId) (size : ℕ) (less : follows.0 < upto.0) (s : SnapId) where
  -- before, among and behind the ids that get the size
  three : (first last : ℕ) (attr : Attr) (above inside : Bool) → nat_lt follows.0 s.0 ≡ above → nat_le s.0 upto.0 ≡ inside → option_or (between first (min last follows.0) attr s) (option_or (between (max first (follows.0 + 1)) (min last upto.0) (with_size size attr) s) (between (max first (upto.0 + 1)) last attr s)) ≡ cond (nat_le first s.0 && nat_le s.0 last) (Some (cond (above && inside) (with_size size attr) attr)) None
  three first last attr false inside is_above is_inside =
      let one : (nat_le first s.0 && nat_le s.0 (min last follows.0)) ≡ (nat_le first s.0 && nat_le s.0 last) = grind (arith, nat_tests) in
      let two : (nat_le (max first (follows.0 + 1)) s.0 && nat_le s.0 (min last upto.0)) ≡ false = grind (arith, nat_tests) in
      let three : (nat_le (max first (upto.0 + 1)) s.0 && nat_le s.0 last) ≡ false = grind (arith, nat_tests) in
      rw (one, two, three) (or_none (between first last attr s))
  three first last attr true true is_above is_inside =
      let one : (nat_le first s.0 && nat_le s.0 (min last follows.0)) ≡ false = grind (arith, nat_tests) in
      let two : (nat_le (max first (follows.0 + 1)) s.0 && nat_le s.0 (min last upto.0)) ≡ (nat_le first s.0 && nat_le s.0 last) = grind (arith, nat_tests) in
      let three : (nat_le (max first (upto.0 + 1)) s.0 && nat_le s.0 last) ≡ false = grind (arith, nat_tests) in
      rw (one, two, three) (or_none (between first last (with_size size attr) s))
  three first last attr true false is_above is_inside =
      let one : (nat_le first s.0 && nat_le s.0 (min last follows.0)) ≡ false = grind (arith, nat_tests) in
      let two : (nat_le (max first (follows.0 + 1)) s.0 && nat_le s.0 (min last upto.0)) ≡ false = grind (arith, nat_tests) in
      let three : (nat_le (max first (upto.0 + 1)) s.0 && nat_le s.0 last) ≡ (nat_le first s.0 && nat_le s.0 last) = grind (arith, nat_tests) in
      rw (one, two, three) refl

  -- a version in its pieces
  parts_at : (v : Version) → earlier_at (parts follows upto size v) s ≡ cond (is_valid_at s v) (Some (settled_at follows upto size s v.attr)) None
  parts_at v =
      let first = v.valid.first.0 in
      let last = v.valid.last.0 in
      let one = part first (min last follows.0) v.attr in
      let two = part (max first (follows.0 + 1)) (min last upto.0) (with_size size v.attr) in
      let more = part (max first (upto.0 + 1)) last v.attr in
      earlier_at-append one (two ++ more) s
      ∙ ap (λ o. option_or o (earlier_at (two ++ more) s)) (part_at first (min last follows.0) v.attr s)
      ∙ ap (option_or (between first (min last follows.0) v.attr s))
      (earlier_at-append two more s
      ∙ ap (λ o. option_or o (earlier_at more s)) (part_at (max first (follows.0 + 1)) (min last upto.0) (with_size size v.attr) s)
      ∙ ap (option_or (between (max first (follows.0 + 1)) (min last upto.0) (with_size size v.attr) s)) (part_at (max first (upto.0 + 1)) last v.attr s))
      ∙ three first last v.attr (nat_lt follows.0 s.0) (nat_le s.0 upto.0) refl refl

  one_piece_at : (v : Version) (same : Bool) → (v.attr.size == size) ≡ same → earlier_at (cond same (v ∷ []) (parts follows upto size v)) s ≡ cond (is_valid_at s v) (Some (settled_at follows upto size s v.attr)) None
  one_piece_at v true is = ap (λ a. cond (is_valid_at s v) (Some a) None) (sym (stays size v.attr (nat_lt follows.0 s.0 && nat_le s.0 upto.0) is))
  one_piece_at v false is = parts_at v

  piece_first : (v : Version) (valid : Bool) (rest : Option Attr) → option_or (cond valid (Some (settled_at follows upto size s v.attr)) None) (option_map (settled_at follows upto size s) rest) ≡ option_map (settled_at follows upto size s) (cond valid (Some v.attr) rest)
  piece_first v true rest = refl
  piece_first v false rest = refl

  -- all of an inode's earlier versions in their pieces
  pub pieces_at : (vs : List Version) → earlier_at (flat_map (settled_parts follows upto size) vs) s ≡ option_map (settled_at follows upto size s) (earlier_at vs s)
  pieces_at [] = refl
  pieces_at (v ∷ vs) =
      earlier_at-append (settled_parts follows upto size v) (flat_map (settled_parts follows upto size) vs) s
      ∙ ap (λ o. option_or o (earlier_at (flat_map (settled_parts follows upto size) vs) s)) (one_piece_at v (v.attr.size == size) refl)
      ∙ ap (option_or (cond (is_valid_at s v) (Some (settled_at follows upto size s v.attr)) None)) (pieces_at vs)
      ∙ piece_first v (is_valid_at s v) (earlier_at vs s)

  module _ (history : History) (upto_nosnap : s.0 ≤ NOSNAP.0) (is : IsHistory history) where
    abbrev since : ℕ
    since = history.since.0

    abbrev mid : ℕ
    mid = max since (follows.0 + 1)

    -- before the head
    settled_earlier : nat_le since s.0 ≡ false → at_id (settled follows upto size history) s ≡ option_map (settled_at follows upto size s) (at_id history s)
    settled_earlier before =
        let first = (since_settled follows upto size history.head history.since).0 in
        let pieces = flat_map (settled_parts follows upto size) history.earlier in
        let ends : AreBetween since (head_parts follows upto size history) first = head_parts_between follows upto size less history in
        let on : since ≤ first = between_le since (head_parts follows upto size history) first ends in
        let below_since : s.0 < since = grind (arith, nat_tests) in
        let later : nat_le first s.0 ≡ false = grind (arith, nat_tests) in
        rw (later, before)
        (earlier_at-append pieces (head_parts follows upto size history) s
        ∙ ap (option_or (earlier_at pieces s)) (none_below since (head_parts follows upto size history) first s below_since ends)
        ∙ or_none (earlier_at pieces s)
        ∙ pieces_at history.earlier)

    -- where the head is the head above `upto`
    further_at : (above inside : Bool) → nat_lt follows.0 s.0 ≡ above → nat_le s.0 upto.0 ≡ inside → nat_le since s.0 ≡ true → cond (nat_le (upto.0 + 1) s.0) (Some history.head) (earlier_at (head_before follows history ++ part mid upto.0 (with_size size history.head)) s) ≡ Some (cond (above && inside) (with_size size history.head) history.head)
    further_at above false is_above is_inside begun =
        let gone : nat_le (upto.0 + 1) s.0 ≡ true = grind (arith, nat_tests) in
        rw gone (ap Some (not_both above))
      where
        not_both : (b : Bool) → history.head ≡ cond (b && false) (with_size size history.head) history.head
        not_both true = refl
        not_both false = refl
    further_at true true is_above is_inside begun =
        let gone : nat_le (upto.0 + 1) s.0 ≡ false = grind (arith, nat_tests) in
        let one : (nat_le since s.0 && nat_le s.0 follows.0) ≡ false = grind (arith, nat_tests) in
        let two : (nat_le mid s.0 && nat_le s.0 upto.0) ≡ true = grind (arith, nat_tests) in
        let more = part mid upto.0 (with_size size history.head) in
        let none : earlier_at (head_before follows history) s ≡ None = part_at since follows.0 history.head s ∙ rw one refl in
        let said : earlier_at more s ≡ Some (with_size size history.head) = part_at mid upto.0 (with_size size history.head) s ∙ rw two refl in
        rw gone
        (earlier_at-append (head_before follows history) more s ∙ ap (λ o. option_or o (earlier_at more s)) none ∙ said)
    further_at false true is_above is_inside begun =
        let gone : nat_le (upto.0 + 1) s.0 ≡ false = grind (arith, nat_tests) in
        let one : (nat_le since s.0 && nat_le s.0 follows.0) ≡ true = grind (arith, nat_tests) in
        let more = part mid upto.0 (with_size size history.head) in
        let said : earlier_at (head_before follows history) s ≡ Some history.head = part_at since follows.0 history.head s ∙ rw one refl in
        rw gone
        (earlier_at-append (head_before follows history) more s ∙ ap (λ o. option_or o (earlier_at more s)) said)

    -- where the head gets the size
    to_nosnap_at : (above : Bool) → nat_lt follows.0 s.0 ≡ above → nat_lt upto.0 NOSNAP.0 ≡ false → nat_le since s.0 ≡ true → cond (nat_le mid s.0) (Some (with_size size history.head)) (earlier_at (head_before follows history ++ []) s) ≡ Some (cond (above && nat_le s.0 upto.0) (with_size size history.head) history.head)
    to_nosnap_at true is_above is_last begun =
        let on : nat_le mid s.0 ≡ true = grind (arith, nat_tests) in
        let inside : nat_le s.0 upto.0 ≡ true = grind (arith, nat_tests) in
        rw (on, inside) refl
    to_nosnap_at false is_above is_last begun =
        let on : nat_le mid s.0 ≡ false = grind (arith, nat_tests) in
        let one : (nat_le since s.0 && nat_le s.0 follows.0) ≡ true = grind (arith, nat_tests) in
        rw on
        (earlier_at-append (head_before follows history) [] s
        ∙ or_none (earlier_at (head_before follows history) s)
        ∙ part_at since follows.0 history.head s ∙ rw one refl)

    -- at an id of the head's
    head_at : (same none out further : Bool) → (history.head.size == size) ≡ same → nat_le upto.0 follows.0 ≡ none → nat_lt upto.0 since ≡ out → nat_lt upto.0 NOSNAP.0 ≡ further → nat_le since s.0 ≡ true → cond (nat_le (cond (same || (none || out)) history.since (cond further (record { 0 = upto.0 + 1 }) (record { 0 = mid }))).0 s.0) (Some (cond further history.head (with_size size history.head))) (earlier_at (cond (same || out) [] (head_before follows history ++ cond further (part mid upto.0 (with_size size history.head)) [])) s) ≡ Some (settled_at follows upto size s history.head)
    head_at true none out further is_same is_none is_out is_further begun =
        rw begun (ap Some (the_same further ∙ sym (stays size history.head (nat_lt follows.0 s.0 && nat_le s.0 upto.0) is_same)))
      where
        the_same : (b : Bool) → cond b history.head (with_size size history.head) ≡ history.head
        the_same true = refl
        the_same false = same_size size history.head is_same
    head_at false true out further is_same is_none is_out is_further begun = absurd (let no : upto.0 ≤ follows.0 = grind (arith, nat_tests) in omega arith)
    head_at false false true true is_same is_none is_out is_further begun =
        let beyond : (nat_lt follows.0 s.0 && nat_le s.0 upto.0) ≡ false = grind (arith, nat_tests) in
        rw (begun, beyond) refl
    head_at false false true false is_same is_none is_out is_further begun = absurd (let no : upto.0 < since = grind (arith, nat_tests) in let no2 : NOSNAP.0 ≤ upto.0 = grind (arith, nat_tests) in omega (arith, is.live))
    head_at false false false true is_same is_none is_out is_further begun = further_at (nat_lt follows.0 s.0) (nat_le s.0 upto.0) refl refl begun
    head_at false false false false is_same is_none is_out is_further begun = to_nosnap_at (nat_lt follows.0 s.0) refl is_further begun

    -- where an inode is there at the id, so it is after a size is settled
    settled_head : nat_le since s.0 ≡ true → at_id (settled follows upto size history) s ≡ option_map (settled_at follows upto size s) (at_id history s)
    settled_head begun =
        let live : nat_le s.0 NOSNAP.0 ≡ true = grind (arith, nat_tests) in
        let since_le : since ≤ s.0 = grind (arith, nat_tests) in
        let first = (since_settled follows upto size history.head history.since).0 in
        let pieces = flat_map (settled_parts follows upto size) history.earlier in
        let more = head_parts follows upto size history in
        let none : earlier_at pieces s ≡ None = pieces_at history.earlier ∙ ap (option_map (settled_at follows upto size s)) (none_above 0 history.earlier since s since_le is.earlier) in
        rw (live, begun)
        (ap (λ o. cond (nat_le first s.0) (Some (head_settled upto size history.head)) o) (earlier_at-append pieces more s ∙ ap (λ o. option_or o (earlier_at more s)) none)
        ∙ head_at (history.head.size == size) (nat_le upto.0 follows.0) (nat_lt upto.0 since) (nat_lt upto.0 NOSNAP.0) refl refl refl refl begun)

    -- an inode after a size is settled
    pub settled_everywhere : at_id (settled follows upto size history) s ≡ option_map (settled_at follows upto size s) (at_id history s)
    settled_everywhere = either (nat_le since s.0) refl
      where
        either : (begun : Bool) → nat_le since s.0 ≡ begun → at_id (settled follows upto size history) s ≡ option_map (settled_at follows upto size s) (at_id history s)
        either true is_begun = settled_head is_begun
        either false is_begun = settled_earlier is_begun

pub or_true : (b : Bool) → (b || true) ≡ true
or_true true = refl
or_true false = refl

-- a version that is valid at an id of a list is needed
one_needed : (s t : SnapId) (live : List SnapId) (v : Version) (same : Bool) → (t.0 == s.0) ≡ same → (same || is_listed s live) ≡ true → is_valid_at s v ≡ true → (is_listed s live ≡ true → is_needed live v ≡ true) → (is_valid_at t v || is_needed live v) ≡ true
one_needed s t live v true is_same listed valid more =
    let here : is_valid_at t v ≡ true = ap (λ n. nat_le v.valid.first.0 n && nat_le n v.valid.last.0) (eqb-true t.0 s.0 is_same) ∙ valid in
    rw here refl
one_needed s t live v false is_same listed valid more = rw (more listed) (or_true (is_valid_at t v))

needed : (s : SnapId) (live : List SnapId) (v : Version) → is_listed s live ≡ true → is_valid_at s v ≡ true → is_needed live v ≡ true
needed s [] v listed valid = cc
needed s (t ∷ live) v listed valid = one_needed s t live v (t.0 == s.0) refl listed valid (λ more. needed s live v more valid)

-- one version, kept or not, in front of others that say the same
one_left : (s : SnapId) (v : Version) (vs ws : List Version) (kept valid : Bool) → is_valid_at s v ≡ valid → (valid ≡ true → kept ≡ true) → earlier_at vs s ≡ earlier_at ws s → earlier_at (cond kept (v ∷ vs) vs) s ≡ cond valid (Some v.attr) (earlier_at ws s)
one_left s v vs ws true true is needs rest = rw is refl
one_left s v vs ws true false is needs rest = rw is rest
one_left s v vs ws false true is needs rest = absurd (let no : false ≡ true = needs refl in cc)
one_left s v vs ws false false is needs rest = rest

-- what versions say at an id of the list stays
listed_stays : (s : SnapId) (live : List SnapId) → is_listed s live ≡ true → (vs : List Version) → earlier_at (filter (is_needed live) vs) s ≡ earlier_at vs s
listed_stays s live listed [] = refl
listed_stays s live listed (v ∷ vs) = one_left s v (filter (is_needed live) vs) vs (is_needed live v) (is_valid_at s v) refl (needed s live v listed) (listed_stays s live listed vs)

-- an inode at an id of the list, after the others are dropped
pub trimmed_live : (s : SnapId) (live : List SnapId) (history : History) → is_listed s live ≡ true → at_id (trimmed live history) s ≡ at_id history s
trimmed_live s live history listed = ap (λ o. cond (nat_le history.since.0 s.0) (cond (nat_le s.0 NOSNAP.0) (Some history.head) None) o) (listed_stays s live listed history.earlier)

-- a version that stands where the list needs it
abbrev is_here : SnapId → List SnapId → Version → Bool
is_here s live v = is_valid_at s v && is_needed live v

-- none of those above an id stands there
none_here : (low : ℕ) (vs : List Version) (high : ℕ) (s : SnapId) (live : List SnapId) → s.0 < low → AreBetween low vs high → list_any (is_here s live) vs ≡ false
none_here low [] high s live below between = refl
none_here low (v ∷ vs) high s live below between =
    let out : is_valid_at s v ≡ false = grind (arith, nat_tests, between.0) in
    rw out (none_here (v.valid.last.0 + 1) vs high s live (omega (arith, between.0, between.1)) between.2)

one_dropped : (s : SnapId) (live : List SnapId) (v : Version) (vs : List Version) (high : ℕ) (kept valid : Bool) → is_valid_at s v ≡ valid → AreBetween (v.valid.last.0 + 1) vs high → earlier_at (filter (is_needed live) vs) s ≡ cond (list_any (is_here s live) vs) (earlier_at vs s) None → earlier_at (cond kept (v ∷ filter (is_needed live) vs) (filter (is_needed live) vs)) s ≡ cond ((valid && kept) || list_any (is_here s live) vs) (cond valid (Some v.attr) (earlier_at vs s)) None
one_dropped s live v vs high true true is between rest = rw is refl
one_dropped s live v vs high true false is between rest = rw is rest
one_dropped s live v vs high false true is between rest =
    let below : s.0 < v.valid.last.0 + 1 = grind (arith, nat_tests) in
    let none : list_any (is_here s live) vs ≡ false = none_here (v.valid.last.0 + 1) vs high s live below between in
    rw none (none_below (v.valid.last.0 + 1) (filter (is_needed live) vs) high s below (between-filter (is_needed live) (v.valid.last.0 + 1) vs high between))
one_dropped s live v vs high false false is between rest = rest

needed_stay : (s : SnapId) (live : List SnapId) (low : ℕ) (vs : List Version) (high : ℕ) → AreBetween low vs high → earlier_at (filter (is_needed live) vs) s ≡ cond (list_any (is_here s live) vs) (earlier_at vs s) None
needed_stay s live low [] high between = refl
needed_stay s live low (v ∷ vs) high between = one_dropped s live v vs high (is_needed live v) (is_valid_at s v) refl between.2 (needed_stay s live (v.valid.last.0 + 1) vs high between.2)

head_stays : (s : SnapId) (live : List SnapId) (history : History) (begun : Bool) → IsHistory history → cond begun (cond (nat_le s.0 NOSNAP.0) (Some history.head) None) (earlier_at (filter (is_needed live) history.earlier) s) ≡ cond (begun || list_any (is_here s live) history.earlier) (cond begun (cond (nat_le s.0 NOSNAP.0) (Some history.head) None) (earlier_at history.earlier s)) None
head_stays s live history true is = refl
head_stays s live history false is = needed_stay s live 0 history.earlier history.since.0 is.earlier

-- an inode at any id, after the others are dropped
pub trimmed_everywhere : (s : SnapId) (live : List SnapId) (history : History) → IsHistory history → at_id (trimmed live history) s ≡ cond (is_kept_at live history s) (at_id history s) None
trimmed_everywhere s live history is = head_stays s live history (nat_le history.since.0 s.0) is

-- what is dropped and what stays are all
pub trimmed_count : (live : List SnapId) (history : History) → unneeded live history + length (trimmed live history).earlier ≡ length history.earlier
trimmed_count live history =
    omega (
      arith,
      length-filter_both (is_needed live) (λ v. not (is_needed live v)) (λ _. refl) history.earlier,
      length-filter (λ v. not (is_needed live v)) history.earlier,
    )

-- a version that ends by `follows` is in one piece
module _ (follows upto : SnapId) (size : ℕ) (less : follows.0 < upto.0) where
  one_piece : (v : Version) (same : Bool) → v.valid.first.0 ≤ v.valid.last.0 → v.valid.last.0 ≤ follows.0 → cond same (v ∷ []) (parts follows upto size v) ≡ v ∷ []
  one_piece v true ends by = refl
  one_piece v false ends by =
      let first = v.valid.first.0 in
      let last = v.valid.last.0 in
      let to : min last follows.0 ≡ last = omega arith in
      let one : nat_le first (min last follows.0) ≡ true = grind (arith, nat_tests) in
      let two : nat_le (max first (follows.0 + 1)) (min last upto.0) ≡ false = grind (arith, nat_tests) in
      let three : nat_le (max first (upto.0 + 1)) last ≡ false = grind (arith, nat_tests) in
      rw (one, two, three) (ap (λ n. let w : Version = record { valid = record { first = v.valid.first; last = record { 0 = n } }; attr = v.attr } in w ∷ []) to)

  -- those that end by `follows` stay in front
  pub front_stays : (low : ℕ) (vs : List Version) (high : ℕ) (i : ℕ) → AreBetween low vs high → AllByRecursion (λ v. nat_le v.valid.last.0 follows.0 ≡ true) (take i vs) → flat_map (settled_parts follows upto size) vs ≡ take i vs ++ flat_map (settled_parts follows upto size) (drop i vs)
  front_stays low vs high zero between front = refl
  front_stays low [] high (suc i) between front = refl
  front_stays low (v ∷ vs) high (suc i) between front =
      let by : v.valid.last.0 ≤ follows.0 = grind (arith, nat_tests, front.0) in
      rw (one_piece v (v.attr.size == size) between.1 by) (ap (λ ws. v ∷ ws) (front_stays (v.valid.last.0 + 1) vs high i between.2 front.1))

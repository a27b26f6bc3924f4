-- What a table says after each of its changes.
use Rattle.std.proofs.Common.{not, ◌≡◌, ℕ, ◌+◌, ◌<◌, ◌≤◌, Bool, true, false, ◌&&◌, ◌==◌, cond, subst, nat_lt, nat_le, List, [], ◌∷◌, length, Option, None, Some, refl, ap, ◌∙◌, sym, IsSome, Result, Ok, Err, OnErr, arith}
use Rattle.std.specs.List.{sum_by, count_by, filter}
use Rattle.std.specs.Option.{option_map}
use Rattle.std.specs.Map.{lookup, set_value, values_of}
use Rattle.std.specs.Ordering.{nat_cmp, match_ordering, is_le}
use Rattle.std.specs.declared.cmp.Ordering.{Ordering}
use Rattle.std.specs.declared.cmp.Ordering.TheVariants.{Less, Equal, Greater}
use Rattle.std.specs.BTreeMap.{is_at, insert_entry}
use Rattle.std.proofs.lemmas.List.Sums.{sum_by-cons}
use Rattle.std.proofs.lemmas.Map.Made.{lookup-map_values}
use Rattle.std.proofs.lemmas.Bool.Decides.{nat_tests}
use Rattle.snap_ids.specs.declared.id.Ino.{Ino}
use Rattle.snap_ids.specs.declared.id.SnapId.{SnapId}
use Rattle.snap_ids.specs.declared.id.TheConstants.{NOSNAP}
use Rattle.snap_ids.specs.Context.{is_listed}
use Rattle.inode_versions.specs.declared.attr.Attr.{Attr}
use Rattle.inode_versions.specs.declared.attr.Version.{Version}
use Rattle.inode_versions.specs.Histories.{History, IsHistory, at_id, since_changed, settled_at, is_needed}
use Rattle.inode_versions.specs.Parts.{changed, settled, trimmed, unneeded}
use Rattle.inode_versions.specs.Table.{history_of, answer, attr_at, since, head_of, is_heads, first_settled, trimmed_table, count_unneeded, is_kept, kept_by, begins_by}
use Rattle.inode_versions.specs.Fields.{total, AreHistories}
use Rattle.inode_versions.proofs.Order.{trimmed_history}
use Rattle.inode_versions.proofs.Pieces.{changed_at, settled_everywhere, trimmed_live, trimmed_everywhere, trimmed_count}
use Rattle.inode_versions.proofs.Tables.{Puts, attr_of, since_of, it, attr_put, since_put}

-- as an inode comes into being
pub create_at : (es ns : List (ℕ × History)) (ino : Ino) (birth : SnapId) (attr : Attr) → Puts es ns ino (record { since = birth; head = attr; earlier = [] }) → (i : Ino) (s : SnapId) → s.0 ≤ NOSNAP.0 → attr_at ns i s ≡ cond (i.0 == ino.0) (cond (nat_le birth.0 s.0) (Some attr) None) (attr_at es i s)
create_at es ns ino birth attr puts i s upto =
    let new : History = record { since = birth; head = attr; earlier = [] } in
    let live : nat_le s.0 NOSNAP.0 ≡ true = grind (arith, nat_tests) in
    let made : at_id new s ≡ cond (nat_le birth.0 s.0) (Some attr) None = rw live refl in
    attr_put es ns ino new puts i s (i.0 == ino.0) refl ∙ ap (λ o. cond (i.0 == ino.0) o (attr_at es i s)) made

-- as an inode changes above an id
module _ (es ns : List (ℕ × History)) (ino : Ino) (follows : SnapId) (attr : Attr) (below : follows.0 < NOSNAP.0) (h : History) (found : history_of es ino ≡ Some h) (puts : Puts es ns ino (changed follows attr h)) where
  pub change_at : IsHistory h → (i : Ino) (s : SnapId) → s.0 ≤ NOSNAP.0 → attr_at ns i s ≡ cond ((i.0 == ino.0) && (nat_lt follows.0 s.0 && is_heads es i s)) (Some attr) (attr_at es i s)
  change_at is i s upto = either (i.0 == ino.0) refl
    where
      either : (same : Bool) → (i.0 == ino.0) ≡ same → attr_at ns i s ≡ cond (same && (nat_lt follows.0 s.0 && is_heads es i s)) (Some attr) (attr_at es i s)
      either true same =
          let here : history_of es i ≡ Some h = it es i ino (Some h) same found in
          attr_put es ns ino (changed follows attr h) puts i s true same
          ∙ rw (attr_of es i s (Some h) here, since_of es i (Some h) here) (changed_at follows attr below h s upto is)
      either false same = attr_put es ns ino (changed follows attr h) puts i s false same

  pub change_since : (i : Ino) → since ns i ≡ cond (i.0 == ino.0) (option_map (since_changed follows) (since es i)) (since es i)
  change_since i = either (i.0 == ino.0) refl
    where
      either : (same : Bool) → (i.0 == ino.0) ≡ same → since ns i ≡ cond same (option_map (since_changed follows) (since es i)) (since es i)
      either true same =
          let here : history_of es i ≡ Some h = it es i ino (Some h) same found in
          since_put es ns ino (changed follows attr h) puts i true same ∙ rw (since_of es i (Some h) here) refl
      either false same = since_put es ns ino (changed follows attr h) puts i false same

-- as a size is settled
module _ (es ns : List (ℕ × History)) (ino : Ino) (follows upto : SnapId) (size : ℕ) (less : follows.0 < upto.0) (h : History) (found : history_of es ino ≡ Some h) (is : IsHistory h) (puts : Puts es ns ino (settled follows upto size h)) where
  pub settle_at : (i : Ino) (s : SnapId) → s.0 ≤ NOSNAP.0 → attr_at ns i s ≡ cond (i.0 == ino.0) (option_map (settled_at follows upto size s) (attr_at es i s)) (attr_at es i s)
  settle_at i s upto_nosnap = either (i.0 == ino.0) refl
    where
      either : (same : Bool) → (i.0 == ino.0) ≡ same → attr_at ns i s ≡ cond same (option_map (settled_at follows upto size s) (attr_at es i s)) (attr_at es i s)
      either true same =
          let here : history_of es i ≡ Some h = it es i ino (Some h) same found in
          attr_put es ns ino (settled follows upto size h) puts i s true same
          ∙ settled_everywhere follows upto size less s h upto_nosnap is
          ∙ ap (option_map (settled_at follows upto size s)) (sym (attr_of es i s (Some h) here))
      either false same = attr_put es ns ino (settled follows upto size h) puts i s false same

  pub settle_since : (i : Ino) → since ns i ≡ cond (i.0 == ino.0) (first_settled follows upto size (head_of es i) (since es i)) (since es i)
  settle_since i = either (i.0 == ino.0) refl
    where
      either : (same : Bool) → (i.0 == ino.0) ≡ same → since ns i ≡ cond same (first_settled follows upto size (head_of es i) (since es i)) (since es i)
      either true same =
          let here : history_of es i ≡ Some h = it es i ino (Some h) same found in
          let live : nat_le h.since.0 NOSNAP.0 ≡ true = grind (arith, nat_tests, is.live) in
          let head : head_of es i ≡ Some h.head = attr_of es i NOSNAP (Some h) here ∙ rw live refl in
          since_put es ns ino (settled follows upto size h) puts i true same ∙ rw (head, since_of es i (Some h) here) refl
      either false same = since_put es ns ino (settled follows upto size h) puts i false same

-- the histories stay in order as one of them is put in its place
one_set : (t : Bool) (e : ℕ × History) (es ns : List (ℕ × History)) (w : History) → IsHistory w → IsHistory e.1 → AreHistories es → AreHistories ns → AreHistories (cond t ((e.0, w) ∷ es) (e ∷ ns))
one_set true e es ns w is first rest more = (is, rest)
one_set false e es ns w is first rest more = (first, more)

pub histories-set : (test : ℕ → Bool) (es : List (ℕ × History)) (w : History) → IsHistory w → AreHistories es → AreHistories (set_value test es w)
histories-set test [] w is all = tt
histories-set test (e ∷ es) w is all = one_set (test e.0) e es (set_value test es w) w is all.0 all.1 (histories-set test es w is all.1)

-- or as a new one
one_inserted : (o : Ordering) (k : ℕ) (w : History) (e : ℕ × History) (es ns : List (ℕ × History)) → IsHistory w → IsHistory e.1 → AreHistories es → AreHistories ns → AreHistories (match_ordering o ((k, w) ∷ e ∷ es) ((e.0, w) ∷ es) (e ∷ ns))
one_inserted Less k w e es ns is first rest more = (is, (first, rest))
one_inserted Equal k w e es ns is first rest more = (is, rest)
one_inserted Greater k w e es ns is first rest more = (first, more)

pub histories-insert : (es : List (ℕ × History)) (k : ℕ) (w : History) → IsHistory w → AreHistories es → AreHistories (insert_entry nat_cmp es k w)
histories-insert [] k w is all = (is, tt)
histories-insert (e ∷ es) k w is all = one_inserted (nat_cmp k e.0) k w e es (insert_entry nat_cmp es k w) is all.0 all.1 (histories-insert es k w is all.1)

-- or as their unneeded versions are dropped
pub histories-trimmed : (live : List SnapId) (es : List (ℕ × History)) → AreHistories es → AreHistories (trimmed_table live es)
histories-trimmed live [] all = tt
histories-trimmed live (e ∷ es) all = (trimmed_history live e.1 all.0, histories-trimmed live es all.1)

-- one of them
one_found : (t : Bool) (e : ℕ × History) (rest : Option History) (h : History) → cond t (Some e.1) rest ≡ Some h → IsHistory e.1 → (rest ≡ Some h → IsHistory h) → IsHistory h
one_found true e rest h found is more = subst IsHistory (let same : e.1 ≡ h = cc in same) is
one_found false e rest h found is more = more found

pub history_found : (test : ℕ → Bool) (es : List (ℕ × History)) (h : History) → AreHistories es → lookup test es ≡ Some h → IsHistory h
history_found test [] h all found = cc
history_found test (e ∷ es) h all found = one_found (test e.0) e (lookup test es) h found all.0 (λ more. history_found test es h all.1 more)

-- how many stay, and how many are dropped
pub total-trimmed : (live : List SnapId) (es : List (ℕ × History)) → total (trimmed_table live es) + count_unneeded live es ≡ total es
total-trimmed live [] = refl
total-trimmed live (e ∷ es) =
    let size = λ (inode : ℕ × History). length inode.1.earlier in
    let rest : total (trimmed_table live es) + count_unneeded live es ≡ total es = total-trimmed live es in
    let one : sum_by (unneeded live) (e.1 ∷ values_of es) ≡ unneeded live e.1 + sum_by (unneeded live) (values_of es) = sum_by-cons (unneeded live) e.1 (values_of es) in
    let two : total (trimmed_table live (e ∷ es)) ≡ length (trimmed live e.1).earlier + total (trimmed_table live es) = sum_by-cons size (e.0, trimmed live e.1) (trimmed_table live es) in
    let three : total (e ∷ es) ≡ length e.1.earlier + total es = sum_by-cons size e es in
    omega (arith, trimmed_count live e.1)

-- after a trim
module _ (live : List SnapId) (es : List (ℕ × History)) (i : Ino) where
  trimmed_of : history_of (trimmed_table live es) i ≡ option_map (trimmed live) (history_of es i)
  trimmed_of = lookup-map_values (trimmed live) (is_at (nat_cmp i.0)) es

  trim_live_of : (s : SnapId) → is_listed s live ≡ true → (o : Option History) → answer (option_map (trimmed live) o) s ≡ answer o s
  trim_live_of s listed None = refl
  trim_live_of s listed (Some h) = trimmed_live s live h listed

  pub trim_live : (s : SnapId) → is_listed s live ≡ true → attr_at (trimmed_table live es) i s ≡ attr_at es i s
  trim_live s listed = attr_of (trimmed_table live es) i s _ trimmed_of ∙ trim_live_of s listed (history_of es i) ∙ sym (attr_of es i s _ refl)

  trim_head_of : (o : Option History) → history_of es i ≡ o → AreHistories es → answer (option_map (trimmed live) o) NOSNAP ≡ answer o NOSNAP
  trim_head_of None found all = refl
  trim_head_of (Some h) found all =
      let is : IsHistory h = history_found (is_at (nat_cmp i.0)) es h all found in
      let begun : nat_le h.since.0 NOSNAP.0 ≡ true = grind (arith, nat_tests, is.live) in
      rw begun refl

  pub trim_head : AreHistories es → head_of (trimmed_table live es) i ≡ head_of es i
  trim_head all = attr_of (trimmed_table live es) i NOSNAP _ trimmed_of ∙ trim_head_of (history_of es i) refl all ∙ sym (attr_of es i NOSNAP _ refl)

  trim_since_of : (o : Option History) → option_map (λ (h : History). h.since) (option_map (trimmed live) o) ≡ option_map (λ (h : History). h.since) o
  trim_since_of None = refl
  trim_since_of (Some h) = refl

  pub trim_since : since (trimmed_table live es) i ≡ since es i
  trim_since = since_of (trimmed_table live es) i _ trimmed_of ∙ trim_since_of (history_of es i) ∙ sym (since_of es i _ refl)

  trim_at_of : (s : SnapId) (o : Option History) → history_of es i ≡ o → AreHistories es → answer (option_map (trimmed live) o) s ≡ cond (kept_by live s o) (answer o s) None
  trim_at_of s None found all = refl
  trim_at_of s (Some h) found all = trimmed_everywhere s live h (history_found (is_at (nat_cmp i.0)) es h all found)

  kept_of : (s : SnapId) → is_kept live es i s ≡ kept_by live s (history_of es i)
  unfolding is_kept
  kept_of s = refl

  pub trim_at : AreHistories es → (s : SnapId) → attr_at (trimmed_table live es) i s ≡ cond (is_kept live es i s) (attr_at es i s) None
  trim_at all s =
      attr_of (trimmed_table live es) i s _ trimmed_of
      ∙ trim_at_of s (history_of es i) refl all
      ∙ rw (kept_of s, attr_of es i s (history_of es i) refl) refl

-- an inode that isn't there has no history
absent_of : (o : Option History) → ((h : History) → o ≡ Some h → IsHistory h) → answer o NOSNAP ≡ None → o ≡ None
absent_of None is none = refl
absent_of (Some h) is none =
    let begun : nat_le h.since.0 NOSNAP.0 ≡ true = grind (arith, nat_tests, (is h refl).live) in
    absurd (let no : Some h.head ≡ None = sym (rw begun refl) ∙ none in cc)

pub absent : (es : List (ℕ × History)) (ino : Ino) → AreHistories es → head_of es ino ≡ None → history_of es ino ≡ None
absent es ino all none = absent_of (history_of es ino) (λ h found. history_found (is_at (nat_cmp ino.0)) es h all found) (sym (attr_of es ino NOSNAP _ refl) ∙ none)

-- one that is there has one
pub there : (es : List (ℕ × History)) (ino : Ino) → history_of es ino ≡ None → IsSome (head_of es ino) → ⊥
there es ino none some = let no : false ≡ true = subst IsSome (attr_of es ino NOSNAP None none) some in cc

-- what holds in any case holds after an error
pub on_err : {A E P : Type 0} (r : Result A E) → P → OnErr r P
on_err (Ok value) p = tt
on_err (Err error) p = p

-- an id that isn't at or below another is above it
pub above : (follows upto : ℕ) → false ≡ is_le (nat_cmp upto follows) → follows < upto
above follows upto test = grind (arith, nat_tests)

-- the head's ids begin by an id at or above its first one
pub begun_by : (es : List (ℕ × History)) (ino : Ino) (h : History) (s : SnapId) → history_of es ino ≡ Some h → h.since.0 ≤ s.0 → is_heads es ino s ≡ true
begun_by es ino h s found begun =
    let test : nat_le h.since.0 s.0 ≡ true = grind (arith, nat_tests) in
    ap (begins_by s) (since_of es ino (Some h) found) ∙ test

-- where no version is dropped, all stay
one_stays : (v : Version) (vs ws : List Version) (kept : Bool) (n : ℕ) → cond (not kept) 1 0 + n ≡ 0 → (n ≡ 0 → ws ≡ vs) → cond kept (v ∷ ws) ws ≡ v ∷ vs
one_stays v vs ws true n none rest = ap (λ xs. v ∷ xs) (rest (omega arith))
one_stays v vs ws false n none rest = absurd (omega arith)

none_unneeded : (p : Version → Bool) (vs : List Version) → count_by (λ v. not (p v)) vs ≡ 0 → filter p vs ≡ vs
none_unneeded p [] none = refl
none_unneeded p (v ∷ vs) none =
    let rest : ℕ = count_by (λ v. not (p v)) vs in
    one_stays v vs (filter p vs) (p v) rest (sym (sum_by-cons (λ v. cond (not (p v)) 1 0) v vs) ∙ none) (λ zero. none_unneeded p vs zero)

pub all_stay : (live : List SnapId) (es : List (ℕ × History)) → count_unneeded live es ≡ 0 → trimmed_table live es ≡ es
all_stay live [] none = refl
all_stay live (e ∷ es) none =
    let both : unneeded live e.1 + count_unneeded live es ≡ 0 = sym (sum_by-cons (unneeded live) e.1 (values_of es)) ∙ none in
    let first : unneeded live e.1 ≡ 0 = omega arith in
    let rest : count_unneeded live es ≡ 0 = omega arith in
    ap (λ (vs : List Version). let h : History = record { since = e.1.since; head = e.1.head; earlier = vs } in let one : ℕ × History = (e.0, h) in one ∷ trimmed_table live es) (none_unneeded (is_needed live) e.1.earlier first)
    ∙ ap (λ (more : List (ℕ × History)). e ∷ more) (all_stay live es rest)

-- What one more version, a cut and a trim leave of the dentries.
use Rattle.std.proofs.Common.{max, ◌≡◌, ℕ, zero, suc, ◌+◌, ◌<◌, ◌≤◌, Bool, true, false, not, ◌&&◌, ◌==◌, cond, List, [], ◌∷◌, ◌++◌, length, take, drop, slice_get, get_or, insert, set, Option, None, Some, IsSome, refl, sym, ◌∙◌, ap, subst, arith}
use Rattle.std.specs.List.{AllByRecursion, cons_option}
use Rattle.std.specs.Option.{option_map, option_or}
use Rattle.std.proofs.lemmas.List.{take-append-drop}
use Rattle.std.proofs.lemmas.Bool.{eqb-true}
use Rattle.std.proofs.lemmas.Bool.Decides.{nat_tests}
use Rattle.std.proofs.lemmas.Slice.Eq.{bytes_eq-Decides}
use Rattle.snap_ids.specs.declared.id.Ino.{Ino}
use Rattle.snap_ids.specs.declared.id.SnapId.{SnapId}
use Rattle.snap_ids.specs.declared.id.TheConstants.{ROOT, NOSNAP}
use Rattle.plain_tree.specs.State.{add, precedes}
use Rattle.dentry_tree.specs.declared.version.Version.{Version}
use Rattle.dentry_tree.specs.Dentries.{Dentry, entry_of, is_valid_at, ino_at, entries_in, AreBetween, AreVersions, changed_at, newest_of, newest_in, AreDentries}
use Rattle.dentry_tree.specs.Places.{IsPlace, has_name, found_at, with_version, begun_at, cut_dentry, has_versions, kept, begins, Cuts, Puts}
use Rattle.dentry_tree.proofs.Lists.{all_inserted, slice_get-drop}
use Rattle.dentry_tree.proofs.Order.{in_order_drop}
use Rattle.dentry_tree.proofs.Held.{none_above, ino_at-append}
use Rattle.dentry_tree.proofs.Cuts.{cut_between, cut_earlier, cut_later, cut_newest, between_applied, between_more, newest_more}
use Rattle.dentry_tree.proofs.Splits.{Around, entries_with, entries_with_none, entries_with_some, entries_without, added, taken_out, in_order_with, all_removed, all_middle, in_order_removed, total-with, newest-with, around_free, around_it}

-- the dentry is that of the name
pub record IsIt (dir : Ino) (name : List ℕ) (d : Dentry) : Type 0 where
  pub same_dir : d.dir ≡ dir
  pub same_name : d.name ≡ name

both_true : (a b : Bool) → (a && b) ≡ true → (a ≡ true) × (b ≡ true)
both_true true b h = (refl, h)
both_true false b h = cc

pub it_has_name : (dir : Ino) (name : List ℕ) (d : Dentry) → has_name dir name d ≡ true → IsIt dir name d
it_has_name dir name d h =
    let both = both_true _ _ h in
    record {
      same_dir = ap (λ n. let i : Ino = record { 0 = n } in i) (eqb-true d.dir.0 dir.0 both.0);
      same_name = (bytes_eq-Decides d.name name).0 both.1;
    }

-- an element of a list, and what stands before and behind it
pub split_at : {X : Type 0} (xs : List X) (i : ℕ) (x : X) → slice_get xs i ≡ Some x → xs ≡ take i xs ++ x ∷ drop (suc i) xs
split_at [] i x some = absurd (let no : None ≡ Some x = some in cc)
split_at (y ∷ xs) zero x some = ap (λ y. y ∷ xs) (let same : Some y ≡ Some x = some in cc)
split_at (y ∷ xs) (suc i) x some = ap (λ xs. y ∷ xs) (split_at xs i x some)

pub within_get : {X : Type 0} (xs : List X) (i : ℕ) (x : X) → slice_get xs i ≡ Some x → i < length xs
within_get [] i x some = absurd (let no : None ≡ Some x = some in cc)
within_get (y ∷ xs) zero x some = omega arith
within_get (y ∷ xs) (suc i) x some = let rest : i < length xs = within_get xs i x some in omega arith

pub set_split : {X : Type 0} (xs : List X) (i : ℕ) (x y : X) → slice_get xs i ≡ Some x → set xs i y ≡ take i xs ++ y ∷ drop (suc i) xs
set_split [] i x y some = absurd (let no : None ≡ Some x = some in cc)
set_split (z ∷ xs) zero x y some = refl
set_split (z ∷ xs) (suc i) x y some = ap (λ xs. z ∷ xs) (set_split xs i x y some)

-- the element that an index gives
pub got : {X : Type 0} (xs : List X) (i : ℕ) (x y : X) → slice_get xs i ≡ Some x → y ≡ get_or xs i y → y ≡ x
got [] i x y some is = absurd (let no : None ≡ Some x = some in cc)
got (z ∷ xs) zero x y some is = is ∙ (let same : Some z ≡ Some x = some in cc)
got (z ∷ xs) (suc i) x y some is = got xs i x y some is

-- without the one that was written
pub set_removed : {X : Type 0} (xs : List X) (i : ℕ) (y : X) → take i (set xs i y) ++ drop (suc i) (set xs i y) ≡ take i xs ++ drop (suc i) xs
set_removed [] i y = refl
set_removed (z ∷ xs) zero y = refl
set_removed (z ∷ xs) (suc i) y = ap (λ xs. z ∷ xs) (set_removed xs i y)

-- the dentry at a name's place isn't before the name
first_behind : {X : Type 0} (P : X → Type 0) (xs : List X) (i : ℕ) (x : X) → slice_get xs i ≡ Some x → AllByRecursion P (drop i xs) → P x
first_behind P [] i x some all = absurd (let no : None ≡ Some x = some in cc)
first_behind P (y ∷ xs) zero x some all = subst P (let same : y ≡ x = (let is : Some y ≡ Some x = some in cc) in same) all.0
first_behind P (y ∷ xs) (suc i) x some all = first_behind P xs i x some all

-- a dentry, or nothing where it has no version, between others
module _ (dir : Ino) (name : List ℕ) (front back : List Dentry) (around : Around dir name front back) where
  no_versions : (vs : List Version) (s : SnapId) → (length vs == 0) ≡ true → ino_at s vs ≡ None
  no_versions [] s none = refl
  no_versions (v ∷ vs) s none = absurd (let no : suc (length vs) ≡ 0 = eqb-true (suc (length vs)) 0 none in omega arith)

  not_true : (b : Bool) → not b ≡ false → b ≡ true
  not_true true h = refl
  not_true false h = cc

  one_kept : (s : SnapId) (e : Dentry) (some : Bool) → has_versions e ≡ some → entries_in s (front ++ (cond some (e ∷ []) [] ++ back)) ≡ entries_in s (front ++ e ∷ back)
  one_kept s e true is = refl
  one_kept s e false is =
      entries_without dir name front back around s ∙ sym (entries_with_none dir name front back around s e (no_versions e.versions s (not_true (length e.versions == 0) is)))

  pub entries_kept : (s : SnapId) (e : Dentry) → entries_in s (front ++ (kept e ++ back)) ≡ entries_in s (front ++ e ∷ back)
  entries_kept s e = one_kept s e (has_versions e) refl

one_dentries : (front : List Dentry) (e : Dentry) (back : List Dentry) (some : Bool) → AreDentries (front ++ e ∷ back) → AreDentries (front ++ (cond some (e ∷ []) [] ++ back))
one_dentries front e back true are = are
one_dentries front e back false are = record { in_order = in_order_removed front e back are.in_order; versions = all_removed AreVersions front e back are.versions }

one_newest : (front : List Dentry) (e : Dentry) (back : List Dentry) (some : Bool) (n : ℕ) → newest_in (front ++ e ∷ back) ≤ n → newest_in (front ++ (cond some (e ∷ []) [] ++ back)) ≤ n
one_newest front e back true n most = most
one_newest front e back false n most = omega (arith, newest-with front e back)

module _ (applied : SnapId) (dir : Ino) (name : List ℕ) (front : List Dentry) (d : Dentry) (back : List Dentry) (are : AreDentries (front ++ d ∷ back)) (here : has_name dir name d ≡ true) (around : Around dir name front back) where
  abbrev e : Dentry
  e = cut_dentry applied d

  it : IsIt dir name d
  it = it_has_name dir name d here

  d_versions : AreVersions d
  d_versions = all_middle AreVersions front d back are.versions

  with_e : AreDentries (front ++ e ∷ back)
  with_e = record {
    in_order = in_order_with dir name front back e around it.same_dir it.same_name (in_order_removed front d back are.in_order);
    versions = all_inserted AreVersions front e back (cut_between applied 0 d.versions (NOSNAP.0 + 1) d_versions) (all_removed AreVersions front d back are.versions);
  }

  pub cuts : Cuts applied dir name (front ++ d ∷ back) (front ++ (kept e ++ back))
  cuts = record {
    dentries = one_dentries front e back (has_versions e) with_e;
    earlier = λ s by. entries_kept dir name front back around s e
        ∙ entries_with dir name front back around s e
        ∙ ap (λ o. entries_in s front ++ cons_option (option_map (entry_of d) o) (entries_in s back)) (cut_earlier applied s 0 d.versions (NOSNAP.0 + 1) by d_versions)
        ∙ sym (entries_with dir name front back around s d);
    later = λ s after. entries_kept dir name front back around s e
        ∙ entries_with_none dir name front back around s e (cut_later applied s d.versions after)
        ∙ sym (taken_out dir name front back around s d here);
    newest = one_newest front e back (has_versions e) (max (newest_in (front ++ d ∷ back)) applied.0)
        (let last : newest_of e.versions ≤ applied.0 = cut_newest applied d.versions in
        omega (arith, newest-with front e back, newest-with front d back));
  }

-- the same of a list with the dentry at a place
pub cuts_at : (applied : SnapId) (dir : Ino) (name : List ℕ) (ds : List Dentry) (place : ℕ) (d : Dentry) → AreDentries ds → IsPlace dir name ds place → slice_get ds place ≡ Some d → has_name dir name d ≡ true → Cuts applied dir name ds (take place ds ++ (kept (cut_dentry applied d) ++ drop (suc place) ds))
cuts_at applied dir name ds place d are at is here =
    let front = take place ds in
    let back = drop (suc place) ds in
    let whole : ds ≡ front ++ d ∷ back = split_at ds place d is in
    let are_split : AreDentries (front ++ d ∷ back) = subst AreDentries whole are in
    let around : Around dir name front back = around_it dir name front d back are_split.in_order at.before (first_behind (λ d. precedes (entry_of d ROOT) (record { dir = dir; name = name; ino = ROOT }) ≡ false) ds place d is at.behind) in
    subst (λ (old : List Dentry). Cuts applied dir name old (front ++ (kept (cut_dentry applied d) ++ back))) (sym whole) (cuts applied dir name front d back are_split here around)

-- one more version
length-more : (vs : List Version) (v : Version) → length (vs ++ v ∷ []) ≡ length vs + 1
length-more [] v = refl
length-more (w ∷ vs) v = let rest : length (vs ++ v ∷ []) ≡ length vs + 1 = length-more vs v in omega arith

module _ (applied : SnapId) (ino : Ino) (below : applied.0 < NOSNAP.0) where
  not_yet : (s : SnapId) → s.0 ≤ applied.0 → is_valid_at s (begins applied ino) ≡ false
  not_yet s by = grind (arith, nat_tests)

  from_then : (s : SnapId) → applied.0 < s.0 → s.0 ≤ NOSNAP.0 → is_valid_at s (begins applied ino) ≡ true
  from_then s later upto = grind (arith, nat_tests)

  begins_newest : changed_at (begins applied ino) ≤ applied.0
  begins_newest = omega arith

  module _ (dir : Ino) (name : List ℕ) (front back : List Dentry) (around : Around dir name front back) where
    -- as a new dentry
    abbrev new : Dentry
    new = record { dir = dir; name = name; versions = begins applied ino ∷ [] }

    pub puts_new : AreDentries (front ++ back) → newest_in (front ++ back) ≤ applied.0 → Puts applied dir name ino (front ++ back) (front ++ new ∷ back)
    puts_new are most = record {
      dentries = record {
        in_order = in_order_with dir name front back new around refl refl are.in_order;
        versions = all_inserted AreVersions front new back (omega arith, omega arith, omega arith) are.versions;
      };
      earlier = λ s by. entries_with_none dir name front back around s new (rw (not_yet s by) refl) ∙ sym (entries_without dir name front back around s);
      later = λ s after upto. entries_with_some dir name front back around s new ino refl refl (rw (from_then s after upto) refl)
          ∙ sym (added dir name front back around s ino)
          ∙ ap (add (record { dir = dir; name = name; ino = ino })) (sym (entries_without dir name front back around s));
      newest = omega (arith, newest-with front new back, begins_newest);
      count = omega (arith, total-with front new back);
    }

    -- as a further version of a dentry
    module _ (d : Dentry) (it : IsIt dir name d) (are : AreDentries (front ++ d ∷ back)) (most : newest_in (front ++ d ∷ back) ≤ applied.0) (free : ino_at NOSNAP d.versions ≡ None) where
      abbrev more : Dentry
      more = with_version (begins applied ino) d

      ends : AreBetween 0 d.versions (applied.0 + 1)
      ends = between_applied applied 0 d.versions (omega arith) below (all_middle AreVersions front d back are.versions) (omega (arith, most, newest-with front d back)) free

      with_new : (s : SnapId) → ino_at s more.versions ≡ option_or (ino_at s d.versions) (ino_at s (begins applied ino ∷ []))
      with_new s = ino_at-append s d.versions (begins applied ino ∷ [])

      or_none : (o : Option Ino) → option_or o None ≡ o
      or_none None = refl
      or_none (Some i) = refl

      before : (s : SnapId) → s.0 ≤ applied.0 → ino_at s more.versions ≡ ino_at s d.versions
      before s by = with_new s ∙ ap (λ b. option_or (ino_at s d.versions) (cond b (Some ino) None)) (not_yet s by) ∙ or_none (ino_at s d.versions)

      nothing : (s : SnapId) → applied.0 < s.0 → ino_at s d.versions ≡ None
      nothing s after = none_above 0 d.versions (applied.0 + 1) s (omega arith) ends

      since : (s : SnapId) → applied.0 < s.0 → s.0 ≤ NOSNAP.0 → ino_at s more.versions ≡ Some ino
      since s after upto = with_new s ∙ ap (λ b. option_or (ino_at s d.versions) (cond b (Some ino) None)) (from_then s after upto) ∙ ap (λ o. option_or o (Some ino)) (nothing s after)

      pub puts_more : Puts applied dir name ino (front ++ d ∷ back) (front ++ more ∷ back)
      puts_more = record {
        dentries = record {
          in_order = in_order_with dir name front back more around it.same_dir it.same_name (in_order_removed front d back are.in_order);
          versions = all_inserted AreVersions front more back (between_more 0 d.versions (applied.0 + 1) (begins applied ino) (NOSNAP.0 + 1) ends (omega arith) (omega arith) (omega arith)) (all_removed AreVersions front d back are.versions);
        };
        earlier = λ s by. entries_with dir name front back around s more
            ∙ ap (λ o. entries_in s front ++ cons_option (option_map (entry_of d) o) (entries_in s back)) (before s by)
            ∙ sym (entries_with dir name front back around s d);
        later = λ s after upto. entries_with_some dir name front back around s more ino it.same_dir it.same_name (since s after upto)
            ∙ sym (added dir name front back around s ino)
            ∙ ap (add (record { dir = dir; name = name; ino = ino })) (sym (entries_with_none dir name front back around s d (nothing s after)));
        newest = omega (arith, newest-with front more back, newest-with front d back, newest_more d.versions (begins applied ino), begins_newest);
        count = omega (arith, total-with front more back, total-with front d back, length-more d.versions (begins applied ino));
      }

-- the same of a list with the name's place
module _ (applied : SnapId) (dir : Ino) (name : List ℕ) (ino : Ino) (ds : List Dentry) (place : ℕ) (below : applied.0 < NOSNAP.0) (are : AreDentries ds) (most : newest_in ds ≤ applied.0) (at : IsPlace dir name ds place) where
  whole : take place ds ++ drop place ds ≡ ds
  whole = take-append-drop place ds

  put_first : ((d : Dentry) → slice_get ds place ≡ Some d → has_name dir name d ≡ false) → Puts applied dir name ino ds (insert ds place (record { dir = dir; name = name; versions = begins applied ino ∷ [] }))
  put_first other =
      let around = around_free dir name ds place (in_order_drop ds place are.in_order) at (slice_get-drop ds place) other in
      subst (λ (old : List Dentry). Puts applied dir name ino old (take place ds ++ record { dir = dir; name = name; versions = begins applied ino ∷ [] } ∷ drop place ds)) whole
      (puts_new applied ino below dir name (take place ds) (drop place ds) around (subst AreDentries (sym whole) are) (subst (λ (xs : List Dentry). newest_in xs ≤ applied.0) (sym whole) most))

  put_again : (d : Dentry) → slice_get ds place ≡ Some d → has_name dir name d ≡ true → ino_at NOSNAP d.versions ≡ None → Puts applied dir name ino ds (set ds place (with_version (begins applied ino) d))
  put_again d is here free =
      let front = take place ds in
      let back = drop (suc place) ds in
      let split : ds ≡ front ++ d ∷ back = split_at ds place d is in
      let are_split : AreDentries (front ++ d ∷ back) = subst AreDentries split are in
      let around : Around dir name front back = around_it dir name front d back are_split.in_order at.before (first_behind (λ d. precedes (entry_of d ROOT) (record { dir = dir; name = name; ino = ROOT }) ≡ false) ds place d is at.behind) in
      subst (λ (made : List Dentry). Puts applied dir name ino ds made) (sym (set_split ds place d (with_version (begins applied ino) d) is))
      (subst (λ (old : List Dentry). Puts applied dir name ino old (front ++ with_version (begins applied ino) d ∷ back)) (sym split)
      (puts_more applied ino below dir name front back around d (it_has_name dir name d here) are_split (subst (λ (xs : List Dentry). newest_in xs ≤ applied.0) split most) free))

  either : (d : Dentry) (here : Bool) → slice_get ds place ≡ Some d → has_name dir name d ≡ here → cond here (ino_at NOSNAP d.versions) None ≡ None → Puts applied dir name ino ds (cond here (set ds place (with_version (begins applied ino) d)) (insert ds place (record { dir = dir; name = name; versions = begins applied ino ∷ [] })))
  either d true is here free = put_again d is here free
  either d false is here free = put_first (λ x some. let same : d ≡ x = (let both : Some d ≡ Some x = sym is ∙ some in cc) in subst (λ (y : Dentry). has_name dir name y ≡ false) same here)

  pub puts_at : (there : Option Dentry) → slice_get ds place ≡ there → found_at NOSNAP dir name there ≡ None → Puts applied dir name ino ds (begun_at place dir name (begins applied ino) there ds)
  puts_at None is free = put_first (λ d some. absurd (let no : None ≡ Some d = sym is ∙ some in cc))
  puts_at (Some d) is free = either d (has_name dir name d) is refl free

-- a dentry of the name stands at the place
pub record There (dir : Ino) (name : List ℕ) (at : Option Dentry) : Type 0 where
  pub dentry : Dentry
  pub is : at ≡ Some dentry
  pub here : has_name dir name dentry ≡ true

there_if : (dir : Ino) (name : List ℕ) (d : Dentry) (here : Bool) → has_name dir name d ≡ here → IsSome (cond here (ino_at NOSNAP d.versions) None) → There dir name (Some d)
there_if dir name d true is some = record { dentry = d; is = refl; here = is }
there_if dir name d false is some = cc

pub there : (dir : Ino) (name : List ℕ) (at : Option Dentry) → IsSome (found_at NOSNAP dir name at) → There dir name at
there dir name None some = cc
there dir name (Some d) some = there_if dir name d (has_name dir name d) refl some

-- Dentries before a name, of it, and behind it.
use Rattle.std.proofs.Common.{◌≡◌, ℕ, ◌+◌, true, false, max, List, [], ◌∷◌, ◌++◌, length, take, drop, slice_get, Option, None, Some, refl, sym, ◌∙◌, ap, subst, arith}
use Rattle.std.specs.List.{AllByRecursion, cons_option}
use Rattle.std.specs.Option.{option_map}
use Rattle.std.proofs.lemmas.List.Sums.{sum_by-cons}
use Rattle.snap_ids.specs.declared.id.Ino.{Ino}
use Rattle.snap_ids.specs.declared.id.SnapId.{SnapId}
use Rattle.snap_ids.specs.declared.id.TheConstants.{ROOT}
use Rattle.plain_tree.specs.State.{Entry, is_at, add, precedes, lookup}
use Rattle.plain_tree.specs.Change.{without}
use Rattle.dentry_tree.specs.Dentries.{Dentry, entry_of, ino_at, entry_at, entries_in, newest_of, newest_in, IsBefore, IsInOrder, total}
use Rattle.dentry_tree.specs.Places.{IsPlace, has_name}
use Rattle.dentry_tree.proofs.Lists.{all_inserted}
use Rattle.dentry_tree.proofs.Order.{precedes_other, all_behind}
use Rattle.dentry_tree.proofs.Entries.{entries_in-cons, entries_in-append, IsElsewhere, lookup_skips, lookup_misses, without_skips, without_none, add_behind, add_first, other_entries, ahead_other, behind_other, all_entries}

-- what stands before a name, and what stands behind it
pub record Around (dir : Ino) (name : List ℕ) (front back : List Dentry) : Type 0 where
  pub ahead : AllByRecursion (λ d. precedes (entry_of d ROOT) (record { dir = dir; name = name; ino = ROOT }) ≡ true) front
  pub behind : AllByRecursion (λ d. precedes (record { dir = dir; name = name; ino = ROOT }) (entry_of d ROOT) ≡ true) back

module _ (dir : Ino) (name : List ℕ) (front back : List Dentry) (around : Around dir name front back) (s : SnapId) where
  abbrev F : List Entry
  F = entries_in s front

  abbrev B : List Entry
  B = entries_in s back

  abbrev root : Entry
  root = record { dir = dir; name = name; ino = ROOT }

  f_elsewhere : AllByRecursion (IsElsewhere root) F
  f_elsewhere = other_entries root s front (ahead_other root front around.ahead)

  b_elsewhere : AllByRecursion (IsElsewhere root) B
  b_elsewhere = other_entries root s back (behind_other root back around.behind)

  -- what the entries are with nothing between
  pub entries_without : entries_in s (front ++ back) ≡ F ++ B
  entries_without = entries_in-append s front back

  -- what they are with a dentry between
  pub entries_with : (d : Dentry) → entries_in s (front ++ d ∷ back) ≡ F ++ cons_option (entry_at s d) B
  entries_with d = entries_in-append s front (d ∷ back) ∙ ap (λ xs. F ++ xs) (entries_in-cons s d back)

  -- with one that has nothing at the id
  pub entries_with_none : (d : Dentry) → ino_at s d.versions ≡ None → entries_in s (front ++ d ∷ back) ≡ F ++ B
  entries_with_none d none = entries_with d ∙ ap (λ o. F ++ cons_option (option_map (entry_of d) o) B) none

  -- with one that has an inode
  pub entries_with_some : (d : Dentry) (ino : Ino) → d.dir ≡ dir → d.name ≡ name → ino_at s d.versions ≡ Some ino → entries_in s (front ++ d ∷ back) ≡ F ++ record { dir = dir; name = name; ino = ino } ∷ B
  entries_with_some d ino is_dir is_name some =
      entries_with d ∙ ap (λ o. F ++ cons_option (option_map (entry_of d) o) B) some
      ∙ ap (λ (t : Ino). F ++ record { dir = t; name = d.name; ino = ino } ∷ B) is_dir
      ∙ ap (λ (t : List ℕ). F ++ record { dir = dir; name = t; ino = ino } ∷ B) is_name

  -- an entry is added to those around it
  pub added : (ino : Ino) → add (record { dir = dir; name = name; ino = ino }) (F ++ B) ≡ F ++ record { dir = dir; name = name; ino = ino } ∷ B
  added ino =
      let e : Entry = record { dir = dir; name = name; ino = ino } in
      let ahead = all_entries (λ x. precedes x e ≡ true) (λ d i h. h) s front around.ahead in
      let behind = all_entries (λ x. precedes e x ≡ true) (λ d i h. h) s back around.behind in
      add_behind e F B ahead ∙ ap (λ xs. F ++ xs) (add_first e B behind)

  -- or taken out
  pub taken_none : without dir name (F ++ B) ≡ F ++ B
  taken_none = without_skips root F B f_elsewhere ∙ ap (λ xs. F ++ xs) (without_none root B b_elsewhere)

  one_taken : (e : Entry) → is_at dir name e ≡ true → without dir name (F ++ e ∷ B) ≡ F ++ B
  one_taken e here = without_skips root F (e ∷ B) f_elsewhere ∙ rw here (ap (λ xs. F ++ xs) (without_none root B b_elsewhere))

  taken : (d : Dentry) (found : Option Ino) → has_name dir name d ≡ true → ino_at s d.versions ≡ found → without dir name (entries_in s (front ++ d ∷ back)) ≡ F ++ B
  taken d None here is = ap (without dir name) (entries_with_none d is) ∙ taken_none
  taken d (Some ino) here is =
      ap (without dir name) (entries_with d ∙ ap (λ o. F ++ cons_option (option_map (entry_of d) o) B) is) ∙ one_taken (entry_of d ino) here

  pub taken_out : (d : Dentry) → has_name dir name d ≡ true → without dir name (entries_in s (front ++ d ∷ back)) ≡ F ++ B
  taken_out d here = taken d (ino_at s d.versions) here refl

  -- nothing of the name is found where there is no dentry between
  pub lookup_around : lookup (F ++ B) dir name ≡ None
  lookup_around = lookup_skips root F B f_elsewhere ∙ lookup_misses root B b_elsewhere

-- the list is in order with a dentry between
pub in_order_with : (dir : Ino) (name : List ℕ) (front back : List Dentry) (d : Dentry) → Around dir name front back → d.dir ≡ dir → d.name ≡ name → IsInOrder (front ++ back) → IsInOrder (front ++ d ∷ back)
in_order_with dir name [] back d around is_dir is_name order = (
  subst (λ (t : Ino). AllByRecursion (λ (w : Dentry). precedes (record { dir = t; name = d.name; ino = ROOT }) (entry_of w ROOT) ≡ true) back) (sym is_dir)
      (subst (λ (t : List ℕ). AllByRecursion (λ (w : Dentry). precedes (record { dir = dir; name = t; ino = ROOT }) (entry_of w ROOT) ≡ true) back) (sym is_name) around.behind),
  order,
)
in_order_with dir name (v ∷ front) back d around is_dir is_name order =
    let ahead : IsBefore v d =
    subst (λ (t : Ino). precedes (entry_of v ROOT) (record { dir = t; name = d.name; ino = ROOT }) ≡ true) (sym is_dir)
    (subst (λ (t : List ℕ). precedes (entry_of v ROOT) (record { dir = dir; name = t; ino = ROOT }) ≡ true) (sym is_name) around.ahead.0) in (
      all_inserted (IsBefore v) front d back ahead order.0,
      in_order_with dir name front back d (record { ahead = around.ahead.1; behind = around.behind }) is_dir is_name order.1,
    )

-- what holds of all with one between holds of those around
pub all_removed : {X : Type 0} (P : X → Type 0) (front : List X) (x : X) (back : List X) → AllByRecursion P (front ++ x ∷ back) → AllByRecursion P (front ++ back)
all_removed P [] x back all = all.1
all_removed P (y ∷ front) x back all = (all.0, all_removed P front x back all.1)

pub all_middle : {X : Type 0} (P : X → Type 0) (front : List X) (x : X) (back : List X) → AllByRecursion P (front ++ x ∷ back) → P x
all_middle P [] x back all = all.0
all_middle P (y ∷ front) x back all = all_middle P front x back all.1

pub in_order_removed : (front : List Dentry) (d : Dentry) (back : List Dentry) → IsInOrder (front ++ d ∷ back) → IsInOrder (front ++ back)
in_order_removed [] d back order = order.1
in_order_removed (v ∷ front) d back order = (all_removed (IsBefore v) front d back order.0, in_order_removed front d back order.1)

-- what is in order behind a dentry
in_order_behind : (front : List Dentry) (d : Dentry) (back : List Dentry) → IsInOrder (front ++ d ∷ back) → AllByRecursion (IsBefore d) back
in_order_behind [] d back order = order.0
in_order_behind (v ∷ front) d back order = in_order_behind front d back order.1

-- how many versions there are with a dentry between
pub total-with : (front : List Dentry) (d : Dentry) (back : List Dentry) → total (front ++ d ∷ back) ≡ length d.versions + total (front ++ back)
total-with [] d back = sum_by-cons (λ (e : Dentry). length e.versions) d back
total-with (v ∷ front) d back =
    let rest : total (front ++ d ∷ back) ≡ length d.versions + total (front ++ back) = total-with front d back in
    omega (arith, rest, sum_by-cons (λ (e : Dentry). length e.versions) v (front ++ d ∷ back), sum_by-cons (λ (e : Dentry). length e.versions) v (front ++ back))

pub newest_in-nil : newest_in [] ≡ 0
unfolding newest_in
newest_in-nil = refl

pub newest_in-cons : (d : Dentry) (ds : List Dentry) → newest_in (d ∷ ds) ≡ max (newest_of d.versions) (newest_in ds)
unfolding newest_in
newest_in-cons d ds = refl

-- and when the last of them began or ended
pub newest-with : (front : List Dentry) (d : Dentry) (back : List Dentry) → newest_in (front ++ d ∷ back) ≡ max (newest_of d.versions) (newest_in (front ++ back))
newest-with [] d back = newest_in-cons d back
newest-with (v ∷ front) d back =
    let rest : newest_in (front ++ d ∷ back) ≡ max (newest_of d.versions) (newest_in (front ++ back)) = newest-with front d back in
    omega (arith, rest, newest_in-cons v (front ++ d ∷ back), newest_in-cons v (front ++ back))

-- the dentries around the place of a name that isn't there
all_other : (e : Entry) (back : List Dentry) → IsInOrder back → AllByRecursion (λ d. precedes (entry_of d ROOT) e ≡ false) back → (here : Option Dentry) → slice_get back 0 ≡ here → ((d : Dentry) → here ≡ Some d → is_at e.dir e.name (entry_of d ROOT) ≡ false) → AllByRecursion (λ d. precedes e (entry_of d ROOT) ≡ true) back
all_other e [] order not_before here is other = tt
all_other e (d ∷ ds) order not_before here is other =
    (precedes_other e (entry_of d ROOT) not_before.0 (other d (sym is)), all_behind e d ds not_before.0 order.0)

pub around_free : (dir : Ino) (name : List ℕ) (ds : List Dentry) (place : ℕ) → IsInOrder (drop place ds) → IsPlace dir name ds place → slice_get ds place ≡ slice_get (drop place ds) 0 → ((d : Dentry) → slice_get ds place ≡ Some d → has_name dir name d ≡ false) → Around dir name (take place ds) (drop place ds)
around_free dir name ds place order at same other = record {
  ahead = at.before;
  behind = all_other (record { dir = dir; name = name; ino = ROOT }) (drop place ds) order at.behind (slice_get ds place) (sym same) other;
}

-- the dentries around one that has the name
pub around_it : (dir : Ino) (name : List ℕ) (front : List Dentry) (d : Dentry) (back : List Dentry) → IsInOrder (front ++ d ∷ back) → AllByRecursion (λ d. precedes (entry_of d ROOT) (record { dir = dir; name = name; ino = ROOT }) ≡ true) front → precedes (entry_of d ROOT) (record { dir = dir; name = name; ino = ROOT }) ≡ false → Around dir name front back
around_it dir name front d back order ahead not_before = record {
  ahead = ahead;
  behind = all_behind (record { dir = dir; name = name; ino = ROOT }) d back not_before (in_order_behind front d back order);
}

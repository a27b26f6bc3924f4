-- What the entries of dentries at an id are, and what a name has among them.
use Rattle.std.proofs.Common.{◌≡◌, ℕ, Bool, true, false, cond, List, [], ◌∷◌, ◌++◌, take, drop, slice_get, Option, None, Some, refl, sym, ◌∙◌, ap}
use Rattle.std.specs.List.{AllByRecursion, cons_option}
use Rattle.std.specs.Option.{option_map}
use Rattle.std.proofs.lemmas.List.{take-append-drop}
use Rattle.std.proofs.lemmas.List.Elements.{filter_map-append}
use Rattle.snap_ids.specs.declared.id.Ino.{Ino}
use Rattle.snap_ids.specs.declared.id.SnapId.{SnapId}
use Rattle.snap_ids.specs.declared.id.TheConstants.{ROOT}
use Rattle.plain_tree.specs.State.{Entry, is_at, lookup, precedes, add}
use Rattle.plain_tree.specs.Change.{without}
use Rattle.dentry_tree.specs.Dentries.{Dentry, entry_of, ino_at, entry_at, entries_in, IsInOrder}
use Rattle.dentry_tree.specs.Places.{IsPlace, found_at, has_name}
use Rattle.dentry_tree.proofs.Lists.{all_weaker, slice_get-drop}
use Rattle.dentry_tree.proofs.Order.{elsewhere_before, elsewhere_behind, precedes_back, all_behind, in_order_drop}

-- no dentry, no entry
pub entries_in-nil : (s : SnapId) → entries_in s [] ≡ []
unfolding entries_in
entries_in-nil s = refl

-- one more dentry
pub entries_in-cons : (s : SnapId) (d : Dentry) (ds : List Dentry) → entries_in s (d ∷ ds) ≡ cons_option (entry_at s d) (entries_in s ds)
unfolding entries_in
entries_in-cons s d ds = refl

pub entries_in-append : (s : SnapId) (ds es : List Dentry) → entries_in s (ds ++ es) ≡ entries_in s ds ++ entries_in s es
unfolding entries_in
entries_in-append s ds es = filter_map-append (entry_at s) ds es

-- a fact of each dentry's place holds of each entry
module _ (P : Entry → Type 0) (same : (d : Dentry) (ino : Ino) → P (entry_of d ROOT) → P (entry_of d ino)) where
  one_of : (d : Dentry) (found : Option Ino) (es : List Entry) → P (entry_of d ROOT) → AllByRecursion P es → AllByRecursion P (cons_option (option_map (entry_of d) found) es)
  one_of d None es here all = all
  one_of d (Some ino) es here all = (same d ino here, all)

  pub all_entries : (s : SnapId) (ds : List Dentry) → AllByRecursion (λ d. P (entry_of d ROOT)) ds → AllByRecursion P (entries_in s ds)
  all_entries s [] all = rw (entries_in-nil s) tt
  all_entries s (d ∷ ds) all = rw (entries_in-cons s d ds) (one_of d (ino_at s d.versions) (entries_in s ds) all.0 (all_entries s ds all.1))

-- the entry doesn't have the name of another
abbrev pub IsElsewhere : Entry → Entry → Type 0
IsElsewhere e x = is_at e.dir e.name x ≡ false

module _ (e : Entry) where
  -- entries of other names are passed over
  pub lookup_skips : (front back : List Entry) → AllByRecursion (IsElsewhere e) front → lookup (front ++ back) e.dir e.name ≡ lookup back e.dir e.name
  lookup_skips [] back elsewhere = refl
  lookup_skips (x ∷ front) back elsewhere = rw elsewhere.0 (lookup_skips front back elsewhere.1)

  -- and nothing is found where there is no other
  pub lookup_misses : (xs : List Entry) → AllByRecursion (IsElsewhere e) xs → lookup xs e.dir e.name ≡ None
  lookup_misses [] elsewhere = refl
  lookup_misses (x ∷ xs) elsewhere = rw elsewhere.0 (lookup_misses xs elsewhere.1)

  -- they stay where the name is taken out
  pub without_skips : (front back : List Entry) → AllByRecursion (IsElsewhere e) front → without e.dir e.name (front ++ back) ≡ front ++ without e.dir e.name back
  without_skips [] back elsewhere = refl
  without_skips (x ∷ front) back elsewhere = rw elsewhere.0 (ap (λ xs. x ∷ xs) (without_skips front back elsewhere.1))

  pub without_none : (xs : List Entry) → AllByRecursion (IsElsewhere e) xs → without e.dir e.name xs ≡ xs
  without_none [] elsewhere = refl
  without_none (x ∷ xs) elsewhere = rw elsewhere.0 (ap (λ xs. x ∷ xs) (without_none xs elsewhere.1))

  -- an entry is added behind what stands before it
  pub add_behind : (front back : List Entry) → AllByRecursion (λ x. precedes x e ≡ true) front → add e (front ++ back) ≡ front ++ add e back
  add_behind [] back ahead = refl
  add_behind (x ∷ front) back ahead = rw (precedes_back x e ahead.0) (ap (λ xs. x ∷ xs) (add_behind front back ahead.1))

  -- and in front of what stands behind it
  pub add_first : (back : List Entry) → AllByRecursion (λ x. precedes e x ≡ true) back → add e back ≡ e ∷ back
  add_first [] behind = refl
  add_first (x ∷ back) behind = rw behind.0 refl

  -- the dentry isn't that of the name
  abbrev IsOther : Dentry → Type 0
  IsOther d = is_at e.dir e.name (entry_of d ROOT) ≡ false

  pub other_entries : (s : SnapId) (ds : List Dentry) → AllByRecursion IsOther ds → AllByRecursion (IsElsewhere e) (entries_in s ds)
  other_entries s ds all = all_entries (IsElsewhere e) (λ d ino other. other) s ds all

  pub ahead_other : (ds : List Dentry) → AllByRecursion (λ d. precedes (entry_of d ROOT) e ≡ true) ds → AllByRecursion IsOther ds
  ahead_other ds all = all_weaker (λ d. precedes (entry_of d ROOT) e ≡ true) IsOther (λ d before. elsewhere_before (entry_of d ROOT) e before) ds all

  pub behind_other : (ds : List Dentry) → AllByRecursion (λ d. precedes e (entry_of d ROOT) ≡ true) ds → AllByRecursion IsOther ds
  behind_other ds all = all_weaker (λ d. precedes e (entry_of d ROOT) ≡ true) IsOther (λ d behind. elsewhere_behind (entry_of d ROOT) e behind) ds all

  -- the first dentry alone decides, if all behind it are of other names
  first_decides : (here : Bool) (d : Dentry) (found : Option Ino) (es : List Entry) → is_at e.dir e.name (entry_of d ROOT) ≡ here → AllByRecursion (IsElsewhere e) es → lookup (cons_option (option_map (entry_of d) found) es) e.dir e.name ≡ cond here found None
  first_decides true d None es is elsewhere = lookup_misses es elsewhere
  first_decides true d (Some ino) es is elsewhere = rw is refl
  first_decides false d None es is elsewhere = lookup_misses es elsewhere
  first_decides false d (Some ino) es is elsewhere = rw is (lookup_misses es elsewhere)

  lookup_behind : (s : SnapId) (back : List Dentry) → IsInOrder back → AllByRecursion (λ d. precedes (entry_of d ROOT) e ≡ false) back → lookup (entries_in s back) e.dir e.name ≡ found_at s e.dir e.name (slice_get back 0)
  lookup_behind s [] order not_before = rw (entries_in-nil s) refl
  lookup_behind s (d ∷ ds) order not_before =
      let elsewhere = other_entries s ds (behind_other ds (all_behind e d ds not_before.0 order.0)) in
      rw (entries_in-cons s d ds) (first_decides (has_name e.dir e.name d) d (ino_at s d.versions) (entries_in s ds) refl elsewhere)

  -- what an entry's name has is what stands at its place
  lookup_at_place : (s : SnapId) (ds : List Dentry) (place : ℕ) → IsInOrder ds → IsPlace e.dir e.name ds place → lookup (entries_in s ds) e.dir e.name ≡ found_at s e.dir e.name (slice_get ds place)
  lookup_at_place s ds place order at =
      ap (λ xs. lookup (entries_in s xs) e.dir e.name) (sym (take-append-drop place ds))
      ∙ ap (λ xs. lookup xs e.dir e.name) (entries_in-append s (take place ds) (drop place ds))
      ∙ lookup_skips (entries_in s (take place ds)) (entries_in s (drop place ds)) (other_entries s (take place ds) (ahead_other (take place ds) at.before))
      ∙ lookup_behind s (drop place ds) (in_order_drop ds place order) at.behind
      ∙ ap (found_at s e.dir e.name) (sym (slice_get-drop ds place))

-- what a name of a directory has is what stands at its place
pub lookup_found : (s : SnapId) (dir : Ino) (name : List ℕ) (ds : List Dentry) (place : ℕ) → IsInOrder ds → IsPlace dir name ds place → found_at s dir name (slice_get ds place) ≡ lookup (entries_in s ds) dir name
lookup_found s dir name ds place order at =
    let entry : Entry = record { dir = dir; name = name; ino = ROOT } in sym (lookup_at_place entry s ds place order at)

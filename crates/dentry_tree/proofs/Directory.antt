-- The dentries of one directory in an ordered list, and what they list.
use Rattle.std.proofs.Common.{◌≡◌, ℕ, ◌≤◌, Bool, true, false, cond, List, [], ◌∷◌, ◌++◌, take, drop, nat_lt, nat_le, Option, None, Some, refl, sym, ◌∙◌, ap, subst, arith}
use Rattle.std.specs.List.{AllByRecursion, filter, filter_map, cons_option, list_any}
use Rattle.std.specs.Option.{option_map}
use Rattle.std.proofs.lemmas.List.{take-append-drop, append-nil}
use Rattle.std.proofs.lemmas.List.Elements.{filter-append}
use Rattle.std.proofs.lemmas.Bool.Decides.{nat_tests}
use Rattle.snap_ids.specs.declared.id.Ino.{Ino}
use Rattle.snap_ids.specs.declared.id.SnapId.{SnapId}
use Rattle.snap_ids.specs.declared.id.TheConstants.{ROOT}
use Rattle.snap_ids.specs.declared.values.Kind.{Kind}
use Rattle.plain_tree.specs.State.{Entry, precedes, listing, same_ino}
use Rattle.dentry_tree.specs.Dentries.{Dentry, entry_of, ino_at, entries_in, IsBefore}
use Rattle.dentry_tree.specs.Places.{is_in, item_at, is_found_at}
use Rattle.dentry_tree.proofs.Lists.{all_weaker, all_take, all_both}
use Rattle.dentry_tree.proofs.Entries.{entries_in-nil, entries_in-cons}

-- the directories of an ordered list don't fall
directory_le : (a b : Entry) → precedes a b ≡ true → a.dir.0 ≤ b.dir.0
directory_le a b before = grind (arith, nat_tests)

-- what stands before a dentry of a lower directory has a lower one too
pub below_before : (dir : Ino) (v w : Dentry) → IsBefore v w → nat_lt w.dir.0 dir.0 ≡ true → nat_lt v.dir.0 dir.0 ≡ true
below_before dir v w before below = grind (arith, nat_tests, directory_le (entry_of v ROOT) (entry_of w ROOT) before)

-- and what stands before one of a directory that is no higher
pub upto_before : (dir : Ino) (v w : Dentry) → IsBefore v w → nat_le w.dir.0 dir.0 ≡ true → nat_le v.dir.0 dir.0 ≡ true
upto_before dir v w before upto = grind (arith, nat_tests, directory_le (entry_of v ROOT) (entry_of w ROOT) before)

-- a test that no dentry passes keeps none
filter_none : (p : Dentry → Bool) (vs : List Dentry) → AllByRecursion (λ v. p v ≡ false) vs → filter p vs ≡ []
filter_none p [] none = refl
filter_none p (v ∷ vs) none = rw none.0 (filter_none p vs none.1)

-- a test that all pass keeps all
filter_all : (p : Dentry → Bool) (vs : List Dentry) → AllByRecursion (λ v. p v ≡ true) vs → filter p vs ≡ vs
filter_all p [] all = refl
filter_all p (v ∷ vs) all = rw all.0 (ap (λ ws. v ∷ ws) (filter_all p vs all.1))

module _ (dir : Ino) where
  -- the dentry's directory is a lower one
  abbrev is_below : Dentry → Bool
  is_below v = nat_lt v.dir.0 dir.0

  -- the dentry's directory is no higher
  abbrev is_upto : Dentry → Bool
  is_upto v = nat_le v.dir.0 dir.0

  -- no dentry of a lower directory is in this one
  below_out : (v : Dentry) → is_below v ≡ true → is_in dir v ≡ false
  below_out v below = grind (arith, nat_tests)

  -- nor is one of a higher directory
  above_out : (v : Dentry) → is_upto v ≡ false → is_in dir v ≡ false
  above_out v above = grind (arith, nat_tests)

  -- what is neither is in it
  between_in : (v : Dentry) → is_below v ≡ false → is_upto v ≡ true → is_in dir v ≡ true
  between_in v not_below upto = grind (arith, nat_tests)

  -- a directory's dentries are those between the lower and the higher ones
  filter_between : (front run back : List Dentry) → AllByRecursion (λ v. is_below v ≡ true) front → AllByRecursion (λ v. is_in dir v ≡ true) run → AllByRecursion (λ v. is_upto v ≡ false) back → filter (is_in dir) (front ++ (run ++ back)) ≡ run
  filter_between front run back below here above =
      rw (
        filter-append (is_in dir) front (run ++ back),
        filter-append (is_in dir) run back,
        filter_none (is_in dir) front (all_weaker (λ v. is_below v ≡ true) (λ v. is_in dir v ≡ false) below_out front below),
        filter_none (is_in dir) back (all_weaker (λ v. is_upto v ≡ false) (λ v. is_in dir v ≡ false) above_out back above),
        filter_all (is_in dir) run here,
      ) (append-nil run)

  -- those that two searches leave are a directory's
  pub filter_run : (dentries rest : List Dentry) (from count : ℕ) → rest ≡ drop from dentries → AllByRecursion (λ v. nat_lt v.dir.0 dir.0 ≡ true) (take from dentries) → AllByRecursion (λ v. nat_lt v.dir.0 dir.0 ≡ false) (drop from dentries) → AllByRecursion (λ v. nat_le v.dir.0 dir.0 ≡ true) (take count rest) → AllByRecursion (λ v. nat_le v.dir.0 dir.0 ≡ false) (drop count rest) → take count rest ≡ filter (is_in dir) dentries
  filter_run dentries rest from count is_rest below not_below upto above =
      let front = take from dentries in
      let run = take count rest in
      let run_not_below = all_take (λ v. is_below v ≡ false) rest count (subst (AllByRecursion (λ v. is_below v ≡ false)) (sym is_rest) not_below) in
      let here = all_both (λ v. is_below v ≡ false) (λ v. is_upto v ≡ true) (λ v. is_in dir v ≡ true) between_in run run_not_below upto in
      let parted : front ++ (run ++ drop count rest) ≡ dentries = ap (λ vs. front ++ vs) (take-append-drop count rest ∙ is_rest) ∙ take-append-drop from dentries in
      sym (ap (filter (is_in dir)) (sym parted) ∙ filter_between front run (drop count rest) below here above)

-- what holds of all holds of those that pass a test
one_of : {X : Type 0} (P : X → Type 0) (x : X) (xs : List X) (passes : Bool) → P x → AllByRecursion P xs → AllByRecursion P (cond passes (x ∷ xs) xs)
one_of P x xs true here all = (here, all)
one_of P x xs false here all = all

pub all_filter : {X : Type 0} (P : X → Type 0) (p : X → Bool) (xs : List X) → AllByRecursion P xs → AllByRecursion P (filter p xs)
all_filter P p [] all = tt
all_filter P p (x ∷ xs) all = one_of P x (filter p xs) (p x) all.0 (all_filter P p xs all.1)

module _ (s : SnapId) (kind : Ino → Kind) (dir : Ino) where
  -- one more dentry, in the directory or not, with an inode or not
  listing_more : (here : Bool) (found : Option Ino) (d : Dentry) (ds : List Dentry) → is_in dir d ≡ here → ino_at s d.versions ≡ found → filter_map (item_at s kind) (filter (is_in dir) ds) ≡ listing kind (entries_in s ds) dir → filter_map (item_at s kind) (cond here (d ∷ filter (is_in dir) ds) (filter (is_in dir) ds)) ≡ listing kind (cons_option (option_map (entry_of d) found) (entries_in s ds)) dir
  listing_more true None d ds is_here is rest = rw is rest
  listing_more true (Some ino) d ds is_here is rest = rw (is, is_here) (ap (λ items. (d.name, kind ino) ∷ items) rest)
  listing_more false None d ds is_here is rest = rest
  listing_more false (Some ino) d ds is_here is rest = rw is_here rest

  -- what the dentries of a directory list at an id is what its entries do
  pub listing_items : (ds : List Dentry) → filter_map (item_at s kind) (filter (is_in dir) ds) ≡ listing kind (entries_in s ds) dir
  listing_items [] = rw (entries_in-nil s) refl
  listing_items (d ∷ ds) = listing_more (is_in dir d) (ino_at s d.versions) d ds refl refl (listing_items ds) ∙ ap (λ es. listing kind es dir) (sym (entries_in-cons s d ds))

-- the entry is one of the directory
abbrev pub is_of : Ino → Entry → Bool
is_of dir entry = same_ino entry.dir dir

module _ (s : SnapId) (dir : Ino) where
  -- one more dentry, in the directory or not, with an inode or not
  some_more : (here : Bool) (found : Option Ino) (d : Dentry) (ds : List Dentry) → is_in dir d ≡ here → ino_at s d.versions ≡ found → list_any (is_found_at s) (filter (is_in dir) ds) ≡ list_any (is_of dir) (entries_in s ds) → list_any (is_found_at s) (cond here (d ∷ filter (is_in dir) ds) (filter (is_in dir) ds)) ≡ list_any (is_of dir) (cons_option (option_map (entry_of d) found) (entries_in s ds))
  some_more true None d ds is_here is rest = rw is rest
  some_more true (Some ino) d ds is_here is rest = rw (is, is_here) refl
  some_more false None d ds is_here is rest = rest
  some_more false (Some ino) d ds is_here is rest = rw is_here rest

  -- a name of the directory has an inode at an id exactly where an entry is one of the directory
  pub some_entries : (ds : List Dentry) → list_any (is_found_at s) (filter (is_in dir) ds) ≡ list_any (is_of dir) (entries_in s ds)
  some_entries [] = rw (entries_in-nil s) refl
  some_entries (d ∷ ds) = some_more (is_in dir d) (ino_at s d.versions) d ds refl refl (some_entries ds) ∙ ap (list_any (is_of dir)) (sym (entries_in-cons s d ds))

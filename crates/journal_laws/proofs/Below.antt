-- Entries name inodes that were made: their numbers are below the next one.
use Rattle.std.proofs.Common.{◌≡◌, ℕ, ◌+◌, ◌-◌, ◌<◌, ◌≤◌, List, [], ◌∷◌, ◌++◌, length, Bool, true, false, cond, Option, None, Some, refl, ap, subst, arith, length-append}
use Rattle.std.proofs.lemmas.List.{length-map}
use Rattle.std.proofs.lemmas.Bool.{eqb-true}
use Rattle.std.proofs.lemmas.Bool.Decides.{nat_tests}
use Rattle.std.specs.Prelude.{not, ◌&&◌, ◌||◌, ◌==◌, if◌then◌else◌}
use Rattle.std.specs.List.{list_any}
use Rattle.snap_ids.specs.declared.id.Ino.{Ino}
use Rattle.snap_ids.specs.declared.id.TheConstants.{ROOT, FIRST_INO}
use Rattle.snap_ids.specs.declared.values.Kind.{Kind}
use Rattle.snap_ids.specs.declared.values.Kind.TheVariants.{Dir, File}
use Rattle.plain_types.specs.declared.change.Change.{Change}
use Rattle.plain_types.specs.declared.change.Change.TheVariants as change
use Rattle.plain_tree.specs.State.{new_directory, State, Entry, Handle, Inode, same_ino, is_there, lookup, is_at, add, precedes, next_ino, kind_in}
use Rattle.plain_tree.specs.Change.{new_file, entry, without, renamed, is_refused, make, open_of, with_bytes, with_mode}
use Rattle.plain_tree.specs.Bytes.{sized, written}
use Rattle.journal_laws.proofs.Named.{count}

-- each entry names an inode below a number
abbrev pub AllBelow : ℕ → List Entry → Type 0
AllBelow n [] = Unit {0}
AllBelow n (e ∷ entries) = (e.ino.0 < n) × AllBelow n entries

below_more : (n m : ℕ) (entries : List Entry) → n ≤ m → AllBelow n entries → AllBelow m entries
below_more n m [] upto all = tt
below_more n m (e ∷ entries) upto all = (omega (arith, all.0, upto), below_more n m entries upto all.1)

below_add : (n : ℕ) (new : Entry) (entries : List Entry) → new.ino.0 < n → AllBelow n entries → AllBelow n (add new entries)
below_add n new [] is all = (is, tt)
below_add n new (e ∷ entries) is all = by_test (precedes new e) (below_add n new entries is all.1)
  where
    by_test : (b : Bool) → AllBelow n (add new entries) → AllBelow n (if b then new ∷ e ∷ entries else e ∷ add new entries)
    by_test true rest = (is, all)
    by_test false rest = (all.0, rest)

below_without : (n : ℕ) (dir : Ino) (name : List ℕ) (entries : List Entry) → AllBelow n entries → AllBelow n (without dir name entries)
below_without n dir name [] all = tt
below_without n dir name (e ∷ entries) all = by_test (is_at dir name e) (below_without n dir name entries all.1)
  where
    by_test : (b : Bool) → AllBelow n (without dir name entries) → AllBelow n (cond (not b) (e ∷ without dir name entries) (without dir name entries))
    by_test true rest = rest
    by_test false rest = (all.0, rest)

-- what a name has is below it
below_named : (n : ℕ) (dir : Ino) (name : List ℕ) (entries : List Entry) (ino : Ino) → lookup entries dir name ≡ Some ino → AllBelow n entries → ino.0 < n
below_named n dir name [] ino found all = cc
below_named n dir name (e ∷ entries) ino found all = by_test (is_at dir name e) found (λ later. below_named n dir name entries ino later all.1)
  where
    by_test : (b : Bool) → (if b then Some e.ino else lookup entries dir name) ≡ Some ino → (lookup entries dir name ≡ Some ino → ino.0 < n) → ino.0 < n
    by_test true is later = let same : e.ino ≡ ino = cc in subst (λ (x : Ino). x.0 < n) same all.0
    by_test false is later = later is

-- so is what some entry names
below_any : (n : ℕ) (entries : List Entry) (x : Ino) → list_any (λ (e : Entry). same_ino e.ino x) entries ≡ true → AllBelow n entries → x.0 < n
below_any n [] x any all = cc
below_any n (e ∷ entries) x any all = by_test (same_ino e.ino x) refl any (λ later. below_any n entries x later all.1)
  where
    by_test : (b : Bool) → same_ino e.ino x ≡ b → (b || list_any (λ (y : Entry). same_ino y.ino x) entries) ≡ true → (list_any (λ (y : Entry). same_ino y.ino x) entries ≡ true → x.0 < n) → x.0 < n
    by_test true same is later = let eq : e.ino.0 ≡ x.0 = eqb-true e.ino.0 x.0 same in omega (arith, eq, all.0)
    by_test false same is later = later is

-- what is there is below it, and so is the root
pub below_there : (n : ℕ) (entries : List Entry) (x : Ino) → is_there entries x ≡ true → ROOT.0 < n → AllBelow n entries → x.0 < n
below_there n entries x there root all = by_test (same_ino x ROOT) refl there
  where
    by_test : (b : Bool) → same_ino x ROOT ≡ b → (b || list_any (λ (e : Entry). same_ino e.ino x) entries) ≡ true → x.0 < n
    by_test true same is = let eq : x.0 ≡ ROOT.0 = eqb-true x.0 ROOT.0 same in omega (arith, eq, root)
    by_test false same is = below_any n entries x is all

-- what isn't below it has no name
pub unnamed : (n : ℕ) (entries : List Entry) (x : Ino) → n ≤ x.0 → AllBelow n entries → count entries x ≡ 0
unnamed n [] x above all = refl
unnamed n (e ∷ entries) x above all =
    let other : same_ino e.ino x ≡ false = differ e.ino.0 x.0 all.0 above in
    rw other (unnamed n entries x above all.1)
  where
    differ : (a b : ℕ) → a < n → n ≤ b → (a == b) ≡ false
    differ a b below from = let less : a < b = omega (arith, below, from) in grind (arith, nat_tests)

-- a state has an inode, and each of its entries names one that was made
pub record IsNumbered (state : State) : Type 0 where
  pub some : 0 < length state.inodes
  pub below : AllBelow (next_ino state).0 state.entries

-- a new inode has the next number
abbrev pub HasNext : State → Change → Type 0
HasNext state (change.Mkdir dir name ino) = ino ≡ next_ino state
HasNext state (change.Create dir name ino mode) = ino ≡ next_ino state
HasNext state made = Unit {0}

root_below : (state : State) → ROOT.0 < (next_ino state).0
root_below state = omega arith

length-push : {A : Type 0} (xs : List A) (x : A) → length (xs ++ x ∷ []) ≡ length xs + 1
length-push xs x = length-append xs (x ∷ [])

module _ (state : State) (client : ℕ) (all : IsNumbered state) where
  abbrev n : ℕ
  n = (next_ino state).0

  -- one more inode
  grown : (inode : Inode) → n ≤ FIRST_INO.0 + (length (state.inodes ++ inode ∷ []) - 1)
  grown inode = omega (arith, length-push state.inodes inode)

  new_one : (dir : Ino) (name : List ℕ) (ino : Ino) (inode : Inode) → ino ≡ next_ino state → AllBelow (FIRST_INO.0 + (length (state.inodes ++ inode ∷ []) - 1)) (add (entry dir name ino) state.entries)
  new_one dir name ino inode is =
      let number : ino.0 ≡ n = ap (λ (x : Ino). x.0) is in
      below_add _ (entry dir name ino) state.entries (omega (arith, number, length-push state.inodes inode, all.some)) (below_more n _ state.entries (grown inode) all.below)

  moved : (found : Option Ino) (dir : Ino) (name : List ℕ) (to_dir : Ino) (to_name : List ℕ) → lookup state.entries dir name ≡ found → AllBelow n (renamed found dir name to_dir to_name state.entries)
  moved None dir name to_dir to_name is = all.below
  moved (Some ino) dir name to_dir to_name is =
      below_add n (entry to_dir to_name ino) (without dir name state.entries) (below_named n dir name state.entries ino is all.below) (below_without n dir name state.entries all.below)

  as_many : (inodes : List Inode) → length inodes ≡ length state.inodes → AllBelow (FIRST_INO.0 + (length inodes - 1)) state.entries
  as_many inodes same = below_more n _ state.entries (omega (arith, same)) all.below

  with_bytes-length : (opened : Option Handle) (made : List ℕ → List ℕ) → length (with_bytes opened made state.inodes) ≡ length state.inodes
  with_bytes-length None made = refl
  with_bytes-length (Some handle) made = length-map state.inodes _

  pushed : (inode : Inode) → 0 < length (state.inodes ++ inode ∷ [])
  pushed inode = omega (arith, length-push state.inodes inode)

  -- so it stays after a change that isn't refused
  pub numbered_made : (made : Change) → HasNext state made → is_refused state client made ≡ false → IsNumbered (make state client made)
  numbered_made (change.Mkdir dir name ino) next fine = record { some = pushed (new_directory ino); below = new_one dir name ino (new_directory ino) next }
  numbered_made (change.Create dir name ino mode) next fine = record { some = pushed (new_file ino mode); below = new_one dir name ino (new_file ino mode) next }
  numbered_made (change.Link ino dir name) next fine =
      record { some = all.some; below = below_add n (entry dir name ino) state.entries (below_there n state.entries ino (linked (kind_in state.inodes ino) (is_there state.entries ino) refl _ fine) (root_below state) all.below) all.below }
    where
      linked : (k : Kind) (there : Bool) → is_there state.entries ino ≡ there → (free : Bool) → not ((elim k [ Dir ↦ false | File ↦ there ]) && free) ≡ false → is_there state.entries ino ≡ true
      linked Dir there is free fine = cc
      linked File true is free fine = is
      linked File false is free fine = cc
  numbered_made (change.Unlink dir name) next fine = record { some = all.some; below = below_without n dir name state.entries all.below }
  numbered_made (change.Rmdir dir name) next fine = record { some = all.some; below = below_without n dir name state.entries all.below }
  numbered_made (change.Rename dir name to_dir to_name) next fine = record { some = all.some; below = moved (lookup state.entries dir name) dir name to_dir to_name refl }
  numbered_made (change.Chmod ino mode) next fine = record { some = omega (arith, all.some, length-map state.inodes (λ (inode : Inode). record inode { mode = if same_ino inode.ino ino then mode else inode.mode })); below = as_many (with_mode ino mode state.inodes) (length-map state.inodes _) }
  numbered_made (change.OpenFile handle ino writable) next fine = record { some = all.some; below = all.below }
  numbered_made (change.CloseFile handle) next fine = record { some = all.some; below = all.below }
  numbered_made (change.Mksnap id dir name) next fine = record { some = all.some; below = all.below }
  numbered_made (change.Rmsnap id) next fine = record { some = all.some; below = all.below }
  numbered_made (change.WriteFile handle offset bytes) next fine =
      record { some = omega (arith, all.some, with_bytes-length (open_of state.handles client handle) (written offset bytes)); below = as_many (with_bytes (open_of state.handles client handle) (written offset bytes) state.inodes) (with_bytes-length (open_of state.handles client handle) (written offset bytes)) }
  numbered_made (change.Truncate handle size) next fine =
      record { some = omega (arith, all.some, with_bytes-length (open_of state.handles client handle) (sized size)); below = as_many (with_bytes (open_of state.handles client handle) (sized size) state.inodes) (with_bytes-length (open_of state.handles client handle) (sized size)) }

-- The order of the holdings, and what keeps a list of them a table.
use Rattle.std.proofs.Common.{◌≡◌, ℕ, zero, suc, Bool, true, false, List, [], ◌∷◌, ◌++◌, drop, map, get_or, refl, arith}
use Rattle.std.specs.List.{AllByRecursion, filter}
use Rattle.std.specs.List.Sorted.{IsPartitionedBy}
use Rattle.std.proofs.lemmas.Bool.Decides.{nat_tests}
use Rattle.std.proofs.lemmas.List.Elements.{All-from_recursion}
use Rattle.snap_ids.specs.declared.id.Ino.{Ino}
use Rattle.cap_state.specs.Table.{Holding, is_at, stands_before, stands_behind, clash, MayPrecede, IsTable, with_holding}
use Rattle.cap_state.specs.Places.{IsApart}
use Rattle.cap_state.proofs.Lists.{all_weaker, all_join, all_filter, filter_none}

module _ (client : ℕ) (ino : Ino) (h : Holding) where
  -- a holding stands before the client's of the file, at it, or behind it
  pub before_off : stands_before client ino h ≡ true → is_at client ino h ≡ false
  before_off is = grind (arith, nat_tests)

  pub behind_off : stands_behind client ino h ≡ true → is_at client ino h ≡ false
  behind_off is = grind (arith, nat_tests)

  pub before_not_behind : stands_before client ino h ≡ true → stands_behind client ino h ≡ false
  before_not_behind is = grind (arith, nat_tests)

  pub behind_not_before : stands_behind client ino h ≡ true → stands_before client ino h ≡ false
  behind_not_before is = grind (arith, nat_tests)

  pub at_not_before : is_at client ino h ≡ true → stands_before client ino h ≡ false
  at_not_before is = grind (arith, nat_tests)

  pub at_not_behind : is_at client ino h ≡ true → stands_behind client ino h ≡ false
  at_not_behind is = grind (arith, nat_tests)

  pub else_behind : stands_before client ino h ≡ false → is_at client ino h ≡ false → stands_behind client ino h ≡ true
  else_behind not_before off = grind (arith, nat_tests)

  -- what stands before a holding that stands before it does so too
  pub before_before : (g : Holding) → stands_before h.0 h.1.ino g ≡ true → stands_before client ino h ≡ true → stands_before client ino g ≡ true
  before_before g earlier is = grind (arith, nat_tests)

  -- what stands behind a holding that doesn't stand before it stands behind it
  pub behind_behind : (k : Holding) → stands_before k.0 k.1.ino h ≡ true → stands_before client ino h ≡ false → stands_behind client ino k ≡ true
  behind_behind k later is = grind (arith, nat_tests)

-- the same order, seen from the other holding
pub turned : (g h : Holding) → stands_behind h.0 h.1.ino g ≡ true → stands_before g.0 g.1.ino h ≡ true
turned g h is = grind (arith, nat_tests)

pub clash_turned : (g h : Holding) → clash h g ≡ false → clash g h ≡ false
clash_turned g h is = grind (arith, nat_tests)

-- holdings that pass a test come first if what stands before such a one passes it too
pub partitioned : (p : Holding → Bool) → ((g h : Holding) → MayPrecede g h → p h ≡ true → p g ≡ true) → (held : List Holding) → IsTable held → IsPartitionedBy p held
partitioned p steady [] table i j d le lt passes = absurd (omega arith)
partitioned p steady (h ∷ held) table zero zero d le lt passes = passes
partitioned p steady (h ∷ held) table zero (suc j) d le lt passes =
    steady h (get_or held j d) (All-from_recursion (MayPrecede h) held table.0 j d (omega arith)) passes
partitioned p steady (h ∷ held) table (suc i) zero d le lt passes = absurd (omega arith)
partitioned p steady (h ∷ held) table (suc i) (suc j) d le lt passes = partitioned p steady held table.1 i j d (omega arith) (omega arith) passes

-- a part from a place on is a table too
pub table_drop : (held : List Holding) (i : ℕ) → IsTable held → IsTable (drop i held)
table_drop held zero table = table
table_drop [] (suc i) table = tt
table_drop (h ∷ held) (suc i) table = table_drop held i table.1

-- so is what a test keeps
table_kept : (p : Holding → Bool) (h : Holding) (held : List Holding) (b : Bool) → p h ≡ b → AllByRecursion (MayPrecede h) held → IsTable (filter p held) → IsTable (filter p (h ∷ held))
table_kept p h held true is first later = rw is (all_filter p (MayPrecede h) (MayPrecede h) (λ x q m. m) held first, later)
table_kept p h held false is first later = rw is later

pub table_filter : (p : Holding → Bool) (held : List Holding) → IsTable held → IsTable (filter p held)
table_filter p [] table = tt
table_filter p (h ∷ held) table = table_kept p h held (p h) refl table.0 (table_filter p held table.1)

-- and what is left with other settled ids
module _ (f : Holding → Holding) (same : (g h : Holding) → MayPrecede g h → MayPrecede (f g) (f h)) where
  all_mapped : (g : Holding) (held : List Holding) → AllByRecursion (MayPrecede g) held → AllByRecursion (MayPrecede (f g)) (map f held)
  all_mapped g [] all = tt
  all_mapped g (h ∷ held) all = (same g h all.0, all_mapped g held all.1)

  pub table_map : (held : List Holding) → IsTable held → IsTable (map f held)
  table_map [] table = tt
  table_map (h ∷ held) table = (all_mapped h held table.0, table_map held table.1)

-- one more holding between those that a test keeps and those that another does
module _ (h : Holding) (p q : Holding → Bool) (Q : Holding → Type 0) (before : (g : Holding) → p g ≡ true → Q g → MayPrecede g h) (behind : (g : Holding) → q g ≡ true → Q g → MayPrecede h g) (either : (g : Holding) → p g ≡ true → q g ≡ false) (steady : (g k : Holding) → MayPrecede g k → p g ≡ false → p k ≡ false) where
  joined : (g : Holding) (held : List Holding) (b : Bool) → p g ≡ b → AllByRecursion Q (g ∷ held) → IsTable (g ∷ held) → IsTable (filter p held ++ h ∷ filter q held) → IsTable (filter p (g ∷ held) ++ h ∷ filter q (g ∷ held))
  joined g held true is all table rest =
      rw (is, either g is)
      (all_join (MayPrecede g) (filter p held) h (filter q held) (all_filter p (MayPrecede g) (MayPrecede g) (λ x passes m. m) held table.0) (before g is all.0) (all_filter q (MayPrecede g) (MayPrecede g) (λ x passes m. m) held table.0), rest)
  joined g held false is all table rest =
      rw (is, filter_none p held (all_weaker (MayPrecede g) (λ k. p k ≡ false) (λ k m. steady g k m is) held table.0))
      (all_filter q Q (MayPrecede h) behind (g ∷ held) all, table_filter q (g ∷ held) table)

  pub table_joined : (held : List Holding) → AllByRecursion Q held → IsTable held → IsTable (filter p held ++ h ∷ filter q held)
  table_joined [] all table = (tt, tt)
  table_joined (g ∷ held) all table = joined g held (p g) refl all table (table_joined held all.1 table.1)

module _ (h : Holding) where
  before_it : (g : Holding) → stands_before h.0 h.1.ino g ≡ true → IsApart h g → MayPrecede g h
  before_it g is apart = record { before = is; apart = clash_turned g h (apart (before_off h.0 h.1.ino g is)) }

  behind_it : (g : Holding) → stands_behind h.0 h.1.ino g ≡ true → IsApart h g → MayPrecede h g
  behind_it g is apart = record { before = turned g h is; apart = apart (behind_off h.0 h.1.ino g is) }

  steady_it : (g k : Holding) → MayPrecede g k → stands_before h.0 h.1.ino g ≡ false → stands_before h.0 h.1.ino k ≡ false
  steady_it g k order not_before = behind_not_before h.0 h.1.ino k (behind_behind h.0 h.1.ino g k order.before not_before)

  -- a table with one more holding that is apart from all of others is one
  pub table_with : (held : List Holding) → AllByRecursion (IsApart h) held → IsTable held → IsTable (with_holding h held)
  table_with held apart table =
      table_joined h (stands_before h.0 h.1.ino) (stands_behind h.0 h.1.ino) (IsApart h) before_it behind_it (before_not_behind h.0 h.1.ino) steady_it held apart table

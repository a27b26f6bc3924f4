-- A holder for Write is the only holder of its file.
use Rattle.std.proofs.Common.{◌≡◌, ℕ, Bool, true, false, if◌then◌else◌, unwrap_or, List, [], ◌∷◌, find, option_map, Option, None, Some, IfSome, refl, sym, ap, subst, ◌∙◌, arith}
use Rattle.std.specs.List.{AllByRecursion}
use Rattle.std.proofs.lemmas.Bool.{eqb-true}
use Rattle.std.proofs.lemmas.Bool.Decides.{nat_tests}
use Rattle.snap_ids.specs.declared.id.Ino.{Ino}
use Rattle.snap_ids.specs.declared.id.SnapId.{SnapId}
use Rattle.snap_ids.specs.declared.values.Mode.{Mode}
use Rattle.snap_ids.specs.declared.values.Mode.TheVariants.{Read, Write}
use Rattle.plain_types.specs.declared.message.Claim.{Claim}
use Rattle.cap_state.specs.Table.{Holding, is_of, writes, clash, MayPrecede, IsTable, holders_of, writer_of}
use Rattle.cap_state.proofs.Lists.{all_of, all_both, all_filter, find_none}
use Rattle.cap_state.proofs.Order.{table_filter}

-- the holding is for Write
abbrev is_write : Holding → Bool
is_write h = writes h.1.mode

module _ (ino : Ino) where
  -- two holders of one file read it
  earlier_reads : (g h : Holding) → is_of ino g ≡ true → is_of ino h ≡ true → clash g h ≡ false → is_write g ≡ false
  earlier_reads g h here here_too apart = grind (arith, nat_tests)

  later_reads : (g h : Holding) → is_of ino g ≡ true → is_of ino h ≡ true → clash g h ≡ false → is_write h ≡ false
  later_reads g h here here_too apart = grind (arith, nat_tests)

  all_read : (g k : Holding) (rest : List Holding) → IsTable (g ∷ k ∷ rest) → AllByRecursion (λ h. is_of ino h ≡ true) (g ∷ k ∷ rest) → AllByRecursion (λ h. is_write h ≡ false) (g ∷ k ∷ rest)
  all_read g k rest table here = (
    earlier_reads g k here.0 here.1.0 table.0.0.apart,
    all_both (MayPrecede g) (λ h. is_of ino h ≡ true) (λ h. is_write h ≡ false) (λ h order of_it. later_reads g h here.0 of_it order.apart) (k ∷ rest) table.0 here.1,
  )

  one_only : (b : Bool) (g w : Holding) → (if b then Some g else None) ≡ Some w → g ∷ [] ≡ w ∷ []
  one_only true g w is = ap (λ (o : Option Holding). unwrap_or o g ∷ []) is
  one_only false g w is = cc

  one_writes : (b : Bool) (g w : Holding) → is_write g ≡ b → (if b then Some g else None) ≡ Some w → is_write g ≡ true
  one_writes true g w test is = test
  one_writes false g w test is = cc

  -- where one writes, there is no other
  only : (hs : List Holding) → IsTable hs → AllByRecursion (λ h. is_of ino h ≡ true) hs → (w : Holding) → find is_write hs ≡ Some w → hs ≡ w ∷ []
  only [] table here w is = cc
  only (g ∷ []) table here w is = one_only (is_write g) g w is
  only (g ∷ k ∷ rest) table here w is = absurd (let impossible : None ≡ Some w = sym (find_none is_write (g ∷ k ∷ rest) (all_read g k rest table here)) ∙ is in cc)

  it_writes : (hs : List Holding) (w : Holding) → hs ≡ w ∷ [] → find is_write hs ≡ Some w → is_write w ≡ true
  it_writes hs w only_it is = one_writes (is_write w) w w refl (subst (λ l. find is_write l ≡ Some w) only_it is)

  mode_of_writer : (m : Mode) → writes m ≡ true → m ≡ Write
  mode_of_writer Read is = cc
  mode_of_writer Write is = refl

  ino_from : (h : Holding) → is_of ino h ≡ true → h.1.ino ≡ ino
  ino_from h is = ap (λ (n : ℕ). let i : Ino = record { 0 = n } in i) (eqb-true h.1.ino.0 ino.0 is)

  -- the holding of a client for Write
  as_writer : (h : Holding) → is_of ino h ≡ true → is_write h ≡ true → h ≡ (h.0, record { ino = ino; mode = Write; settled = h.1.settled })
  as_writer h here is =
      ap (λ (i : Ino). let k : Claim = record { ino = i; mode = h.1.mode; settled = h.1.settled } in (h.0, k)) (ino_from h here)
      ∙ ap (λ (m : Mode). let k : Claim = record { ino = ino; mode = m; settled = h.1.settled } in (h.0, k)) (mode_of_writer h.1.mode is)

  -- the file's only holder, for Write
  abbrev IsAlone : List Holding → ℕ × SnapId → Type 0
  IsAlone held w = holders_of ino held ≡ (w.0, record { ino = ino; mode = Write; settled = w.1 }) ∷ []

  abbrev writer_in : Holding → ℕ × SnapId
  writer_in h = (h.0, h.1.settled)

  found : (held : List Holding) → IsTable held → (o : Option Holding) → find is_write (holders_of ino held) ≡ o → IfSome (option_map writer_in o) (IsAlone held)
  found held table None is = tt
  found held table (Some h) is =
      let hs = holders_of ino held in
      let here : AllByRecursion (λ g. is_of ino g ≡ true) hs = all_filter (is_of ino) (λ g. Unit {0}) (λ g. is_of ino g ≡ true) (λ g passes u. passes) held (all_of (λ g. Unit {0}) (λ g. tt) held) in
      let only_it : hs ≡ h ∷ [] = only hs (table_filter (is_of ino) held table) here h is in
      only_it ∙ ap (λ (g : Holding). g ∷ []) (as_writer h (subst (AllByRecursion (λ g. is_of ino g ≡ true)) only_it here).0 (it_writes hs h only_it is))

  -- a file's holder for Write is the only one
  pub writer_alone : (held : List Holding) → IsTable held → (o : Option (ℕ × SnapId)) → o ≡ writer_of ino held → IfSome o (IsAlone held)
  writer_alone held table o is =
      subst (λ (t : Option (ℕ × SnapId)). IfSome t (IsAlone held)) (sym is) (found held table (find is_write (holders_of ino held)) refl)

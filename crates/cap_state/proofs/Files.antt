-- The holdings of one file in a table.
use Rattle.std.proofs.Common.{◌≡◌, ℕ, ◌≤◌, Bool, true, false, List, ◌++◌, take, drop, nat_lt, nat_le, sym, ◌∙◌, ap, subst, arith}
use Rattle.std.specs.List.{AllByRecursion, filter}
use Rattle.std.proofs.lemmas.List.{take-append-drop, append-nil}
use Rattle.std.proofs.lemmas.List.Elements.{filter-append}
use Rattle.std.proofs.lemmas.Bool.Decides.{nat_tests}
use Rattle.snap_ids.specs.declared.id.Ino.{Ino}
use Rattle.cap_state.specs.Table.{Holding, is_of, stands_before, MayPrecede}
use Rattle.cap_state.proofs.Lists.{all_weaker, all_take, all_both, filter_none, filter_all}

-- the inodes of a table don't fall
inode_le : (g h : Holding) → stands_before h.0 h.1.ino g ≡ true → g.1.ino.0 ≤ h.1.ino.0
inode_le g h before = grind (arith, nat_tests)

module _ (ino : Ino) where
  -- the holding is of a lower inode
  abbrev is_below : Holding → Bool
  is_below h = nat_lt h.1.ino.0 ino.0

  -- the holding is of no higher inode
  abbrev is_upto : Holding → Bool
  is_upto h = nat_le h.1.ino.0 ino.0

  -- what stands before a holding of a lower inode is of a lower one too
  pub below_before : (g h : Holding) → MayPrecede g h → nat_lt h.1.ino.0 ino.0 ≡ true → nat_lt g.1.ino.0 ino.0 ≡ true
  below_before g h order below = grind (arith, nat_tests, inode_le g h order.before)

  pub upto_before : (g h : Holding) → MayPrecede g h → nat_le h.1.ino.0 ino.0 ≡ true → nat_le g.1.ino.0 ino.0 ≡ true
  upto_before g h order upto = grind (arith, nat_tests, inode_le g h order.before)

  -- no holding of a lower or a higher inode is of the file, and what is neither is
  below_out : (h : Holding) → is_below h ≡ true → is_of ino h ≡ false
  below_out h below = grind (arith, nat_tests)

  above_out : (h : Holding) → is_upto h ≡ false → is_of ino h ≡ false
  above_out h above = grind (arith, nat_tests)

  between_in : (h : Holding) → is_below h ≡ false → is_upto h ≡ true → is_of ino h ≡ true
  between_in h not_below upto = grind (arith, nat_tests)

  -- a file's holdings are those between the lower and the higher ones
  filter_between : (p : Holding → Bool) (front run back : List Holding) → AllByRecursion (λ h. p h ≡ false) front → AllByRecursion (λ h. p h ≡ true) run → AllByRecursion (λ h. p h ≡ false) back → filter p (front ++ (run ++ back)) ≡ run
  filter_between p front run back below here above =
      rw (filter-append p front (run ++ back), filter-append p run back, filter_none p front below, filter_none p back above, filter_all p run here) (append-nil run)

  -- those that two searches leave are a file's
  pub filter_run : (held rest : List Holding) (from count : ℕ) → rest ≡ drop from held → AllByRecursion (λ h. nat_lt h.1.ino.0 ino.0 ≡ true) (take from held) → AllByRecursion (λ h. nat_lt h.1.ino.0 ino.0 ≡ false) (drop from held) → AllByRecursion (λ h. nat_le h.1.ino.0 ino.0 ≡ true) (take count rest) → AllByRecursion (λ h. nat_le h.1.ino.0 ino.0 ≡ false) (drop count rest) → take count rest ≡ filter (is_of ino) held
  filter_run held rest from count is_rest below not_below upto above =
      let front = take from held in
      let run = take count rest in
      let run_not_below = all_take (λ h. is_below h ≡ false) rest count (subst (AllByRecursion (λ h. is_below h ≡ false)) (sym is_rest) not_below) in
      let here = all_both (λ h. is_below h ≡ false) (λ h. is_upto h ≡ true) (λ h. is_of ino h ≡ true) between_in run run_not_below upto in
      let parted : front ++ (run ++ drop count rest) ≡ held = ap (λ hs. front ++ hs) (take-append-drop count rest ∙ is_rest) ∙ take-append-drop from held in
      sym
      (ap (filter (is_of ino)) (sym parted)
      ∙ filter_between (is_of ino) front run (drop count rest) (all_weaker (λ h. is_below h ≡ true) (λ h. is_of ino h ≡ false) below_out front below) here
      (all_weaker (λ h. is_upto h ≡ false) (λ h. is_of ino h ≡ false) above_out (drop count rest) above))

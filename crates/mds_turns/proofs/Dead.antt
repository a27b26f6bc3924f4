-- A dead file was made, and collecting it opens nothing.
use Rattle.std.proofs.Common.{◌≡◌, ℕ, ◌<◌, List, [], ◌∷◌, ◌++◌, map, filter, Bool, true, false, cond, Option, None, Some, refl, sym, ap, subst, ◌∙◌, arith}
use Rattle.std.proofs.lemmas.Bool.Decides.{nat_tests}
use Rattle.std.specs.Prelude.{◌||◌, ◌==◌, not}
use Rattle.std.specs.List.{list_any, AllByRecursion}
use Rattle.snap_ids.specs.declared.id.Ino.{Ino}
use Rattle.snap_ids.specs.declared.values.Kind.{Kind}
use Rattle.snap_ids.specs.declared.values.Kind.TheVariants.{Dir, File}
use Rattle.plain_types.specs.declared.entry.Entry.{Entry}
use Rattle.plain_tree.specs.State.{State, Inode, same_ino, kind_in}
use Rattle.plain_journal.specs.Coverage.{is_made}
use Rattle.plain_journal.specs.Entries.{state_after}
use Rattle.plain_journal.specs.Legal.{is_journal, is_made_file}
use Rattle.plain_journal.specs.Table.{dead, is_collected, is_dead, is_unused}
use Rattle.held_files.specs.Files.{is_empty}
use Rattle.journal_uses.proofs.Folders.{Rising, rising_after}
use Rattle.step_table.specs.Acts.{Act, MarkRecalled, SendDelete, TellRecall}
use Rattle.step_table.specs.Background.{first_file, holders_of}
use Rattle.step_table.specs.Capabilities.{is_recalled, recalls}
use Rattle.step_table.specs.Requests.{opens}
use Rattle.step_table.specs.ServerState.{Server}
use Rattle.mds_turns.specs.Turned.{collecting}

abbrev ino_of : Inode → Ino
ino_of inode = inode.ino

first_in : (q : Ino → Bool) (xs : List Ino) (ino : Ino) → first_file (filter q xs) ≡ Some ino → list_any (same_ino ino) xs ≡ true
first_in q [] ino is = cc
first_in q (x ∷ xs) ino is = by_test (q x) is (first_in q xs ino)
  where
    here : (b : Bool) → (x ≡ ino) → (same_ino ino x || list_any (same_ino ino) xs) ≡ true
    here b same = let itself : same_ino ino x ≡ true = subst (λ (y : Ino). same_ino ino y ≡ true) (sym same) (grind (arith, nat_tests)) in rw itself refl

    there : (b : Bool) → list_any (same_ino ino) xs ≡ true → (b || list_any (same_ino ino) xs) ≡ true
    there true rest = refl
    there false rest = rest

    by_test : (b : Bool) → first_file (cond b (x ∷ filter q xs) (filter q xs)) ≡ Some ino → (first_file (filter q xs) ≡ Some ino → list_any (same_ino ino) xs ≡ true) → (same_ino ino x || list_any (same_ino ino) xs) ≡ true
    by_test true one rest = let same : x ≡ ino = cc in here true same
    by_test false one rest = there (same_ino ino x) (rest one)

any_filter : (p q : Ino → Bool) (xs : List Ino) → list_any p (filter q xs) ≡ true → list_any p xs ≡ true
any_filter p q [] is = is
any_filter p q (x ∷ xs) is = by_test (q x) (p x) is (any_filter p q xs)
  where
    by_test : (b found : Bool) → list_any p (cond b (x ∷ filter q xs) (filter q xs)) ≡ true → (list_any p (filter q xs) ≡ true → list_any p xs ≡ true) → (p x || list_any p xs) ≡ true
    by_test true found one rest = either (p x) one rest
      where
        either : (t : Bool) → (t || list_any p (filter q xs)) ≡ true → (list_any p (filter q xs) ≡ true → list_any p xs ≡ true) → (t || list_any p xs) ≡ true
        either true here more = refl
        either false here more = more here
    by_test false found one rest = over (p x) (rest one)
      where
        over : (t : Bool) → list_any p xs ≡ true → (t || list_any p xs) ≡ true
        over true there = refl
        over false there = there

module _ (ino : Ino) (d : Inode → Bool) where
  above : (low : ℕ) (xs : List Inode) → AllByRecursion (λ (o : Inode). low < o.ino.0) xs → list_any (same_ino ino) (map ino_of (filter d xs)) ≡ true → low < ino.0
  above low [] all is = cc
  above low (x ∷ xs) all is = by_test (d x) is (above low xs all.1)
    where
      found : (b : Bool) → same_ino ino x.ino ≡ b → (b || list_any (same_ino ino) (map ino_of (filter d xs))) ≡ true → (list_any (same_ino ino) (map ino_of (filter d xs)) ≡ true → low < ino.0) → low < ino.0
      found true same one rest = let first = all.0 in grind (arith, nat_tests, same, first)
      found false same one rest = rest one

      by_test : (b : Bool) → list_any (same_ino ino) (map ino_of (cond b (x ∷ filter d xs) (filter d xs))) ≡ true → (list_any (same_ino ino) (map ino_of (filter d xs)) ≡ true → low < ino.0) → low < ino.0
      by_test true one rest = found (same_ino ino x.ino) refl one rest
      by_test false one rest = rest one

  kind_of : ((x : Inode) → d x ≡ true → x.kind ≡ File) → (xs : List Inode) → Rising xs → list_any (same_ino ino) (map ino_of (filter d xs)) ≡ true → kind_in xs ino ≡ File
  kind_of fine [] rise is = cc
  kind_of fine (x ∷ xs) rise is = by_test (d x) refl is (kind_of fine xs rise.1)
    where
      at : (b : Bool) → same_ino x.ino ino ≡ b → cond b x.kind (kind_in xs ino) ≡ File → cond (same_ino x.ino ino) x.kind (kind_in xs ino) ≡ File
      at b same one = subst (λ (t : Bool). cond t x.kind (kind_in xs ino) ≡ File) (sym same) one

      found : (b : Bool) → same_ino ino x.ino ≡ b → d x ≡ true → (b || list_any (same_ino ino) (map ino_of (filter d xs))) ≡ true → (list_any (same_ino ino) (map ino_of (filter d xs)) ≡ true → kind_in xs ino ≡ File) → cond (same_ino x.ino ino) x.kind (kind_in xs ino) ≡ File
      found true same test one rest = let turned : same_ino x.ino ino ≡ true = grind (arith, nat_tests, same) in at true turned (fine x test)
      found false same test one rest = let turned : same_ino x.ino ino ≡ false = grind (arith, nat_tests, same) in at false turned (rest one)

      by_test : (b : Bool) → d x ≡ b → list_any (same_ino ino) (map ino_of (cond b (x ∷ filter d xs) (filter d xs))) ≡ true → (list_any (same_ino ino) (map ino_of (filter d xs)) ≡ true → kind_in xs ino ≡ File) → cond (same_ino x.ino ino) x.kind (kind_in xs ino) ≡ File
      by_test true test one rest = found (same_ino ino x.ino) refl test one rest
      by_test false test one rest =
          let low = above x.ino.0 xs rise.0 one in
          let turned : same_ino x.ino ino ≡ false = grind (arith, nat_tests, low) in
          at false turned (rest one)

not_dir : (k : Kind) (unused : Bool) → elim k as (λ _. Bool) [ Dir ↦ false | File ↦ unused ] ≡ true → k ≡ File
not_dir Dir unused is = cc
not_dir File unused is = refl

made_kind : (xs : List Inode) (ino : Ino) → kind_in xs ino ≡ File → list_any (λ (inode : Inode). same_ino inode.ino ino) xs ≡ true
made_kind [] ino is = cc
made_kind (x ∷ xs) ino is = by_test (same_ino x.ino ino) is (made_kind xs ino)
  where
    by_test : (b : Bool) → cond b x.kind (kind_in xs ino) ≡ File → (kind_in xs ino ≡ File → list_any (λ (inode : Inode). same_ino inode.ino ino) xs ≡ true) → (b || list_any (λ (inode : Inode). same_ino inode.ino ino) xs) ≡ true
    by_test true is go = refl
    by_test false is go = go is

file_of : (state : State) (ino : Ino) → kind_in state.inodes ino ≡ File → is_made_file state ino ≡ true
file_of state ino is = subst (λ (k : Kind). elim k as (λ _. Bool) [ Dir ↦ false | File ↦ is_made state ino ] ≡ true) (sym is) (made_kind state.inodes ino is)

-- the dead file that is due is one that was made
pub dead_made : (entries : List Entry) → is_journal entries ≡ true → (q : Ino → Bool) (ino : Ino) → first_file (filter q (dead entries)) ≡ Some ino → is_made_file (state_after entries) ino ≡ true
dead_made entries journal q ino is =
    let state = state_after entries in
    file_of state ino
    (kind_of ino (is_dead state) (λ x one. not_dir x.kind (is_unused state x.ino) one) state.inodes (rising_after entries journal)
    (any_filter (same_ino ino) (λ i. not (is_collected entries i)) (map ino_of (filter (is_dead state) state.inodes)) (first_in q (dead entries) ino is)))

-- it opens nothing
recalls_open : (s : Server) (ino : Ino) (xs : List ℕ) → list_any opens (recalls s ino xs) ≡ false
recalls_open s ino [] = refl
recalls_open s ino (x ∷ xs) = by_test (is_recalled s ino x) (recalls_open s ino xs)
  where
    by_test : (b : Bool) → list_any opens (recalls s ino xs) ≡ false → list_any opens (cond b [] (MarkRecalled x ino ∷ TellRecall x ino ∷ []) ++ recalls s ino xs) ≡ false
    by_test true rest = rest
    by_test false rest = rest

pub collecting_opens : (s : Server) (ino : Ino) → list_any opens (collecting s ino) ≡ false
collecting_opens s ino = by_test (is_empty (holders_of s ino))
  where
    by_test : (b : Bool) → list_any opens (cond b (SendDelete ino ∷ []) (recalls s ino (holders_of s ino))) ≡ false
    by_test true = refl
    by_test false = recalls_open s ino (holders_of s ino)

pub empty_map : {A B : Type 0} (f : A → B) (xs : List A) → is_empty (map f xs) ≡ is_empty xs
empty_map f [] = refl
empty_map f (x ∷ xs) = refl

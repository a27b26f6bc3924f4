-- No two inodes have a number, so a directory that goes is no file.
use Rattle.std.proofs.Common.{◌≡◌, ℕ, ◌<◌, ◌≤◌, Bool, true, false, not, ◌==◌, cond, List, [], ◌∷◌, ◌++◌, map, filter, Option, None, Some, refl, sym, ap, subst, ◌∙◌, arith}
use Rattle.std.specs.List.{AllByRecursion}
use Rattle.std.specs.Prelude.{if◌then◌else◌}
use Rattle.std.proofs.lemmas.Bool.{eqb-true}
use Rattle.std.proofs.lemmas.Bool.Decides.{nat_tests}
use Rattle.snap_ids.specs.declared.id.Ino.{Ino}
use Rattle.snap_ids.specs.declared.values.Kind.{Kind}
use Rattle.snap_ids.specs.declared.values.Kind.TheVariants.{Dir, File}
use Rattle.plain_types.specs.declared.change.Change.{Change}
use Rattle.plain_types.specs.declared.change.Change.TheVariants as change
use Rattle.plain_types.specs.declared.entry.Entry.{Entry}
use Rattle.plain_types.specs.declared.entry.What.TheVariants as what
use Rattle.plain_tree.specs.State.{State, Inode, Handle, same_ino, lookup, kind_in, next_ino, new_directory}
use Rattle.plain_tree.specs.Change.{make, is_removable, is_directory, names_one, open_of, with_bytes, new_file, without}
use Rattle.plain_journal.specs.Entries.{change_in, with_change, state_after}
use Rattle.plain_journal.specs.Legal.{is_legal, is_journal, is_made_by, fits}
use Rattle.plain_journal.specs.Table.{is_collected}
use Rattle.journal_laws.proofs.Named.{count, one_if}
use Rattle.journal_laws.proofs.Below.{HasNext}
use Rattle.journal_laws.proofs.Steps.{both_true, of_journals, state_more, apply_made, made_by_legal, has_next, last_legal}
use Rattle.journal_realms.proofs.Parents.{IsOnce}
use Rattle.journal_realms.proofs.Trees.{tied_after}
use Rattle.file_uses.specs.declared.files.FileUse.{FileUse}
use Rattle.file_uses.specs.Uses.{Uses}
use Rattle.journal_uses.specs.Stands.{is_regular, use_in, uses_in, uses_after}
use Rattle.journal_uses.proofs.Moves.{after_change, none_more}
use Rattle.journal_uses.proofs.Numbers.{AllUnder, IsOrderly, orderly_more, first_orderly}
use Rattle.journal_uses.proofs.Counted.{exact}

-- each number is below those behind it
abbrev pub Rising : List Inode → Type 0
Rising [] = Unit {0}
Rising (inode ∷ inodes) = AllByRecursion (λ (other : Inode). inode.ino.0 < other.ino.0) inodes × Rising inodes

above_push : (n : ℕ) (inodes : List Inode) (new : Inode) → n < new.ino.0 → AllByRecursion (λ (other : Inode). n < other.ino.0) inodes → AllByRecursion (λ (other : Inode). n < other.ino.0) (inodes ++ new ∷ [])
above_push n [] new is all = (is, tt)
above_push n (inode ∷ inodes) new is all = (all.0, above_push n inodes new is all.1)

rising_push : (n : ℕ) (inodes : List Inode) (new : Inode) → n ≤ new.ino.0 → AllUnder n inodes → Rising inodes → Rising (inodes ++ new ∷ [])
rising_push n [] new is under rise = (tt, tt)
rising_push n (inode ∷ inodes) new is under rise = (above_push inode.ino.0 inodes new (omega (arith, under.0)) rise.0, rising_push n inodes new is under.1 rise.1)

module _ (f : Inode → Inode) (same : (inode : Inode) → (f inode).ino ≡ inode.ino) where
  above_map : (n : ℕ) (inodes : List Inode) → AllByRecursion (λ (other : Inode). n < other.ino.0) inodes → AllByRecursion (λ (other : Inode). n < other.ino.0) (map f inodes)
  above_map n [] all = tt
  above_map n (inode ∷ inodes) all = (subst (λ (x : Ino). n < x.0) (sym (same inode)) all.0, above_map n inodes all.1)

  rising_map : (inodes : List Inode) → Rising inodes → Rising (map f inodes)
  rising_map [] rise = tt
  rising_map (inode ∷ inodes) rise =
      (subst (λ (x : Ino). AllByRecursion (λ (other : Inode). x.0 < other.ino.0) (map f inodes)) (sym (same inode)) (above_map inode.ino.0 inodes rise.0), rising_map inodes rise.1)

module _ (state : State) (client : ℕ) (under : AllUnder (next_ino state).0 state.inodes) (rise : Rising state.inodes) where
  pushed : (new : Inode) → new.ino ≡ next_ino state → Rising (state.inodes ++ new ∷ [])
  pushed new is =
      let at : new.ino.0 ≡ (next_ino state).0 = ap (λ (x : Ino). x.0) is in
      rising_push (next_ino state).0 state.inodes new (omega arith) under rise

  written : (opened : Option Handle) (bytes : List ℕ → List ℕ) → Rising (with_bytes opened bytes state.inodes)
  written None bytes = rise
  written (Some opened) bytes = rising_map _ (λ inode. refl) state.inodes rise

  rising_made : (made : Change) → HasNext state made → Rising (make state client made).inodes
  rising_made (change.Mkdir dir name ino) next = pushed (new_directory ino) next
  rising_made (change.Create dir name ino mode) next = pushed (new_file ino mode) next
  rising_made (change.Link ino dir name) next = rise
  rising_made (change.Unlink dir name) next = rise
  rising_made (change.Rmdir dir name) next = rise
  rising_made (change.Rename dir name to_dir to_name) next = rise
  rising_made (change.Chmod ino mode) next = rising_map _ (λ inode. refl) state.inodes rise
  rising_made (change.OpenFile handle ino writable) next = rise
  rising_made (change.CloseFile handle) next = rise
  rising_made (change.Mksnap id dir name) next = rise
  rising_made (change.Rmsnap id) next = rise
  rising_made (change.WriteFile handle offset bytes) next = written (open_of state.handles client handle) _
  rising_made (change.Truncate handle size) next = written (open_of state.handles client handle) _

rising_by : (entries : List Entry) (e : Entry) (c : Option Change) → change_in e.what ≡ c → IsOrderly entries → Rising (state_after entries).inodes → is_legal entries e ≡ true → Rising (with_change (state_after entries) e.client c).inodes
rising_by entries e None is all rise legal = rise
rising_by entries e (Some made) is all rise legal =
    let state = state_after entries in
    let l = both_true (is_made_by state e.client (change_in e.what)) (fits entries e.what) legal in
    subst (λ (s : State). Rising s.inodes) (sym (apply_made state e.client made (made_by_legal entries e made legal is))) (rising_made state e.client all.under rise made (has_next entries e.what made is l.1))

-- after each journal the numbers rise
pub rising_after : (entries : List Entry) → is_journal entries ≡ true → Rising (state_after entries).inodes
rising_after entries legal = (of_journals (λ (done : List Entry). IsOrderly done × Rising (state_after done).inodes) (first_orderly, (tt, tt)) more entries legal).1
  where
    more : (done : List Entry) (e : Entry) → IsOrderly done × Rising (state_after done).inodes → is_legal done e ≡ true → IsOrderly (done ++ e ∷ []) × Rising (state_after (done ++ e ∷ [])).inodes
    more done e all fine = (orderly_more done e all.0 fine, subst (λ (s : State). Rising s.inodes) (sym (state_more done e)) (rising_by done e (change_in e.what) refl all.0 all.1 fine))

-- no file has a directory's number
abbrev IsOther : Ino → Inode → Type 0
IsOther ino inode = is_regular inode ≡ true → same_ino ino inode.ino ≡ false

others_above : (ino : Ino) (inodes : List Inode) → AllByRecursion (λ (other : Inode). ino.0 < other.ino.0) inodes → AllByRecursion (IsOther ino) inodes
others_above ino [] all = tt
others_above ino (inode ∷ inodes) all = ((λ is. grind (arith, nat_tests, all.0)), others_above ino inodes all.1)

regular_dir : (inode : Inode) → inode.kind ≡ Dir → is_regular inode ≡ false
regular_dir inode is = rw is refl

swapped : (a b : ℕ) → (a == b) ≡ false → (b == a) ≡ false
swapped a b off = grind (arith, nat_tests)

one_other : (b : Bool) (ino : Ino) (inode : Inode) (inodes : List Inode) → same_ino inode.ino ino ≡ b → Rising (inode ∷ inodes) → (if b then inode.kind else kind_in inodes ino) ≡ Dir → (kind_in inodes ino ≡ Dir → AllByRecursion (IsOther ino) inodes) → AllByRecursion (IsOther ino) (inode ∷ inodes)
one_other true ino inode inodes same rise is rest =
    let at : inode.ino.0 ≡ ino.0 = eqb-true inode.ino.0 ino.0 same in
    ((λ regular. let never : false ≡ true = sym (regular_dir inode is) ∙ regular in cc), others_above ino inodes (subst (λ n. AllByRecursion (λ (other : Inode). n < other.ino.0) inodes) at rise.0))
one_other false ino inode inodes off rise is rest = ((λ regular. swapped inode.ino.0 ino.0 off), rest is)

others : (ino : Ino) (inodes : List Inode) → Rising inodes → kind_in inodes ino ≡ Dir → AllByRecursion (IsOther ino) inodes
others ino [] rise is = tt
others ino (inode ∷ inodes) rise is = one_other (same_ino inode.ino ino) ino inode inodes refl rise is (λ later. others ino inodes rise.1 later)

-- what is removable is a directory
dir_of : (k : Kind) (b : Bool) → (elim k as (λ _. Bool) [ Dir ↦ b | File ↦ false ]) ≡ true → k ≡ Dir
dir_of Dir b is = refl
dir_of File b is = cc

removable_dir : (state : State) (ino : Ino) → is_removable state ino ≡ true → kind_in state.inodes ino ≡ Dir
removable_dir state ino is = dir_of (kind_in state.inodes ino) _ (both_true (is_directory state ino) _ (both_true _ _ is).0).0

pub found_one : (o : Option Ino) (test : Ino → Bool) → not (names_one test o) ≡ false → (ino : Ino) × (o ≡ Some ino) × (test ino ≡ true)
found_one None test fine = cc
found_one (Some ino) test fine = (ino, refl, holds (test ino) fine)
  where
    holds : (b : Bool) → not b ≡ false → b ≡ true
    holds true is = refl
    holds false is = cc

module _ (state : State) (collected : Ino → Bool) (once : IsOnce state.entries) (dir : Ino) (name : List ℕ) (ino : Ino) (found : lookup state.entries dir name ≡ Some ino) where
  abbrev less : State
  less = record state { entries = without dir name state.entries }

  same_use : (inode : Inode) → same_ino ino inode.ino ≡ false → use_in less collected inode ≡ use_in state collected inode
  same_use inode other =
      let names : count (without dir name state.entries) inode.ino ≡ count state.entries inode.ino = omega (arith, exact state collected once dir name ino found inode.ino, ap one_if other) in
      ap (λ (n : ℕ). let u : FileUse = record { names = n; dropped = collected inode.ino } in let x : ℕ × FileUse = (inode.ino.0, u) in x) names

  one_same : (b : Bool) (inode : Inode) (inodes : List Inode) → is_regular inode ≡ b → IsOther ino inode → map (use_in less collected) (filter is_regular inodes) ≡ map (use_in state collected) (filter is_regular inodes) → map (use_in less collected) (cond b (inode ∷ filter is_regular inodes) (filter is_regular inodes)) ≡ map (use_in state collected) (cond b (inode ∷ filter is_regular inodes) (filter is_regular inodes))
  one_same true inode inodes is other rest =
      ap (λ (x : ℕ × FileUse). x ∷ map (use_in less collected) (filter is_regular inodes)) (same_use inode (other is)) ∙ ap (λ (xs : List (ℕ × FileUse)). use_in state collected inode ∷ xs) rest
  one_same false inode inodes is other rest = rest

  all_same : (inodes : List Inode) → AllByRecursion (IsOther ino) inodes → map (use_in less collected) (filter is_regular inodes) ≡ map (use_in state collected) (filter is_regular inodes)
  all_same [] all = refl
  all_same (inode ∷ inodes) all = one_same (is_regular inode) inode inodes refl all.0 (all_same inodes all.1)

  pub uses_removed : Rising state.inodes → kind_in state.inodes ino ≡ Dir → uses_in less collected ≡ uses_in state collected
  uses_removed rise is = ap (λ (files : List (ℕ × FileUse)). let u : Uses = record { files = files; handles = state.handles } in u) (all_same state.inodes (others ino state.inodes rise is))

pub rmdir_more : (entries : List Entry) (e : Entry) → is_journal (entries ++ e ∷ []) ≡ true → (dir : Ino) (name : List ℕ) → e.what ≡ what.Rmdir dir name → uses_after (entries ++ e ∷ []) ≡ uses_after entries
rmdir_more entries e legal dir name is =
    let state = state_after entries in
    let before = last_legal [] entries e legal in
    let it = found_one (lookup state.entries dir name) (is_removable state) (made_by_legal entries e (change.Rmdir dir name) before.1 (ap change_in is)) in
    after_change entries e (what.Rmdir dir name) is (change.Rmdir dir name) refl legal
    ∙ none_more (make state e.client (change.Rmdir dir name)) (is_collected entries)
    ∙ uses_removed state (is_collected entries) (tied_after entries before.0).once dir name it.0 it.1 (rising_after entries before.0) (removable_dir state it.0 it.2)

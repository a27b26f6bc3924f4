-- What a new file and a new directory make of the files in use.
use Rattle.std.proofs.Common.{◌≡◌, ℕ, ◌<◌, Bool, true, false, nat_lt, List, [], ◌∷◌, ◌++◌, map, filter, refl, sym, ap, subst, ◌∙◌, arith}
use Rattle.std.proofs.lemmas.Bool.Decides.{nat_tests}
use Rattle.std.proofs.lemmas.Bool.{eqb-true}
use Rattle.snap_ids.specs.declared.id.Ino.{Ino}
use Rattle.snap_ids.specs.declared.values.Kind.{Kind}
use Rattle.snap_ids.specs.declared.values.Kind.TheVariants.{Dir, File}
use Rattle.plain_types.specs.declared.change.Change.TheVariants as change
use Rattle.plain_types.specs.declared.entry.Entry.{Entry}
use Rattle.plain_types.specs.declared.entry.What.TheVariants as what
use Rattle.plain_tree.specs.State.{State, Inode, same_ino, add, next_ino, new_directory}
use Rattle.plain_tree.specs.Change.{entry, make, new_file}
use Rattle.plain_journal.specs.Entries.{change_in, state_after}
use Rattle.plain_journal.specs.Legal.{is_journal, is_made_by, fits}
use Rattle.plain_journal.specs.Table.{is_collected}
use Rattle.journal_laws.proofs.Named.{count, one_if, count_add}
use Rattle.journal_laws.proofs.Below.{unnamed}
use Rattle.journal_laws.proofs.Steps.{last_legal, both_true}
use Rattle.file_uses.specs.declared.files.FileUse.{FileUse}
use Rattle.file_uses.specs.Uses.{Uses, with_new, new_use, made}
use Rattle.journal_uses.specs.Stands.{is_regular, use_in, uses_in, uses_after}
use Rattle.journal_uses.proofs.Moves.{after_change, none_more}
use Rattle.journal_uses.proofs.Numbers.{AllUnder, orderly}

not_true : (b : Bool) → (b ≡ true → ⊥) → b ≡ false
not_true true never = absurd (never refl)
not_true false never = refl

module _ (state : State) (collected : Ino → Bool) (ino dir : Ino) (name : List ℕ) (news : List Inode) where
  abbrev more : State
  more = record state { entries = add (entry dir name ino) state.entries; inodes = state.inodes ++ news }

  -- a file that was there has as many names
  pub same_use : (inode : Inode) → inode.ino.0 < ino.0 → use_in more collected inode ≡ use_in state collected inode
  same_use inode below =
      let other : same_ino ino inode.ino ≡ false = grind (arith, nat_tests, below) in
      let names : count (add (entry dir name ino) state.entries) inode.ino ≡ count state.entries inode.ino = omega (arith, count_add (entry dir name ino) state.entries inode.ino, ap one_if other) in
      ap (λ (n : ℕ). let u : FileUse = record { names = n; dropped = collected inode.ino } in let x : ℕ × FileUse = (inode.ino.0, u) in x) names

module _ (state : State) (collected : Ino → Bool) (ino dir : Ino) (name : List ℕ) (new : Inode) where
  abbrev grown : State
  grown = record state { entries = add (entry dir name ino) state.entries; inodes = state.inodes ++ new ∷ [] }

  -- a new directory
  one_dir : (kind : Kind) (inode : Inode) (inodes : List Inode) → inode.kind ≡ kind → inode.ino.0 < ino.0 → map (use_in grown collected) (filter is_regular (inodes ++ new ∷ [])) ≡ map (use_in state collected) (filter is_regular inodes) → map (use_in grown collected) (filter is_regular (inode ∷ (inodes ++ new ∷ []))) ≡ map (use_in state collected) (filter is_regular (inode ∷ inodes))
  one_dir Dir inode inodes is below rest = rw is rest
  one_dir File inode inodes is below rest =
      let one : map (use_in grown collected) (filter is_regular (inode ∷ (inodes ++ new ∷ []))) ≡ use_in grown collected inode ∷ map (use_in grown collected) (filter is_regular (inodes ++ new ∷ [])) = rw is refl in
      let two : map (use_in state collected) (filter is_regular (inode ∷ inodes)) ≡ use_in state collected inode ∷ map (use_in state collected) (filter is_regular inodes) = rw is refl in
      one ∙ ap (λ (x : ℕ × FileUse). x ∷ map (use_in grown collected) (filter is_regular (inodes ++ new ∷ []))) (same_use state collected ino dir name (new ∷ []) inode below) ∙ ap (λ (xs : List (ℕ × FileUse)). use_in state collected inode ∷ xs) rest ∙ sym two

  with_directory : new.kind ≡ Dir → (inodes : List Inode) → AllUnder ino.0 inodes → map (use_in grown collected) (filter is_regular (inodes ++ new ∷ [])) ≡ map (use_in state collected) (filter is_regular inodes)
  with_directory is [] all = rw is refl
  with_directory is (inode ∷ inodes) all = one_dir inode.kind inode inodes refl all.0 (with_directory is inodes all.1)

  -- a new file
  one_file : (kind : Kind) (inode : Inode) (inodes : List Inode) → inode.kind ≡ kind → inode.ino.0 < ino.0 → map (use_in grown collected) (filter is_regular (inodes ++ new ∷ [])) ≡ with_new ino (map (use_in state collected) (filter is_regular inodes)) → map (use_in grown collected) (filter is_regular (inode ∷ (inodes ++ new ∷ []))) ≡ with_new ino (map (use_in state collected) (filter is_regular (inode ∷ inodes)))
  one_file Dir inode inodes is below rest =
      let one : map (use_in grown collected) (filter is_regular (inode ∷ (inodes ++ new ∷ []))) ≡ map (use_in grown collected) (filter is_regular (inodes ++ new ∷ [])) = rw is refl in
      let two : map (use_in state collected) (filter is_regular (inode ∷ inodes)) ≡ map (use_in state collected) (filter is_regular inodes) = rw is refl in
      one ∙ rest ∙ ap (with_new ino) (sym two)
  one_file File inode inodes is below rest =
      let one : map (use_in grown collected) (filter is_regular (inode ∷ (inodes ++ new ∷ []))) ≡ use_in grown collected inode ∷ map (use_in grown collected) (filter is_regular (inodes ++ new ∷ [])) = rw is refl in
      let two : map (use_in state collected) (filter is_regular (inode ∷ inodes)) ≡ use_in state collected inode ∷ map (use_in state collected) (filter is_regular inodes) = rw is refl in
      let behind : nat_lt ino.0 inode.ino.0 ≡ false = grind (arith, nat_tests, below) in
      let three : with_new ino (use_in state collected inode ∷ map (use_in state collected) (filter is_regular inodes)) ≡ use_in state collected inode ∷ with_new ino (map (use_in state collected) (filter is_regular inodes)) = rw behind refl in
      one ∙ ap (λ (x : ℕ × FileUse). x ∷ map (use_in grown collected) (filter is_regular (inodes ++ new ∷ []))) (same_use state collected ino dir name (new ∷ []) inode below) ∙ ap (λ (xs : List (ℕ × FileUse)). use_in state collected inode ∷ xs) rest
      ∙ sym (ap (with_new ino) two ∙ three)

  with_file : new.kind ≡ File → use_in grown collected new ≡ (ino.0, new_use) → (inodes : List Inode) → AllUnder ino.0 inodes → map (use_in grown collected) (filter is_regular (inodes ++ new ∷ [])) ≡ with_new ino (map (use_in state collected) (filter is_regular inodes))
  with_file is it [] all =
      let one : map (use_in grown collected) (filter is_regular (new ∷ [])) ≡ use_in grown collected new ∷ [] = rw is refl in
      one ∙ ap (λ (x : ℕ × FileUse). x ∷ []) it
  with_file is it (inode ∷ inodes) all = one_file inode.kind inode inodes refl all.0 (with_file is it inodes all.1)

  pub uses_directory : new.kind ≡ Dir → AllUnder ino.0 state.inodes → uses_in grown collected ≡ uses_in state collected
  uses_directory is all = ap (λ (files : List (ℕ × FileUse)). let u : Uses = record { files = files; handles = state.handles } in u) (with_directory is state.inodes all)

  pub uses_file : new.kind ≡ File → use_in grown collected new ≡ (ino.0, new_use) → AllUnder ino.0 state.inodes → uses_in grown collected ≡ made ino (uses_in state collected)
  uses_file is it all = ap (λ (files : List (ℕ × FileUse)). let u : Uses = record { files = files; handles = state.handles } in u) (with_file is it state.inodes all)

module _ (entries : List Entry) (e : Entry) (legal : is_journal (entries ++ e ∷ []) ≡ true) where
  abbrev state : State
  state = state_after entries

  abbrev collected : Ino → Bool
  collected = is_collected entries

  fine : fits entries e.what ≡ true
  fine = (both_true (is_made_by state e.client (change_in e.what)) (fits entries e.what) (last_legal [] entries e legal).1).1

  number : (ino : Ino) → same_ino ino (next_ino state) ≡ true → (next_ino state).0 ≡ ino.0
  number ino is = sym (eqb-true ino.0 (next_ino state).0 is)

  below : (ino : Ino) → same_ino ino (next_ino state) ≡ true → AllUnder ino.0 state.inodes
  below ino is = subst (λ n. AllUnder n state.inodes) (number ino is) (orderly entries (last_legal [] entries e legal).0).under

  pub mkdir_more : (dir : Ino) (name : List ℕ) (ino : Ino) → e.what ≡ what.Mkdir dir name ino → uses_after (entries ++ e ∷ []) ≡ uses_after entries
  mkdir_more dir name ino is =
      after_change entries e (what.Mkdir dir name ino) is (change.Mkdir dir name ino) refl legal
      ∙ none_more (make state e.client (change.Mkdir dir name ino)) collected
      ∙ uses_directory state collected ino dir name (new_directory ino) refl (below ino (sym (ap (fits entries) is) ∙ fine))

  pub create_more : (dir : Ino) (name : List ℕ) (ino : Ino) (mode : ℕ) → e.what ≡ what.Create dir name ino mode → uses_after (entries ++ e ∷ []) ≡ made ino (uses_after entries)
  create_more dir name ino mode is =
      let it = orderly entries (last_legal [] entries e legal).0 in
      let next : same_ino ino (next_ino state) ≡ true = sym (ap (fits entries) is) ∙ fine in
      let at = number ino next in
      let none : count state.entries ino ≡ 0 = unnamed (next_ino state).0 state.entries ino (omega (arith, at)) it.numbered.below in
      let own : same_ino ino ino ≡ true = grind arith in
      let one : count (add (entry dir name ino) state.entries) ino ≡ 1 = omega (arith, count_add (entry dir name ino) state.entries ino, ap one_if own) in
      let kept : collected ino ≡ false = not_true (collected ino) (λ gone. let less : ino.0 < (next_ino state).0 = it.collected ino gone in omega (arith, at)) in
      let new : use_in (make state e.client (change.Create dir name ino mode)) collected (new_file ino mode) ≡ (ino.0, new_use) =
      ap (λ (n : ℕ). let u : FileUse = record { names = n; dropped = collected ino } in let x : ℕ × FileUse = (ino.0, u) in x) one
      ∙ ap (λ (d : Bool). let u : FileUse = record { names = 1; dropped = d } in let x : ℕ × FileUse = (ino.0, u) in x) kept in
      after_change entries e (what.Create dir name ino mode) is (change.Create dir name ino mode) refl legal
      ∙ none_more (make state e.client (change.Create dir name ino mode)) collected
      ∙ uses_file state collected ino dir name (new_file ino mode) refl new (below ino next)

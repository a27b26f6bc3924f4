-- What is known of the files that a journal made, and so the conditions of the calls.
use Rattle.std.proofs.Common.{◌≡◌, ℕ, ◌<◌, Bool, true, false, not, ◌||◌, ◌==◌, List, [], ◌∷◌, ◌++◌, map, filter, Option, None, Some, IsSome, is_some, ◌⊎◌, inl, inr, ⊎_elim, refl, sym, ap, subst, ◌∙◌, arith}
use Rattle.std.specs.List.{list_any}
use Rattle.std.specs.Map.{lookup}
use Rattle.std.specs.Ordering.{nat_cmp}
use Rattle.std.specs.BTreeMap.{is_at}
use Rattle.std.specs.Prelude.{if◌then◌else◌}
use Rattle.std.proofs.lemmas.Bool.{eqb-true}
use Rattle.std.proofs.lemmas.Bool.Decides.{nat_tests}
use Rattle.snap_ids.specs.declared.id.Ino.{Ino}
use Rattle.snap_ids.specs.declared.values.Kind.{Kind}
use Rattle.snap_ids.specs.declared.values.Kind.TheVariants.{Dir, File}
use Rattle.plain_types.specs.declared.change.Change.TheVariants as change
use Rattle.plain_types.specs.declared.entry.Entry.{Entry}
use Rattle.plain_types.specs.declared.entry.What.TheVariants as what
use Rattle.plain_tree.specs.State.{State, Inode, Handle, same_ino, kind_in, next_ino}
use Rattle.plain_tree.specs.State.{lookup as named_in}
use Rattle.plain_tree.specs.Change.{is_file, is_free, open_of}
use Rattle.plain_journal.specs.Entries.{change_in, state_after}
use Rattle.plain_journal.specs.Legal.{is_legal, is_journal, is_made_by, fits}
use Rattle.plain_journal.specs.Table.{is_collected, dead}
use Rattle.journal_laws.proofs.Named.{count, one_if}
use Rattle.journal_laws.proofs.Steps.{both_true, last_legal, made_by_legal}
use Rattle.journal_realms.proofs.Trees.{tied_after}
use Rattle.file_uses.specs.declared.files.FileUse.{FileUse}
use Rattle.file_uses.specs.Uses.{use_of, names_of, names_in, is_dead, dead_of, ino_of}
use Rattle.file_uses.proofs.Deaths.{picked, before, picked_first}
use Rattle.journal_uses.specs.Stands.{is_regular, use_in, uses_in, uses_after}
use Rattle.journal_uses.proofs.Dead.{dead_same}
use Rattle.journal_uses.proofs.Numbers.{AllUnder, orderly}
use Rattle.journal_uses.proofs.Counted.{exact}
use Rattle.journal_uses.proofs.Folders.{found_one}

module _ (state : State) (collected : Ino → Bool) (ino : Ino) where
  -- what is known of the file
  abbrev known : FileUse
  known = record { names = count state.entries ino; dropped = collected ino }

  abbrev look : List (ℕ × FileUse) → Option FileUse
  look files = lookup (is_at (nat_cmp ino.0)) files

  abbrev files : List Inode → List (ℕ × FileUse)
  files inodes = map (use_in state collected) (filter is_regular inodes)

  skipped : (e : ℕ × FileUse) (rest : List (ℕ × FileUse)) → (e.0 == ino.0) ≡ false → look (e ∷ rest) ≡ look rest
  skipped e rest off = let test : is_at (nat_cmp ino.0) e.0 ≡ false = grind (arith, nat_tests) in rw test refl

  met : (e : ℕ × FileUse) (rest : List (ℕ × FileUse)) → (e.0 == ino.0) ≡ true → look (e ∷ rest) ≡ Some e.1
  met e rest is = let test : is_at (nat_cmp ino.0) e.0 ≡ true = grind (arith, nat_tests) in rw test refl

  past : (kind : Kind) (inode : Inode) (inodes : List Inode) → inode.kind ≡ kind → (inode.ino.0 == ino.0) ≡ false → look (files (inode ∷ inodes)) ≡ look (files inodes)
  past Dir inode inodes is off = let none : files (inode ∷ inodes) ≡ files inodes = rw is refl in ap look none
  past File inode inodes is off = let one : files (inode ∷ inodes) ≡ use_in state collected inode ∷ files inodes = rw is refl in ap look one ∙ skipped (use_in state collected inode) (files inodes) off

  one_file : (b : Bool) (inode : Inode) (inodes : List Inode) → same_ino inode.ino ino ≡ b → (if b then inode.kind else kind_in inodes ino) ≡ File → (kind_in inodes ino ≡ File → look (files inodes) ≡ Some known) → look (files (inode ∷ inodes)) ≡ Some known
  one_file true inode inodes same is rest =
      let one : files (inode ∷ inodes) ≡ use_in state collected inode ∷ files inodes = rw is refl in
      let at : inode.ino ≡ ino = ap (λ n. let x : Ino = record { 0 = n } in x) (eqb-true inode.ino.0 ino.0 same) in
      ap look one ∙ met (use_in state collected inode) (files inodes) same ∙ ap (λ (x : Ino). let u : FileUse = record { names = count state.entries x; dropped = collected x } in Some u) at
  one_file false inode inodes off is rest = past inode.kind inode inodes refl off ∙ rest is

  known_file : (inodes : List Inode) → kind_in inodes ino ≡ File → look (files inodes) ≡ Some known
  known_file [] is = cc
  known_file (inode ∷ inodes) is = one_file (same_ino inode.ino ino) inode inodes refl is (λ later. known_file inodes later)

  -- a number that no inode has
  unknown_file : (inodes : List Inode) → AllUnder ino.0 inodes → look (files inodes) ≡ None
  unknown_file [] under = refl
  unknown_file (inode ∷ inodes) under = past inode.kind inode inodes refl (grind (arith, nat_tests, under.0)) ∙ unknown_file inodes under.1

  pub known_use : kind_in state.inodes ino ≡ File → use_of (uses_in state collected) ino ≡ Some known
  known_use is = known_file state.inodes is

  pub unknown_use : AllUnder ino.0 state.inodes → use_of (uses_in state collected) ino ≡ None
  unknown_use under = unknown_file state.inodes under

some_of : (o : Option FileUse) (file : FileUse) → o ≡ Some file → IsSome o
some_of o file is = subst (λ (t : Option FileUse). IsSome t) (sym is) refl

-- a file that is listed is known
module _ (state : State) (collected : Ino → Bool) (ino : Ino) (p : ℕ × FileUse → Bool) where
  first_or : (c b : Bool) (e : ℕ × FileUse) (inos : List Ino) → same_ino ino (ino_of e) ≡ b → list_any (same_ino ino) (before c (ino_of e) inos) ≡ true → (list_any (same_ino ino) inos ≡ true) ⊎ (b ≡ true)
  first_or true true e inos is any = inr refl
  first_or true false e inos is any = inl (sym (ap (λ t. t || list_any (same_ino ino) inos) is) ∙ any)
  first_or false b e inos is any = inl any

  one_listed : (b : Bool) (e : ℕ × FileUse) (files : List (ℕ × FileUse)) → (e.0 == ino.0) ≡ b → list_any (same_ino ino) (picked p (e ∷ files)) ≡ true → (list_any (same_ino ino) (picked p files) ≡ true → IsSome (look state collected ino files)) → IsSome (look state collected ino (e ∷ files))
  one_listed true e files is any rest = some_of _ e.1 (met state collected ino e files is)
  one_listed false e files off any rest =
      let other : same_ino ino (ino_of e) ≡ false = grind (arith, nat_tests) in
      let later : list_any (same_ino ino) (before (p e) (ino_of e) (picked p files)) ≡ true = ap (λ (inos : List Ino). list_any (same_ino ino) inos) (sym (picked_first p e files)) ∙ any in
      subst (λ (t : Option FileUse). IsSome t) (sym (skipped state collected ino e files off))
      (⊎_elim rest (λ never. let no_way : false ≡ true = never in cc) (first_or (p e) false e (picked p files) other later))

  pub listed_known : (files : List (ℕ × FileUse)) → list_any (same_ino ino) (picked p files) ≡ true → IsSome (look state collected ino files)
  listed_known [] any = cc
  listed_known (e ∷ files) any = one_listed (e.0 == ino.0) e files refl any (λ some. listed_known files some)

-- a file that is there is a file
file_of : (k : Kind) (b : Bool) → (elim k as (λ _. Bool) [ Dir ↦ false | File ↦ b ]) ≡ true → k ≡ File
file_of Dir b is = cc
file_of File b is = refl

pub kind_of_file : (state : State) (ino : Ino) → is_file state ino ≡ true → kind_in state.inodes ino ≡ File
kind_of_file state ino is = file_of (kind_in state.inodes ino) _ is

not_false : (b : Bool) → not b ≡ false → b ≡ true
not_false true is = refl
not_false false is = cc

or_none : (a b : Bool) → (a || b) ≡ false → (a ≡ false) × (b ≡ false)
or_none true b is = cc
or_none false b is = (refl, is)

none_open : (o : Option Handle) → is_some o ≡ false → o ≡ None
none_open None is = refl
none_open (Some opened) is = cc

module _ (entries : List Entry) (e : Entry) (legal : is_journal (entries ++ e ∷ []) ≡ true) where
  abbrev state : State
  state = state_after entries

  abbrev before_it : (is_journal entries ≡ true) × (is_legal entries e ≡ true)
  before_it = last_legal [] entries e legal

  pub create_may : (dir ino : Ino) (name : List ℕ) (mode : ℕ) → e.what ≡ what.Create dir name ino mode → use_of (uses_after entries) ino ≡ None
  create_may dir ino name mode is =
      let fine : fits entries e.what ≡ true = (both_true (is_made_by state e.client (change_in e.what)) (fits entries e.what) before_it.1).1 in
      let at : ino.0 ≡ (next_ino state).0 = eqb-true ino.0 (next_ino state).0 (sym (ap (fits entries) is) ∙ fine) in
      unknown_use state (is_collected entries) ino (subst (λ n. AllUnder n state.inodes) (sym at) (orderly entries before_it.0).under)

  pub link_may : (ino dir : Ino) (name : List ℕ) → e.what ≡ what.Link ino dir name → IsSome (use_of (uses_after entries) ino)
  link_may ino dir name is =
      let fine = made_by_legal entries e (change.Link ino dir name) before_it.1 (ap change_in is) in
      let file : is_file state ino ≡ true = (both_true (is_file state ino) (is_free state dir name) (not_false _ fine)).0 in
      some_of _ _ (known_use state (is_collected entries) ino (kind_of_file state ino file))

  pub open_may : (handle : ℕ) (ino : Ino) (writable : Bool) → e.what ≡ what.OpenFile handle ino writable → (open_of (uses_after entries).handles e.client handle ≡ None) × IsSome (use_of (uses_after entries) ino)
  open_may handle ino writable is =
      let fine = made_by_legal entries e (change.OpenFile handle ino writable) before_it.1 (ap change_in is) in
      let both = or_none (is_some (open_of state.handles e.client handle)) (not (is_file state ino)) fine in
      (none_open (open_of state.handles e.client handle) both.0, some_of _ _ (known_use state (is_collected entries) ino (kind_of_file state ino (not_false (is_file state ino) both.1))))

  pub unlink_may : (dir ino : Ino) (name : List ℕ) → e.what ≡ what.Unlink dir name → named_in state.entries dir name ≡ Some ino → 0 < names_of (uses_after entries) ino
  unlink_may dir ino name is found =
      let it = found_one (named_in state.entries dir name) (is_file state) (made_by_legal entries e (change.Unlink dir name) before_it.1 (ap change_in is)) in
      let same : ino ≡ it.0 = let some : Some ino ≡ Some it.0 = sym found ∙ it.1 in cc in
      let file : is_file state ino ≡ true = subst (λ (x : Ino). is_file state x ≡ true) (sym same) it.2 in
      let known = known_use state (is_collected entries) ino (kind_of_file state ino file) in
      let own : same_ino ino ino ≡ true = grind arith in
      let some : 0 < count state.entries ino = omega (arith, exact state (is_collected entries) (tied_after entries before_it.0).once dir name ino found ino, ap one_if own) in
      subst (λ (o : Option FileUse). 0 < names_in o) (sym known) some

  pub drop_may : (ino : Ino) → e.what ≡ what.Deadfile ino → IsSome (use_of (uses_after entries) ino)
  drop_may ino is =
      let fine : fits entries e.what ≡ true = (both_true (is_made_by state e.client (change_in e.what)) (fits entries e.what) before_it.1).1 in
      let listed : list_any (same_ino ino) (dead entries) ≡ true = sym (ap (fits entries) is) ∙ fine in
      let same : dead_of (uses_after entries) ≡ dead entries = dead_same state (is_collected entries) state.inodes in
      listed_known state (is_collected entries) ino (is_dead state.handles) (uses_after entries).files (ap (λ (inos : List Ino). list_any (same_ino ino) inos) same ∙ listed)

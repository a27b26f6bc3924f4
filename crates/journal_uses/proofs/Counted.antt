-- What a name less, and another name, make of the files in use.
use Rattle.std.proofs.Common.{◌≡◌, ℕ, ◌+◌, ◌-◌, Bool, true, false, not, ◌==◌, cond, List, [], ◌∷◌, ◌++◌, length, map, filter, Option, None, Some, refl, sym, ap, ◌∙◌, arith}
use Rattle.std.specs.Prelude.{if◌then◌else◌, bytes_eq}
use Rattle.std.proofs.lemmas.Bool.Decides.{nat_tests}
use Rattle.std.specs.Cmp.Lexicographic.{bytes_decides}
use Rattle.snap_ids.specs.declared.id.Ino.{Ino}
use Rattle.plain_types.specs.declared.change.Change.TheVariants as change
use Rattle.plain_types.specs.declared.entry.Entry as journal
use Rattle.plain_types.specs.declared.entry.What.TheVariants as what
use Rattle.plain_tree.specs.State.{State, Entry, Inode, same_ino, lookup, is_at}
use Rattle.plain_tree.specs.Walk.{names_of}
use Rattle.plain_tree.specs.Change.{entry, make, without, renamed}
use Rattle.plain_journal.specs.Entries.{state_after}
use Rattle.plain_journal.specs.Legal.{is_journal}
use Rattle.plain_journal.specs.Table.{is_collected}
use Rattle.journal_laws.proofs.Named.{count, one_if, count_add}
use Rattle.journal_laws.proofs.Steps.{last_legal}
use Rattle.realm_story.proofs.Facts.{both_of, same_of}
use Rattle.journal_realms.proofs.Parents.{IsOnce}
use Rattle.journal_realms.proofs.Trees.{tied_after}
use Rattle.file_uses.specs.declared.files.FileUse.{FileUse}
use Rattle.file_uses.specs.Uses.{Uses, one_less, unlinked}
use Rattle.journal_uses.specs.Stands.{is_regular, use_in, uses_in, uses_after}
use Rattle.journal_uses.proofs.Moves.{after_change, none_more, over}

at_same : (dir : Ino) (name : List ℕ) (e : Entry) → is_at dir name e ≡ true → (e.dir ≡ dir) × (e.name ≡ name)
at_same dir name e at =
    let both = both_of (same_ino e.dir dir) (bytes_eq e.name name) at in
    (same_of e.dir dir both.0, (bytes_decides e.name name).0 both.1)

-- a name that isn't there takes none out
none_left : (dir : Ino) (name : List ℕ) (entries : List Entry) → lookup entries dir name ≡ None → without dir name entries ≡ entries
none_left dir name [] none = refl
none_left dir name (e ∷ entries) none = go (is_at dir name e) none (none_left dir name entries)
  where
    go : (b : Bool) → (if b then Some e.ino else lookup entries dir name) ≡ None → (lookup entries dir name ≡ None → without dir name entries ≡ entries) → cond (not b) (e ∷ without dir name entries) (without dir name entries) ≡ e ∷ entries
    go true none rest = cc
    go false none rest = ap (λ (es : List Entry). e ∷ es) (rest none)

counted_more : (e : Entry) (entries : List Entry) (x : Ino) → count (e ∷ entries) x ≡ one_if (same_ino e.ino x) + count entries x
counted_more e entries x = by_test (same_ino e.ino x)
  where
    by_test : (b : Bool) → length (cond b (e ∷ names_of entries x) (names_of entries x)) ≡ one_if b + count entries x
    by_test true = omega arith
    by_test false = omega arith

-- whether it is the inode that a name has
abbrev named : Option Ino → Ino → ℕ
named None x = 0
named (Some ino) x = one_if (same_ino ino x)

-- without a name, the inode that has it has one less
count_exact : (dir : Ino) (name : List ℕ) (entries : List Entry) (x : Ino) → IsOnce entries → count entries x ≡ named (lookup entries dir name) x + count (without dir name entries) x
count_exact dir name [] x once = refl
count_exact dir name (e ∷ entries) x once = go (is_at dir name e) refl (count_exact dir name entries x once.1)
  where
    go : (b : Bool) → is_at dir name e ≡ b → count entries x ≡ named (lookup entries dir name) x + count (without dir name entries) x → count (e ∷ entries) x ≡ named (if b then Some e.ino else lookup entries dir name) x + count (cond (not b) (e ∷ without dir name entries) (without dir name entries)) x
    go true at rest =
        let is = at_same dir name e at in
        let none : lookup entries dir name ≡ None = sym (ap (λ (d : Ino). lookup entries d name) is.0) ∙ sym (ap (lookup entries e.dir) is.1) ∙ once.0 in
        let same : count (without dir name entries) x ≡ count entries x = ap (λ (es : List Entry). count es x) (none_left dir name entries none) in
        omega (arith, counted_more e entries x)
    go false at rest = omega (arith, counted_more e entries x, counted_more e (without dir name entries) x)

module _ (state : State) (collected : Ino → Bool) (once : IsOnce state.entries) (dir : Ino) (name : List ℕ) where
  -- a file with so many names
  abbrev file : Inode → ℕ → ℕ × FileUse
  file inode n = let u : FileUse = record { names = n; dropped = collected inode.ino } in (inode.ino.0, u)

  module _ (ino : Ino) (found : lookup state.entries dir name ≡ Some ino) where
    abbrev less : State
    less = record state { entries = without dir name state.entries }

    pub exact : (x : Ino) → count state.entries x ≡ one_if (same_ino ino x) + count (without dir name state.entries) x
    exact x = count_exact dir name state.entries x once ∙ ap (λ (o : Option Ino). named o x + count (without dir name state.entries) x) found

    fewer : (b : Bool) (inode : Inode) → (inode.ino.0 == ino.0) ≡ b → use_in less collected inode ≡ cond b (inode.ino.0, one_less (use_in state collected inode).1) (use_in state collected inode)
    fewer true inode is =
        let one : same_ino ino inode.ino ≡ true = grind (arith, nat_tests) in
        let names : count (without dir name state.entries) inode.ino ≡ count state.entries inode.ino - 1 = omega (arith, exact inode.ino, ap one_if one) in
        ap (file inode) names
    fewer false inode is =
        let other : same_ino ino inode.ino ≡ false = grind (arith, nat_tests) in
        let names : count (without dir name state.entries) inode.ino ≡ count state.entries inode.ino = omega (arith, exact inode.ino, ap one_if other) in
        ap (file inode) names

    pub uses_unlinked : uses_in less collected ≡ unlinked ino (uses_in state collected)
    uses_unlinked =
        ap (λ (files : List (ℕ × FileUse)). let u : Uses = record { files = files; handles = state.handles } in u)
        (over (use_in less collected) (use_in state collected) ino one_less (λ inode. fewer (inode.ino.0 == ino.0) inode refl) (filter is_regular state.inodes))

  -- another name in place of one
  moved_count : (to_dir : Ino) (to_name : List ℕ) (o : Option Ino) (x : Ino) → lookup state.entries dir name ≡ o → count (renamed o dir name to_dir to_name state.entries) x ≡ count state.entries x
  moved_count to_dir to_name None x is = refl
  moved_count to_dir to_name (Some ino) x is = omega (arith, count_add (entry to_dir to_name ino) (without dir name state.entries) x, exact ino is x)

  same_files : (f g : Inode → ℕ × FileUse) → ((inode : Inode) → f inode ≡ g inode) → (inodes : List Inode) → map f inodes ≡ map g inodes
  same_files f g same inodes = λ i. map (λ inode. same inode i) inodes

  pub uses_renamed : (to_dir : Ino) (to_name : List ℕ) → uses_in (record state { entries = renamed (lookup state.entries dir name) dir name to_dir to_name state.entries }) collected ≡ uses_in state collected
  uses_renamed to_dir to_name =
      ap (λ (files : List (ℕ × FileUse)). let u : Uses = record { files = files; handles = state.handles } in u)
      (same_files _ _ (λ inode. ap (file inode) (moved_count to_dir to_name (lookup state.entries dir name) inode.ino refl)) (filter is_regular state.inodes))

module _ (entries : List journal.Entry) (e : journal.Entry) (legal : is_journal (entries ++ e ∷ []) ≡ true) where
  abbrev state : State
  state = state_after entries

  once : IsOnce state.entries
  once = (tied_after entries (last_legal [] entries e legal).0).once

  pub unlink_more : (dir ino : Ino) (name : List ℕ) → e.what ≡ what.Unlink dir name → lookup state.entries dir name ≡ Some ino → uses_after (entries ++ e ∷ []) ≡ unlinked ino (uses_after entries)
  unlink_more dir ino name is found =
      after_change entries e (what.Unlink dir name) is (change.Unlink dir name) refl legal
      ∙ none_more (make state e.client (change.Unlink dir name)) (is_collected entries)
      ∙ uses_unlinked state (is_collected entries) once dir name ino found

  pub rename_more : (dir to_dir : Ino) (name to_name : List ℕ) → e.what ≡ what.Rename dir name to_dir to_name → uses_after (entries ++ e ∷ []) ≡ uses_after entries
  rename_more dir to_dir name to_name is =
      after_change entries e (what.Rename dir name to_dir to_name) is (change.Rename dir name to_dir to_name) refl legal
      ∙ none_more (make state e.client (change.Rename dir name to_dir to_name)) (is_collected entries)
      ∙ uses_renamed state (is_collected entries) once dir name to_dir to_name

-- The calls of an entry that follows a journal are fine, and an empty tree of names stands for no entry.
use Rattle.std.proofs.Common.{◌≡◌, ℕ, List, [], ◌∷◌, ◌++◌, Bool, true, false, Option, None, Some, Result, Ok, Err, refl, sym, ap, ◌∙◌, arith}
use Rattle.std.specs.Prelude.{not, ◌&&◌, if◌then◌else◌}
use Rattle.std.specs.List.{list_any}
use Rattle.snap_ids.specs.declared.id.Ino.{Ino}
use Rattle.snap_ids.specs.declared.id.SnapId.{SnapId}
use Rattle.snap_ids.specs.declared.id.TheConstants.{NOSNAP, ROOT}
use Rattle.snap_ids.specs.declared.values.Kind.{Kind}
use Rattle.snap_ids.specs.declared.values.Kind.TheVariants.{Dir, File}
use Rattle.plain_types.specs.declared.change.Change.TheVariants as change
use Rattle.plain_types.specs.declared.entry.Entry.{Entry}
use Rattle.plain_types.specs.declared.entry.What.{What}
use Rattle.plain_types.specs.declared.entry.What.TheVariants as what
use Rattle.plain_tree.specs.State.{State, same_ino, lookup}
use Rattle.plain_tree.specs.State.{Entry as Dentry}
use Rattle.plain_tree.specs.Change.{without, is_directory, is_file, is_free, is_own, is_refused, is_removable, is_movable, names_one}
use Rattle.plain_journal.specs.Entries.{change_in, state_after, applied}
use Rattle.plain_journal.specs.Legal.{is_made_by, fits, is_journal}
use Rattle.journal_laws.proofs.Steps.{both_true, last_legal}
use Rattle.journal_moments.proofs.Moments.{applied_below_nosnap}
use Rattle.dentry_tree.specs.declared.error.TreeError.{TreeError}
use Rattle.dentry_tree.specs.declared.error.TreeError.TheVariants.{NotDir, IsDir}
use Rattle.dentry_tree.specs.Dentries.{Tree, entries_at, kind_of, newest}
use Rattle.dentry_tree.specs.Answers.{file_answer, dir_answer}
use Rattle.journal_names.specs.Names.{NamesStand}
use Rattle.journal_names.specs.Calls.{CanGain, cut_answer, CanLose, CanRename, CanCall}
use Rattle.journal_names.proofs.Facts.{not_true, not_false, free_name, is_file_kind, is_dir_kind, still_free}
use Rattle.journal_names.proofs.Entries.{live_names}

abbrev by_file : Ino → Kind → Result Ino TreeError
by_file ino kind = elim kind [ Dir ↦ Err IsDir | File ↦ Ok ino ]

abbrev by_dir : Ino → Kind → Result Ino TreeError
by_dir ino kind = elim kind [ Dir ↦ Ok ino | File ↦ Err NotDir ]

-- what the cut of a name answers
answers : (kind : Kind) (kinds : Ino → Kind) (found : Option Ino) (ino : Ino) → found ≡ Some ino → kinds ino ≡ kind → cut_answer kind kinds found ≡ Ok ino
answers Dir kinds found ino is same = ap (dir_answer kinds) is ∙ ap (by_dir ino) same
answers File kinds found ino is same = ap (file_answer kinds) is ∙ ap (by_file ino) same

-- a name is that of an inode that passes a test
named_one : (test : Ino → Bool) (found : Option Ino) → names_one test found ≡ true → (ino : Ino) × ((found ≡ Some ino) × (test ino ≡ true))
named_one test None is = cc
named_one test (Some ino) is = (ino, (refl, is))

module _ (tree : Tree) (entries : List Entry) (client : ℕ) (legal : is_journal entries ≡ true) (stands : NamesStand tree entries) where
  abbrev state : State
  state = state_after entries

  in_names : (dir : Ino) (name : List ℕ) (found : Option Ino) → lookup state.entries dir name ≡ found → lookup (entries_at NOSNAP tree) dir name ≡ found
  in_names dir name found is = ap (λ (es : List Dentry). lookup es dir name) (live_names tree entries legal stands) ∙ is

  gains : (dir : Ino) (name : List ℕ) → is_free state dir name ≡ true → CanGain (applied entries) dir name tree
  gains dir name free = record {
    before_nosnap = applied_below_nosnap entries legal;
    upto_last = stands.changed;
    free = in_names dir name None (free_name state dir name free);
  }

  loses : (kind : Kind) (dir : Ino) (name : List ℕ) (ino : Ino) → lookup state.entries dir name ≡ Some ino → kind_of tree ino ≡ kind → CanLose kind dir name tree ino
  loses kind dir name ino found same =
      let named = in_names dir name (Some ino) found in
      record { named = named; is_kind = same; answer = answers kind (kind_of tree) (lookup (entries_at NOSNAP tree) dir name) ino named same }

  renames : (dir : Ino) (name : List ℕ) (to_dir : Ino) (to_name : List ℕ) (ino : Ino) → lookup state.entries dir name ≡ Some ino → is_free state to_dir to_name ≡ true → CanRename (applied entries) dir name to_dir to_name tree ino
  renames dir name to_dir to_name ino found free = record {
    loses = loses (kind_of tree ino) dir name ino found refl;
    gains = λ between cut. record {
      before_nosnap = applied_below_nosnap entries legal;
      upto_last = omega (arith, cut.changed, stands.changed);
      free =
          ap (λ (es : List Dentry). lookup es to_dir to_name) (cut.later NOSNAP (applied_below_nosnap entries legal) ∙ ap (without dir name) (live_names tree entries legal stands))
          ∙ still_free dir name to_dir to_name state.entries (free_name state to_dir to_name free);
    };
  }

  -- at each entry that may follow
  fine : (w : What) → is_made_by state client (change_in w) ≡ true → CanCall entries w tree
  fine (what.Mkdir dir name ino) made = gains dir name (not_false (is_free state dir name) (not_true (is_refused state client (change.Mkdir dir name ino)) made))
  fine (what.Create dir name ino mode) made = gains dir name (not_false (is_free state dir name) (not_true (is_refused state client (change.Create dir name ino mode)) made))
  fine (what.Link ino dir name) made =
      gains dir name (both_true (is_file state ino) (is_free state dir name) (not_false (is_file state ino && is_free state dir name) (not_true (is_refused state client (change.Link ino dir name)) made))).1
  fine (what.Unlink dir name) made =
      let found = named_one (is_file state) (lookup state.entries dir name) (not_false (names_one (is_file state) (lookup state.entries dir name)) (not_true (is_refused state client (change.Unlink dir name)) made)) in
      (found.0, loses File dir name found.0 found.1.0 (stands.kinds found.0 ∙ is_file_kind state found.0 found.1.1))
  fine (what.Rmdir dir name) made =
      let found = named_one (is_removable state) (lookup state.entries dir name) (not_false (names_one (is_removable state) (lookup state.entries dir name)) (not_true (is_refused state client (change.Rmdir dir name)) made)) in
      let l = both_true (is_directory state found.0 && not (list_any (is_own found.0) state.snaps)) (not (list_any (λ (entry : Dentry). same_ino entry.dir found.0) state.entries)) found.1.1 in
      (found.0, loses Dir dir name found.0 found.1.0 (stands.kinds found.0 ∙ is_dir_kind state found.0 (both_true (is_directory state found.0) (not (list_any (is_own found.0) state.snaps)) l.0).0))
  fine (what.Rename dir name to_dir to_name) made =
      let l = both_true (names_one (is_movable state to_dir) (lookup state.entries dir name)) (is_free state to_dir to_name) (not_false (names_one (is_movable state to_dir) (lookup state.entries dir name) && is_free state to_dir to_name) (not_true (is_refused state client (change.Rename dir name to_dir to_name)) made)) in
      let found = named_one (is_movable state to_dir) (lookup state.entries dir name) l.0 in
      (found.0, renames dir name to_dir to_name found.0 found.1.0 l.1)
  fine w made = tt

pub can_call : (tree : Tree) (entries : List Entry) (e : Entry) → is_journal (entries ++ e ∷ []) ≡ true → NamesStand tree entries → CanCall entries e.what tree
can_call tree entries e both stands =
    let l = last_legal [] entries e both in
    fine tree entries e.client l.0 stands e.what (both_true (is_made_by (state_after entries) e.client (change_in e.what)) (fits entries e.what) l.1).0

-- no entry at all
pub empty_stands : (tree : Tree) → ((s : SnapId) → entries_at s tree ≡ []) → ((ino : Ino) → kind_of tree ino ≡ Dir) → newest tree ≡ 0 → NamesStand tree []
empty_stands tree names kinds none = record {
  names = λ s asked. names s;
  kinds = λ ino. kinds ino ∙ sym (root_is (same_ino ROOT ino));
  changed = omega (arith, none);
}
  where
    root_is : (b : Bool) → (if b then Dir else Dir) ≡ Dir
    root_is true = refl
    root_is false = refl

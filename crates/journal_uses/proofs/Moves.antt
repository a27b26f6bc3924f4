-- What one more entry of a journal makes of the files in use.
use Rattle.std.proofs.Common.{◌≡◌, ℕ, ◌+◌, Bool, true, false, ◌==◌, ◌||◌, cond, List, [], ◌∷◌, ◌++◌, map, filter, Option, None, Some, refl, ap, ◌∙◌, arith}
use Rattle.std.specs.List.{list_any}
use Rattle.std.proofs.lemmas.Bool.Decides.{nat_tests}
use Rattle.snap_ids.specs.declared.id.Ino.{Ino}
use Rattle.snap_ids.specs.declared.values.Kind.{Kind}
use Rattle.snap_ids.specs.declared.values.Kind.TheVariants.{Dir, File}
use Rattle.plain_types.specs.declared.change.Change.{Change}
use Rattle.plain_types.specs.declared.change.Change.TheVariants as change
use Rattle.plain_types.specs.declared.entry.Entry.{Entry}
use Rattle.plain_types.specs.declared.entry.What.{What}
use Rattle.plain_types.specs.declared.entry.What.TheVariants as what
use Rattle.plain_tree.specs.State.{State, Inode, same_ino, add}
use Rattle.plain_tree.specs.Change.{entry, make, with_mode}
use Rattle.plain_journal.specs.Entries.{change_in, with_change, state_after}
use Rattle.plain_journal.specs.Legal.{is_legal, is_journal}
use Rattle.plain_journal.specs.Table.{collects, is_collected}
use Rattle.journal_laws.proofs.Named.{count, one_if, count_add}
use Rattle.journal_laws.proofs.Steps.{last_legal, state_more, apply_made, made_by_legal}
use Rattle.file_uses.specs.declared.files.FileUse.{FileUse}
use Rattle.file_uses.specs.Uses.{Uses, changed, one_more, as_dropped, linked, opened, closed, dropped}
use Rattle.journal_uses.specs.Stands.{is_regular, use_in, uses_in, uses_after, keeps_uses}

pub any_more : (p : Entry → Bool) (entries : List Entry) (e : Entry) → list_any p (entries ++ e ∷ []) ≡ (list_any p entries || p e)
any_more p [] e = last (p e)
  where
    last : (b : Bool) → (b || false) ≡ b
    last true = refl
    last false = refl
any_more p (x ∷ entries) e = more (p x) (list_any p entries) (p e) (list_any p (entries ++ e ∷ [])) (any_more p entries e)
  where
    more : (a b c d : Bool) → d ≡ (b || c) → (a || d) ≡ ((a || b) || c)
    more true b c d is = refl
    more false b c d is = is

module _ (entries : List Entry) (e : Entry) (w : What) (is : e.what ≡ w) where
  -- the state and what was dropped, after one more entry
  state_is : state_after (entries ++ e ∷ []) ≡ with_change (state_after entries) e.client (change_in w)
  state_is = state_more entries e ∙ ap (λ (x : What). with_change (state_after entries) e.client (change_in x)) is

  collected_is : (f : Ino) → is_collected (entries ++ e ∷ []) f ≡ (is_collected entries f || collects f w)
  collected_is f = any_more (λ (x : Entry). collects f x.what) entries e ∙ ap (λ (x : What). is_collected entries f || collects f x) is

  after : uses_after (entries ++ e ∷ []) ≡ uses_in (with_change (state_after entries) e.client (change_in w)) (λ f. is_collected entries f || collects f w)
  after = λ i. uses_in (state_is i) (λ f. collected_is f i)

  -- where it is a change
  pub after_change : (made : Change) → change_in w ≡ Some made → is_journal (entries ++ e ∷ []) ≡ true → uses_after (entries ++ e ∷ []) ≡ uses_in (make (state_after entries) e.client made) (λ f. is_collected entries f || collects f w)
  after_change made it legal =
      let fine : is_legal entries e ≡ true = (last_legal [] entries e legal).1 in
      let same : with_change (state_after entries) e.client (change_in w) ≡ make (state_after entries) e.client made = ap (with_change (state_after entries) e.client) it ∙ apply_made (state_after entries) e.client made (made_by_legal entries e made fine (ap change_in is ∙ it)) in
      after ∙ ap (λ (state : State). uses_in state (λ f. is_collected entries f || collects f w)) same

  -- where it is none
  pub after_none : change_in w ≡ None → uses_after (entries ++ e ∷ []) ≡ uses_in (state_after entries) (λ f. is_collected entries f || collects f w)
  after_none it = after ∙ ap (λ (c : Option Change). uses_in (with_change (state_after entries) e.client c) (λ f. is_collected entries f || collects f w)) it

or_false : (b : Bool) → (b || false) ≡ b
or_false true = refl
or_false false = refl

or_true : (b : Bool) → (b || true) ≡ true
or_true true = refl
or_true false = refl

-- nothing more is dropped
pub none_more : (state : State) (collected : Ino → Bool) → uses_in state (λ f. collected f || false) ≡ uses_in state collected
none_more state collected = λ i. uses_in state (λ f. or_false (collected f) i)

-- a map that goes over the files is a change of them
module _ (f g : Inode → ℕ × FileUse) (k : Ino) (change : FileUse → FileUse) (same : (inode : Inode) → f inode ≡ cond ((g inode).0 == k.0) ((g inode).0, change (g inode).1) (g inode)) where
  pub over : (inodes : List Inode) → map f inodes ≡ changed k change (map g inodes)
  over [] = refl
  over (inode ∷ inodes) = ap (λ (x : ℕ × FileUse). x ∷ map f inodes) (same inode) ∙ ap (λ (xs : List (ℕ × FileUse)). cond ((g inode).0 == k.0) ((g inode).0, change (g inode).1) (g inode) ∷ xs) (over inodes)

-- a name more
module _ (state : State) (collected : Ino → Bool) (ino dir : Ino) (name : List ℕ) where
  abbrev more : State
  more = record state { entries = add (entry dir name ino) state.entries }

  counted : (b : Bool) (inode : Inode) → (inode.ino.0 == ino.0) ≡ b → use_in more collected inode ≡ cond b (inode.ino.0, one_more (use_in state collected inode).1) (use_in state collected inode)
  counted true inode is =
      let one : same_ino ino inode.ino ≡ true = grind (arith, nat_tests) in
      let names : count (add (entry dir name ino) state.entries) inode.ino ≡ count state.entries inode.ino + 1 = omega (arith, count_add (entry dir name ino) state.entries inode.ino, ap one_if one) in
      ap (λ (n : ℕ). let u : FileUse = record { names = n; dropped = collected inode.ino } in let x : ℕ × FileUse = (inode.ino.0, u) in x) names
  counted false inode is =
      let other : same_ino ino inode.ino ≡ false = grind (arith, nat_tests) in
      let names : count (add (entry dir name ino) state.entries) inode.ino ≡ count state.entries inode.ino = omega (arith, count_add (entry dir name ino) state.entries inode.ino, ap one_if other) in
      ap (λ (n : ℕ). let u : FileUse = record { names = n; dropped = collected inode.ino } in let x : ℕ × FileUse = (inode.ino.0, u) in x) names

  pub uses_linked : uses_in more collected ≡ linked ino (uses_in state collected)
  uses_linked =
      ap (λ (files : List (ℕ × FileUse)). let u : Uses = record { files = files; handles = state.handles } in u)
      (over (use_in more collected) (use_in state collected) ino one_more (λ inode. counted (inode.ino.0 == ino.0) inode refl) (filter is_regular state.inodes))

-- a file dropped
module _ (state : State) (collected : Ino → Bool) (ino : Ino) where
  gone : (b : Bool) (inode : Inode) → (inode.ino.0 == ino.0) ≡ b → use_in state (λ f. collected f || same_ino ino f) inode ≡ cond b (inode.ino.0, as_dropped (use_in state collected inode).1) (use_in state collected inode)
  gone true inode is =
      let one : same_ino ino inode.ino ≡ true = grind (arith, nat_tests) in
      ap (λ (d : Bool). let u : FileUse = record { names = count state.entries inode.ino; dropped = d } in let x : ℕ × FileUse = (inode.ino.0, u) in x) (ap (λ b. collected inode.ino || b) one ∙ or_true (collected inode.ino))
  gone false inode is =
      let other : same_ino ino inode.ino ≡ false = grind (arith, nat_tests) in
      ap (λ (d : Bool). let u : FileUse = record { names = count state.entries inode.ino; dropped = d } in let x : ℕ × FileUse = (inode.ino.0, u) in x) (ap (λ b. collected inode.ino || b) other ∙ or_false (collected inode.ino))

  pub uses_dropped : uses_in state (λ f. collected f || same_ino ino f) ≡ dropped ino (uses_in state collected)
  uses_dropped =
      ap (λ (files : List (ℕ × FileUse)). let u : Uses = record { files = files; handles = state.handles } in u)
      (over (use_in state (λ f. collected f || same_ino ino f)) (use_in state collected) ino as_dropped (λ inode. gone (inode.ino.0 == ino.0) inode refl) (filter is_regular state.inodes))

-- another mode
module _ (state : State) (collected : Ino → Bool) (ino : Ino) (mode : ℕ) where
  one_mode : (kind : Kind) (inode : Inode) (inodes : List Inode) → inode.kind ≡ kind → map (use_in state collected) (filter is_regular (with_mode ino mode inodes)) ≡ map (use_in state collected) (filter is_regular inodes) → map (use_in state collected) (filter is_regular (with_mode ino mode (inode ∷ inodes))) ≡ map (use_in state collected) (filter is_regular (inode ∷ inodes))
  one_mode Dir inode inodes is rest = rw is rest
  one_mode File inode inodes is rest = rw is (ap (λ (files : List (ℕ × FileUse)). use_in state collected inode ∷ files) rest)

  moded : (inodes : List Inode) → map (use_in state collected) (filter is_regular (with_mode ino mode inodes)) ≡ map (use_in state collected) (filter is_regular inodes)
  moded [] = refl
  moded (inode ∷ inodes) = one_mode inode.kind inode inodes refl (moded inodes)

  pub uses_moded : uses_in (record state { inodes = with_mode ino mode state.inodes }) collected ≡ uses_in state collected
  uses_moded = ap (λ (files : List (ℕ × FileUse)). let u : Uses = record { files = files; handles = state.handles } in u) (moded state.inodes)

-- what says nothing of the files in use
module _ (entries : List Entry) (e : Entry) (legal : is_journal (entries ++ e ∷ []) ≡ true) where
  pub kept : (w : What) → e.what ≡ w → keeps_uses w ≡ true → uses_after (entries ++ e ∷ []) ≡ uses_after entries
  kept (what.Chmod ino mode) is keeps =
      after_change entries e (what.Chmod ino mode) is (change.Chmod ino mode) refl legal ∙ none_more (make (state_after entries) e.client (change.Chmod ino mode)) (is_collected entries) ∙ uses_moded (state_after entries) (is_collected entries) ino mode
  kept (what.Mksnap id dir name) is keeps = after_change entries e (what.Mksnap id dir name) is (change.Mksnap id dir name) refl legal ∙ none_more (make (state_after entries) e.client (change.Mksnap id dir name)) (is_collected entries)
  kept (what.Rmsnap id) is keeps = after_change entries e (what.Rmsnap id) is (change.Rmsnap id) refl legal ∙ none_more (make (state_after entries) e.client (change.Rmsnap id)) (is_collected entries)
  kept (what.PrepareCreate id) is keeps = after_none entries e (what.PrepareCreate id) is refl ∙ none_more (state_after entries) (is_collected entries)
  kept (what.PrepareDestroy id) is keeps = after_none entries e (what.PrepareDestroy id) is refl ∙ none_more (state_after entries) (is_collected entries)
  kept (what.Rollback id) is keeps = after_none entries e (what.Rollback id) is refl ∙ none_more (state_after entries) (is_collected entries)
  kept (what.Settle ino follows upto size) is keeps = after_none entries e (what.Settle ino follows upto size) is refl ∙ none_more (state_after entries) (is_collected entries)
  kept (what.Release ino follows size) is keeps = after_none entries e (what.Release ino follows size) is refl ∙ none_more (state_after entries) (is_collected entries)
  kept (what.Trim id) is keeps = after_none entries e (what.Trim id) is refl ∙ none_more (state_after entries) (is_collected entries)
  kept (what.Purgedone id) is keeps = after_none entries e (what.Purgedone id) is refl ∙ none_more (state_after entries) (is_collected entries)
  kept (what.Barrier number) is keeps = after_none entries e (what.Barrier number) is refl ∙ none_more (state_after entries) (is_collected entries)
  kept (what.Mkdir dir name ino) is keeps = cc
  kept (what.Create dir name ino mode) is keeps = cc
  kept (what.Link ino dir name) is keeps = cc
  kept (what.Unlink dir name) is keeps = cc
  kept (what.Rmdir dir name) is keeps = cc
  kept (what.Rename dir name to_dir to_name) is keeps = cc
  kept (what.OpenFile handle ino writable) is keeps = cc
  kept (what.CloseFile handle) is keeps = cc
  kept (what.Deadfile ino) is keeps = cc

  -- a further name, a handle more or less, and a file dropped
  pub link_more : (ino dir : Ino) (name : List ℕ) → e.what ≡ what.Link ino dir name → uses_after (entries ++ e ∷ []) ≡ linked ino (uses_after entries)
  link_more ino dir name is =
      after_change entries e (what.Link ino dir name) is (change.Link ino dir name) refl legal ∙ none_more (make (state_after entries) e.client (change.Link ino dir name)) (is_collected entries) ∙ uses_linked (state_after entries) (is_collected entries) ino dir name

  pub open_more : (handle : ℕ) (ino : Ino) (writable : Bool) → e.what ≡ what.OpenFile handle ino writable → uses_after (entries ++ e ∷ []) ≡ opened (record { client = e.client; handle = handle; ino = ino; writable = writable }) (uses_after entries)
  open_more handle ino writable is =
      after_change entries e (what.OpenFile handle ino writable) is (change.OpenFile handle ino writable) refl legal ∙ none_more (make (state_after entries) e.client (change.OpenFile handle ino writable)) (is_collected entries)

  pub close_more : (handle : ℕ) → e.what ≡ what.CloseFile handle → uses_after (entries ++ e ∷ []) ≡ closed e.client handle (uses_after entries)
  close_more handle is = after_change entries e (what.CloseFile handle) is (change.CloseFile handle) refl legal ∙ none_more (make (state_after entries) e.client (change.CloseFile handle)) (is_collected entries)

  pub drop_more : (ino : Ino) → e.what ≡ what.Deadfile ino → uses_after (entries ++ e ∷ []) ≡ dropped ino (uses_after entries)
  drop_more ino is = after_none entries e (what.Deadfile ino) is refl ∙ uses_dropped (state_after entries) (is_collected entries) ino

-- A tree of names that stands for a journal stands for it with one more entry, after that entry's calls.
use Rattle.std.proofs.Common.{◌≡◌, ℕ, ◌<◌, ◌≤◌, List, [], ◌∷◌, ◌++◌, Bool, true, false, Option, Some, refl, sym, ap, ◌∙◌, subst, arith, ltb-true, ltb-false, eqb-true}
use Rattle.std.specs.Prelude.{◌||◌, ◌&&◌, nat_lt, if◌then◌else◌}
use Rattle.snap_ids.specs.declared.id.Ino.{Ino}
use Rattle.snap_ids.specs.declared.id.SnapId.{SnapId}
use Rattle.snap_ids.specs.declared.id.TheConstants.{NOSNAP}
use Rattle.snap_ids.specs.declared.values.Kind.{Kind}
use Rattle.snap_ids.specs.declared.values.Kind.TheVariants.{Dir, File}
use Rattle.plain_types.specs.declared.change.Change.TheVariants as change
use Rattle.plain_types.specs.declared.entry.Entry.{Entry}
use Rattle.plain_types.specs.declared.entry.What.{What}
use Rattle.plain_types.specs.declared.entry.What.TheVariants as what
use Rattle.plain_tree.specs.State.{State, Inode, new_directory, next_ino, same_ino, kind_in, lookup, add}
use Rattle.plain_tree.specs.State.{Entry as Dentry}
use Rattle.plain_tree.specs.Change.{new_file, entry, without, renamed, is_file, is_free, is_refused}
use Rattle.plain_journal.specs.Entries.{change_in, with_change, state_after, tree_at, applied_by, applied}
use Rattle.plain_journal.specs.Legal.{is_made_by, fits, is_legal, is_journal}
use Rattle.journal_laws.proofs.Steps.{both_true, last_legal, state_more}
use Rattle.journal_moments.specs.Moments.{is_live_snap, is_above, is_asked, Moves}
use Rattle.journal_moments.proofs.Lives.{live_upto, applied_more, applied_rises}
use Rattle.journal_moments.proofs.Moments.{true_above, above_now, moves_at}
use Rattle.dentry_tree.specs.Dentries.{Tree, entries_at, kind_of, newest}
use Rattle.journal_names.specs.Names.{NamesStand}
use Rattle.journal_names.specs.Calls.{Called}
use Rattle.journal_names.proofs.Facts.{not_true, not_false, same_of, is_made, is_file_kind}
use Rattle.journal_names.proofs.Inodes.{AllLow, kind_push, kind_mode, steady_inodes, low_after}
use Rattle.journal_names.proofs.Entries.{steady_entries, names_above, live_names}

module _ (entries : List Entry) (client : ℕ) (legal : is_journal entries ≡ true) (tree new : Tree) (stands : NamesStand tree entries) where
  abbrev state : State
  state = state_after entries

  abbrev entries_of : State → List Dentry
  entries_of s = s.entries

  abbrev inodes_of : State → List Inode
  inodes_of s = s.inodes

  -- up to the last id the names stay
  earlier : (w : What) → Called entries w tree new → (s : SnapId) → s.0 ≤ applied_by (applied entries) w → (s.0 ≤ applied entries → is_live_snap s state.snaps ≡ true) → entries_at s new ≡ entries_at s tree
  earlier (what.Mkdir dir name ino) call s upto live = call.earlier s upto
  earlier (what.Create dir name ino mode) call s upto live = call.earlier s upto
  earlier (what.Link ino dir name) call s upto live = call.earlier s upto
  earlier (what.Unlink dir name) call s upto live = call.earlier s upto
  earlier (what.Rmdir dir name) call s upto live = call.earlier s upto
  earlier (what.Rename dir name to_dir to_name) call s upto live = call.gains.earlier s upto ∙ call.loses.earlier s upto
  earlier (what.Trim id) call s upto live = call.listed s (call.each s (live upto))
  earlier w call s upto live = ap (entries_at s) call

  -- above it they change as the plain tree's entries do
  later : (w : What) → is_made_by state client (change_in w) ≡ true → Called entries w tree new → (s : SnapId) → applied entries < s.0 → s.0 ≤ NOSNAP.0 → entries_at s new ≡ (with_change state client (change_in w)).entries
  later (what.Mkdir dir name ino) made call s above upto =
      call.later s above upto
      ∙ ap (add (entry dir name ino)) (names_above tree entries legal stands s above upto)
      ∙ sym (ap entries_of (is_made state client (change.Mkdir dir name ino) made))
  later (what.Create dir name ino mode) made call s above upto =
      call.later s above upto
      ∙ ap (add (entry dir name ino)) (names_above tree entries legal stands s above upto)
      ∙ sym (ap entries_of (is_made state client (change.Create dir name ino mode) made))
  later (what.Link ino dir name) made call s above upto =
      call.later s above upto
      ∙ ap (add (entry dir name ino)) (names_above tree entries legal stands s above upto)
      ∙ sym (ap entries_of (is_made state client (change.Link ino dir name) made))
  later (what.Unlink dir name) made call s above upto =
      call.later s above
      ∙ ap (without dir name) (names_above tree entries legal stands s above upto)
      ∙ sym (ap entries_of (is_made state client (change.Unlink dir name) made))
  later (what.Rmdir dir name) made call s above upto =
      call.later s above
      ∙ ap (without dir name) (names_above tree entries legal stands s above upto)
      ∙ sym (ap entries_of (is_made state client (change.Rmdir dir name) made))
  later (what.Rename dir name to_dir to_name) made call s above upto =
      call.gains.later s above upto
      ∙ ap (add (entry to_dir to_name call.ino)) (call.loses.later s above ∙ ap (without dir name) (names_above tree entries legal stands s above upto))
      ∙ sym (ap (λ (found : Option Ino). renamed found dir name to_dir to_name state.entries) found)
      ∙ sym (ap entries_of (is_made state client (change.Rename dir name to_dir to_name) made))
    where
      found : lookup state.entries dir name ≡ Some call.ino
      found = ap (λ (es : List Dentry). lookup es dir name) (sym (live_names tree entries legal stands)) ∙ call.found
  later (what.Trim id) made call s above upto =
      call.later s (omega (arith, stands.changed, above)) upto ∙ names_above tree entries legal stands s above upto
  later w made call s above upto =
      ap (entries_at s) call ∙ names_above tree entries legal stands s above upto ∙ sym (steady_entries state client (change_in w) refl)

  -- what a new inode is
  grown : (new_one : Inode) (kind : Kind) → new_one.kind ≡ kind → new_one.ino.0 ≡ (next_ino state).0 → (x : Ino) → (if same_ino x new_one.ino then kind else kind_of tree x) ≡ kind_in (state.inodes ++ new_one ∷ []) x
  grown new_one kind is next x =
      ap (λ (k : Kind). if same_ino x new_one.ino then k else kind_of tree x) (sym is)
      ∙ ap (λ (k : Kind). if same_ino x new_one.ino then new_one.kind else k) (stands.kinds x)
      ∙ sym (kind_push state.inodes new_one x (subst (λ (n : ℕ). AllLow n state.inodes) (sym next) (low_after entries legal).low))

  -- an inode that gets a further name stays what it is
  named_again : (ino : Ino) (kind : Kind) → kind_of tree ino ≡ kind → (x : Ino) → (if same_ino x ino then kind else kind_of tree x) ≡ kind_of tree x
  named_again ino kind is x = go (same_ino x ino) refl
    where
      go : (b : Bool) → same_ino x ino ≡ b → (if b then kind else kind_of tree x) ≡ kind_of tree x
      go true same = sym is ∙ ap (kind_of tree) (sym (same_of x ino same))
      go false other = refl

  same_kinds : (w : What) → is_made_by state client (change_in w) ≡ true → (x : Ino) → kind_of new x ≡ kind_of tree x → (with_change state client (change_in w)).inodes ≡ state.inodes → kind_of new x ≡ kind_in (with_change state client (change_in w)).inodes x
  same_kinds w made x kept same = kept ∙ stands.kinds x ∙ ap (λ (inodes : List Inode). kind_in inodes x) (sym same)

  -- each inode is what the plain tree has it as
  kinds : (w : What) → is_made_by state client (change_in w) ≡ true → fits entries w ≡ true → Called entries w tree new → (x : Ino) → kind_of new x ≡ kind_in (with_change state client (change_in w)).inodes x
  kinds (what.Mkdir dir name ino) made fine call x =
      call.kinds x
      ∙ grown (new_directory ino) Dir refl (eqb-true ino.0 (next_ino state).0 fine) x
      ∙ sym (ap (λ (s : State). kind_in s.inodes x) (is_made state client (change.Mkdir dir name ino) made))
  kinds (what.Create dir name ino mode) made fine call x =
      call.kinds x
      ∙ grown (new_file ino mode) File refl (eqb-true ino.0 (next_ino state).0 fine) x
      ∙ sym (ap (λ (s : State). kind_in s.inodes x) (is_made state client (change.Create dir name ino mode) made))
  kinds (what.Link ino dir name) made fine call x =
      same_kinds (what.Link ino dir name) made x (call.kinds x ∙ named_again ino File (stands.kinds ino ∙ is_file_kind state ino file) x) (steady_inodes state client (change_in (what.Link ino dir name)) refl)
    where
      file : is_file state ino ≡ true
      file = (both_true (is_file state ino) (is_free state dir name) (not_false (is_file state ino && is_free state dir name) (not_true (is_refused state client (change.Link ino dir name)) made))).0
  kinds (what.Unlink dir name) made fine call x = same_kinds (what.Unlink dir name) made x (call.kinds x) (steady_inodes state client (change_in (what.Unlink dir name)) refl)
  kinds (what.Rmdir dir name) made fine call x = same_kinds (what.Rmdir dir name) made x (call.kinds x) (steady_inodes state client (change_in (what.Rmdir dir name)) refl)
  kinds (what.Rename dir name to_dir to_name) made fine call x =
      same_kinds (what.Rename dir name to_dir to_name) made x
      (call.gains.kinds x
      ∙ ap (λ (k : Kind). if same_ino x call.ino then kind_of tree call.ino else k) (call.loses.kinds x)
      ∙ named_again call.ino (kind_of tree call.ino) refl x)
      (steady_inodes state client (change_in (what.Rename dir name to_dir to_name)) refl)
  kinds (what.Chmod ino mode) made fine call x =
      ap (λ (t : Tree). kind_of t x) call
      ∙ stands.kinds x
      ∙ sym (kind_mode ino mode state.inodes x)
      ∙ sym (ap (λ (s : State). kind_in s.inodes x) (is_made state client (change.Chmod ino mode) made))
  kinds (what.Trim id) made fine call x = call.kinds x ∙ stands.kinds x
  kinds w made fine call x = same_kinds w made x (ap (λ (t : Tree). kind_of t x) call) (steady_inodes state client (change_in w) refl)

  -- no name began or ended after the last id
  changed : (w : What) → Called entries w tree new → newest new ≤ applied entries
  changed (what.Mkdir dir name ino) call = call.changed
  changed (what.Create dir name ino mode) call = call.changed
  changed (what.Link ino dir name) call = call.changed
  changed (what.Unlink dir name) call = omega (arith, call.changed, stands.changed)
  changed (what.Rmdir dir name) call = omega (arith, call.changed, stands.changed)
  changed (what.Rename dir name to_dir to_name) call = call.gains.changed
  changed (what.Trim id) call = omega (arith, call.changed, stands.changed)
  changed w call = subst (λ (t : Tree). newest t ≤ applied entries) (sym call) stands.changed

-- a tree of names after the calls of one more entry
pub follows : (tree new : Tree) (entries : List Entry) (e : Entry) → is_journal (entries ++ e ∷ []) ≡ true → NamesStand tree entries → Called entries e.what tree new → NamesStand new (entries ++ e ∷ [])
follows tree new entries e both stands call = record {
  names = λ s asked. by_order s (moves_at entries e both s asked) asked (nat_lt (applied (entries ++ e ∷ [])) s.0) refl;
  kinds = λ x. kinds entries e.client l.0 tree new stands e.what fine.0 fine.1 call x ∙ sym (ap (λ (s : State). kind_in s.inodes x) (state_more entries e));
  changed = omega (arith, changed entries e.client l.0 tree new stands e.what call, applied_rises entries e l.1);
}
  where
    l : (is_journal entries ≡ true) × (is_legal entries e ≡ true)
    l = last_legal [] entries e both

    fine : (is_made_by (state_after entries) e.client (change_in e.what) ≡ true) × (fits entries e.what ≡ true)
    fine = both_true (is_made_by (state_after entries) e.client (change_in e.what)) (fits entries e.what) l.1

    -- what is asked for up to the last id is live
    low_live : (s : SnapId) → is_asked entries s ≡ true → s.0 ≤ applied entries → is_live_snap s (state_after entries).snaps ≡ true
    low_live s asked upto = go (is_live_snap s (state_after entries).snaps) asked
      where
        go : (b : Bool) → (b || is_above entries s) ≡ true → b ≡ true
        go true any = refl
        go false any = absurd (omega (arith, (true_above entries s any).0, upto))

    -- what is asked for above it isn't above that of what is live
    high_upto : (s : SnapId) → is_asked (entries ++ e ∷ []) s ≡ true → applied (entries ++ e ∷ []) < s.0 → s.0 ≤ NOSNAP.0
    high_upto s asked above = go (is_live_snap s (state_after (entries ++ e ∷ [])).snaps) refl asked
      where
        go : (b : Bool) → is_live_snap s (state_after (entries ++ e ∷ [])).snaps ≡ b → (b || is_above (entries ++ e ∷ []) s) ≡ true → s.0 ≤ NOSNAP.0
        go true live any = absurd (omega (arith, live_upto (entries ++ e ∷ []) both s live, above))
        go false live any = (true_above (entries ++ e ∷ []) s any).1

    by_order : (s : SnapId) → Moves entries e s → is_asked (entries ++ e ∷ []) s ≡ true → (b : Bool) → nat_lt (applied (entries ++ e ∷ [])) s.0 ≡ b → entries_at s new ≡ (tree_at (entries ++ e ∷ []) s).entries
    by_order s moves asked true is =
        let above : applied (entries ++ e ∷ []) < s.0 = ltb-true (applied (entries ++ e ∷ [])) s.0 is in
        later entries e.client l.0 tree new stands e.what fine.0 call s (omega (arith, applied_rises entries e l.1, above)) (high_upto s asked above)
        ∙ sym (ap (λ (t : State). t.entries) (above_now (entries ++ e ∷ []) both s above ∙ state_more entries e))
    by_order s moves asked false is =
        let upto : s.0 ≤ applied (entries ++ e ∷ []) = ltb-false (applied (entries ++ e ∷ [])) s.0 is in
        earlier entries e.client l.0 tree new stands e.what call s (omega (arith, upto, applied_more entries e)) (low_live s moves.asked)
        ∙ stands.names s moves.asked
        ∙ sym (ap (λ (t : State). t.entries) (moves.stays upto))

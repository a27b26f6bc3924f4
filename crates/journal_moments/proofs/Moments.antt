-- The tree at each id that is asked for, after one more entry.
use Rattle.std.proofs.Common.{◌≡◌, ℕ, ◌<◌, ◌≤◌, List, [], ◌∷◌, ◌++◌, Bool, true, false, refl, sym, ap, ◌∙◌, arith, ltb-true, leb-true}
use Rattle.std.proofs.lemmas.Bool.Decides.{nat_tests}
use Rattle.std.specs.Prelude.{◌||◌, nat_lt, nat_le}
use Rattle.snap_ids.specs.declared.id.SnapId.{SnapId}
use Rattle.snap_ids.specs.declared.id.TheConstants.{NOSNAP}
use Rattle.plain_types.specs.declared.entry.Entry.{Entry}
use Rattle.plain_tree.specs.State.{State}
use Rattle.plain_journal.specs.Entries.{change_in, after_entry, state_after, tree_at, makes_snap, applied}
use Rattle.plain_journal.specs.Legal.{is_made_by, fits, is_legal, is_journal}
use Rattle.journal_laws.specs.Entries.{was_made}
use Rattle.journal_laws.proofs.Steps.{both_true, last_legal, state_more}
use Rattle.journal_laws.proofs.Rising.{made_upto_applied}
use Rattle.journal_moments.specs.Moments.{is_live_snap, is_above, is_asked, Moves}
use Rattle.journal_moments.proofs.Trees.{tree_stays, tree_now, tree_made}
use Rattle.journal_moments.proofs.Lives.{or_left, or_right, live_more, live_made, live_upto, applied_more, new_id, applied_rises, applied_below}

-- no entry made what is above the last id
pub above_unmade : (entries : List Entry) → is_journal entries ≡ true → (s : SnapId) → applied entries < s.0 → was_made s entries ≡ false
above_unmade entries legal s above = go (was_made s entries) refl
  where
    go : (b : Bool) → was_made s entries ≡ b → b ≡ false
    go true made = absurd (omega (arith, made_upto_applied entries legal s made, above))
    go false none = refl

-- so the tree there is that of now
pub above_now : (entries : List Entry) → is_journal entries ≡ true → (s : SnapId) → applied entries < s.0 → tree_at entries s ≡ state_after entries
above_now entries legal s above = tree_now entries s (above_unmade entries legal s above)

less_true : (m n : ℕ) → m < n → nat_lt m n ≡ true
less_true m n h = grind (arith, nat_tests)

upto_true : (m n : ℕ) → m ≤ n → nat_le m n ≡ true
upto_true m n h = grind (arith, nat_tests)

pub above_true : (entries : List Entry) (s : SnapId) → applied entries < s.0 → s.0 ≤ NOSNAP.0 → is_above entries s ≡ true
above_true entries s above upto = rw (less_true (applied entries) s.0 above, upto_true s.0 NOSNAP.0 upto) refl

pub true_above : (entries : List Entry) (s : SnapId) → is_above entries s ≡ true → (applied entries < s.0) × (s.0 ≤ NOSNAP.0)
true_above entries s is =
    let l = both_true (nat_lt (applied entries) s.0) (nat_le s.0 NOSNAP.0) is in
    (ltb-true (applied entries) s.0 l.0, leb-true s.0 NOSNAP.0 l.1)

pub above_asked : (entries : List Entry) (s : SnapId) → applied entries < s.0 → s.0 ≤ NOSNAP.0 → is_asked entries s ≡ true
above_asked entries s above upto = or_right (is_live_snap s (state_after entries).snaps) (is_above entries s) (above_true entries s above upto)

-- the last id is below that of what is live
pub applied_below_nosnap : (entries : List Entry) → is_journal entries ≡ true → applied entries < NOSNAP.0
applied_below_nosnap entries legal = omega (arith, applied_below entries legal)

-- which is always asked for
pub nosnap_asked : (entries : List Entry) → is_journal entries ≡ true → is_asked entries NOSNAP ≡ true
nosnap_asked entries legal = above_asked entries NOSNAP (applied_below_nosnap entries legal) (omega arith)

-- the tree of a new snapshot is that of now
pub new_tree : (entries : List Entry) (e : Entry) (s : SnapId) → is_journal (entries ++ e ∷ []) ≡ true → makes_snap s e.what ≡ true → tree_at (entries ++ e ∷ []) s ≡ state_after entries
new_tree entries e s legal makes =
    let l = last_legal [] entries e legal in
    let fine = (both_true (is_made_by (state_after entries) e.client (change_in e.what)) (fits entries e.what) l.1).1 in
    tree_made entries e s (above_unmade entries l.0 s (new_id entries e.what s fine makes).0) makes

module _ (entries : List Entry) (e : Entry) (legal : is_journal entries ≡ true) (fine : is_legal entries e ≡ true) (both : is_journal (entries ++ e ∷ []) ≡ true) (s : SnapId) where
  -- a snapshot that was live
  of_old : is_live_snap s (state_after entries).snaps ≡ true → Moves entries e s
  of_old live = record {
    asked = or_left (is_live_snap s (state_after entries).snaps) (is_above entries s) live;
    stays = λ upto. tree_stays entries e s (live_made entries legal s live);
    changes = λ above. absurd (omega (arith, live_upto entries legal s live, applied_rises entries e fine, above));
  }

  -- one that is made now
  of_new : makes_snap s e.what ≡ true → Moves entries e s
  of_new makes =
      let id = new_id entries e.what s (both_true (is_made_by (state_after entries) e.client (change_in e.what)) (fits entries e.what) fine).1 makes in
      record {
        asked = above_asked entries s id.0 (omega (arith, id.1));
        stays = λ upto. new_tree entries e s both makes ∙ sym (above_now entries legal s id.0);
        changes = λ above. absurd (omega (arith, applied_more entries e, id.2, above));
      }

  -- what is live
  of_above : applied (entries ++ e ∷ []) < s.0 → s.0 ≤ NOSNAP.0 → Moves entries e s
  of_above above upto =
      let before : applied entries < s.0 = omega (arith, applied_rises entries e fine, above) in
      record {
        asked = above_asked entries s before upto;
        stays = λ low. absurd (omega (arith, low, above));
        changes = λ h. above_now (entries ++ e ∷ []) both s above ∙ state_more entries e ∙ ap (λ (state : State). after_entry state e) (sym (above_now entries legal s before));
      }

  of_asked : is_asked (entries ++ e ∷ []) s ≡ true → Moves entries e s
  of_asked is = go (is_live_snap s (state_after (entries ++ e ∷ [])).snaps) refl is
    where
      old_or_new : (b : Bool) → is_live_snap s (state_after entries).snaps ≡ b → (b || makes_snap s e.what) ≡ true → Moves entries e s
      old_or_new true live any = of_old live
      old_or_new false not_live any = of_new any

      go : (b : Bool) → is_live_snap s (state_after (entries ++ e ∷ [])).snaps ≡ b → (b || is_above (entries ++ e ∷ []) s) ≡ true → Moves entries e s
      go true live any = old_or_new (is_live_snap s (state_after entries).snaps) refl (live_more entries e s live)
      go false not_live any = let l = true_above (entries ++ e ∷ []) s any in of_above l.0 l.1

-- at each id that is asked for then
pub moves_at : (entries : List Entry) (e : Entry) → is_journal (entries ++ e ∷ []) ≡ true → (s : SnapId) → is_asked (entries ++ e ∷ []) s ≡ true → Moves entries e s
moves_at entries e legal s asked = let l = last_legal [] entries e legal in of_asked entries e l.0 l.1 legal s asked

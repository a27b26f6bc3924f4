-- Realms begin at the same inodes in both vocabularies.
use Rattle.std.proofs.Common.{◌≡◌, ℕ, ◌≤◌, List, [], ◌∷◌, ◌++◌, Bool, true, false, cond, not, ◌||◌, ◌&&◌, Option, None, Some, ◌⊎◌, inl, inr, refl, sym, ap, ◌∙◌, subst, arith, ltb, leb}
use Rattle.std.proofs.lemmas.Bool.Decides.{nat_tests}
use Rattle.std.specs.Prelude.{nat_lt, nat_le, fold, if◌then◌else◌}
use Rattle.std.specs.List.{list_any}
use Rattle.snap_ids.specs.declared.id.Ino.{Ino}
use Rattle.snap_ids.specs.declared.id.TheConstants.{ROOT, STRAY, GLOBAL, FIRST_INO}
use Rattle.plain_types.specs.declared.change.Change.TheVariants as change
use Rattle.plain_types.specs.declared.entry.Entry.{Entry}
use Rattle.plain_types.specs.declared.entry.What.{What}
use Rattle.plain_types.specs.declared.entry.What.TheVariants as what
use Rattle.plain_tree.specs.State.{State, lookup}
use Rattle.plain_tree.specs.State.{start as empty}
use Rattle.plain_tree.specs.Change.{is_directory, is_file, is_free, is_free_snap, is_refused, is_movable, names_one}
use Rattle.snap_ids.specs.Name.{is_new_snap}
use Rattle.plain_journal.specs.Entries.{change_in, after_entry, state_after}
use Rattle.plain_journal.specs.Coverage.{has_two_names, is_global}
use Rattle.plain_journal.specs.Realms.{realm_in, moved, strayed, mark_by, marks_from, marks, realm_at}
use Rattle.plain_journal.specs.Legal.{is_made_by, fits, is_legal, is_journal}
use Rattle.realm_story.specs.Family.{Made, Family, same_ino, member, is_member, above_by, way_up, is_on, is_root, is_in_global, is_marked, realm_of, leaves, leaves_realm, move_to, without, forget}
use Rattle.realm_story.specs.Family.{nearest as nearest_told}
use Rattle.realm_story.proofs.Facts.{both_of, same_of, same_sym}
use Rattle.realm_story.proofs.Same.{or_first, or_second}
use Rattle.journal_laws.proofs.Named.{count}
use Rattle.journal_realms.specs.Above.{makes, is_held}
use Rattle.journal_realms.specs.Told.{move_found, forget_found, snap_of, drop_found, told, family_of}
use Rattle.journal_realms.proofs.Family.{family_more}
use Rattle.journal_realms.proofs.Parents.{length_parents}
use Rattle.journal_realms.proofs.Members.{left_self}
use Rattle.journal_realms.proofs.Tree.{IsTree, IsFolder, HeadIs, head_dirs, above_of, bound_of, less_apart, not_low, above_none, root_outside, folder_below}
use Rattle.journal_realms.proofs.Kept.{move_in, move_out, not_true, not_false, free_of, folder_of, found_member}
use Rattle.journal_realms.proofs.Trees.{tied_after}
use Rattle.journal_realms.proofs.Births.{bound, bound_more, makes_next, same_birth}
use Rattle.journal_realms.proofs.Globals.{links, linked_member, inside_more, same_global}
use Rattle.journal_realms.proofs.Realms.{parent_found, Agree, folder_realm, stray_realm, member_realm}
use Rattle.journal_realms.proofs.Held.{held_member}
use Rattle.journal_realms.proofs.Induct.{legal_more, of_each}

-- the marks after one entry more
from_more : (marked : List Ino) (state : State) (entries : List Entry) (e : Entry) → marks_from marked state (entries ++ e ∷ []) ≡ mark_by (marks_from marked state entries) (fold after_entry state entries) e.what
from_more marked state [] e = refl
from_more marked state (f ∷ entries) e = from_more (mark_by marked state f.what) (after_entry state f) entries e

marks_more : (done : List Entry) (e : Entry) → marks (done ++ e ∷ []) ≡ mark_by (marks done) (state_after done) e.what
marks_more done e = from_more [] empty done e

-- one mark more on both sides
agree_both : (y : Ino) (marked told : List Ino) (x : Ino) → Agree marked told x → Agree (y ∷ marked) (y ∷ told) x
agree_both y marked told x is = go (same_ino x y)
  where
    or_true : (b : Bool) → (b || true) ≡ true
    or_true true = refl
    or_true false = refl

    go : (s : Bool) → (nat_le x.0 GLOBAL.0 || (s || list_any (same_ino x) marked)) ≡ (is_root x || (s || is_on x told))
    go true = or_true (nat_le x.0 GLOBAL.0) ∙ sym (or_true (is_root x))
    go false = is

-- a mark of another inode on one side
agree_other : (y : Ino) (marked told : List Ino) (x : Ino) → same_ino y x ≡ false → Agree marked told x → Agree (y ∷ marked) told x
agree_other y marked told x apart is =
    let off : same_ino x y ≡ false = same_sym x y ∙ apart in
    rw off is

without_off : (y : Ino) (told : List Ino) (x : Ino) → same_ino y x ≡ false → is_on x (without y told) ≡ is_on x told
without_off y [] x apart = refl
without_off y (z ∷ told) x apart = go (same_ino z y) refl (without_off y told x apart)
  where
    go : (b : Bool) → same_ino z y ≡ b → is_on x (without y told) ≡ is_on x told → is_on x (cond (not b) (z ∷ without y told) (without y told)) ≡ (same_ino x z || is_on x told)
    go true e rest =
        let off : same_ino x z ≡ false = ap (same_ino x) (same_of z y e) ∙ same_sym x y ∙ apart in
        rw off rest
    go false e rest = ap (λ (b : Bool). same_ino x z || b) rest

module _ (state : State) (client : ℕ) (family : Family) (tree : IsTree state.entries state.inodes family.members) (marked : List Ino) (agree : (x : Ino) → is_member (member family.members x) ≡ true → is_in_global family.members x ≡ false → Agree marked family.marked x) where
  -- a move leaves the realm in both
  leaves_is : (dir to y : Ino) → is_in_global family.members y ≡ false → above_by (member family.members y) ≡ way_up family.members dir → leaves_realm y to family ≡ not (same_ino (realm_of family dir) (realm_of family to))
  leaves_is dir to y outside way =
      ap (λ (b : Bool). cond b false (leaves family (above_by (member family.members y)) to)) outside
      ∙ ap (λ (w : List Ino). leaves family w to) way

  outside_moved : (dir to y x : Ino) → is_in_global family.members y ≡ false → above_by (member family.members y) ≡ way_up family.members dir → realm_in marked state dir ≡ realm_of family dir → realm_in marked state to ≡ realm_of family to → Agree marked family.marked x → Agree (moved marked state dir to (Some y)) (move_to y to family).marked x
  outside_moved dir to y x outside way here there is =
      subst (λ (f : Family). Agree (moved marked state dir to (Some y)) f.marked x) (sym (move_out y to family outside))
      (go (same_ino (realm_of family dir) (realm_of family to)) (λ i. same_ino (here i) (there i)) (leaves_is dir to y outside way))
    where
      go : (s : Bool) → same_ino (realm_in marked state dir) (realm_in marked state to) ≡ s → leaves_realm y to family ≡ not s → Agree (moved marked state dir to (Some y)) (if leaves_realm y to family then y ∷ family.marked else family.marked) x
      go true same leaves = rw (same, leaves) is
      go false same leaves = rw (same, leaves) (agree_both y marked family.marked x is)

  moved_other : (dir to y x : Ino) → same_ino y x ≡ false → Agree marked family.marked x → Agree (moved marked state dir to (Some y)) family.marked x
  moved_other dir to y x apart is = go (same_ino (realm_in marked state dir) (realm_in marked state to))
    where
      go : (s : Bool) → Agree (if s then marked else y ∷ marked) family.marked x
      go true = is
      go false = agree_other y marked family.marked x apart is

  inside_apart : (y x : Ino) → is_in_global family.members y ≡ true → is_in_global family.members x ≡ false → same_ino y x ≡ false
  inside_apart y x inside outside = go (same_ino y x) refl
    where
      go : (b : Bool) → same_ino y x ≡ b → b ≡ false
      go true same =
          let never : true ≡ false = sym inside ∙ ap (is_in_global family.members) (same_of y x same) ∙ outside in
          cc
      go false is = refl

  -- the way above what has a name in a directory
  way_above : (dir : Ino) (name : List ℕ) (y : Ino) → lookup state.entries dir name ≡ Some y → is_in_global family.members y ≡ false → above_by (member family.members y) ≡ way_up family.members dir
  way_above dir name y found outside =
      tree.ways y (found_member state client family tree dir name y found) outside
      ∙ ap (above_of family.members) (parent_found dir name state.entries y found (tree.few y outside))

  from_folder : (dir : Ino) (name : List ℕ) (y : Ino) → lookup state.entries dir name ≡ Some y → is_in_global family.members y ≡ false → IsFolder state.inodes family.members dir
  from_folder dir name y found outside =
      subst (HeadIs (IsFolder state.inodes family.members)) (parent_found dir name state.entries y found (tree.few y outside))
      (head_dirs (IsFolder state.inodes family.members) state.entries y tree.dirs)

  renamed_agree : (dir : Ino) (name : List ℕ) (to : Ino) (found : Option Ino) → lookup state.entries dir name ≡ found → IsFolder state.inodes family.members to → (x : Ino) → is_in_global family.members x ≡ false → Agree marked family.marked x → Agree (moved marked state dir to found) (move_found found to family).marked x
  renamed_agree dir name to None found folder x outside is = is
  renamed_agree dir name to (Some y) found folder x outside is = go (is_in_global family.members y) refl
    where
      go : (g : Bool) → is_in_global family.members y ≡ g → Agree (moved marked state dir to (Some y)) (move_to y to family).marked x
      go true inside =
          subst (λ (f : Family). Agree (moved marked state dir to (Some y)) f.marked x) (sym (move_in y to family inside))
          (moved_other dir to y x (inside_apart y x inside outside) is)
      go false out =
          outside_moved dir to y x out (way_above dir name y found out) (folder_realm state family tree marked agree dir (from_folder dir name y found out)) (folder_realm state family tree marked agree to folder) is

  unlinked_agree : (dir : Ino) (name : List ℕ) (found : Option Ino) → lookup state.entries dir name ≡ found → (x : Ino) → is_in_global family.members x ≡ false → Agree marked family.marked x → Agree (strayed marked state dir found) (move_found found STRAY family).marked x
  unlinked_agree dir name None found x outside is = is
  unlinked_agree dir name (Some y) found x outside is = go (is_in_global family.members y) refl
    where
      single : (n : ℕ) → n ≤ 1 → ltb 1 n ≡ false
      single n h = grind (arith, nat_tests)

      go : (g : Bool) → is_in_global family.members y ≡ g → Agree (strayed marked state dir (Some y)) (move_to y STRAY family).marked x
      go true inside =
          subst (λ (f : Family). Agree (strayed marked state dir (Some y)) f.marked x) (sym (move_in y STRAY family inside))
          (by_names (has_two_names state y))
        where
          by_names : (b : Bool) → Agree (if b then marked else moved marked state dir STRAY (Some y)) family.marked x
          by_names true = is
          by_names false = moved_other dir STRAY y x (inside_apart y x inside outside) is
      go false out =
          let one : has_two_names state y ≡ false = single (count state.entries y) (omega (arith, tree.few y out, length_parents state.entries y)) in
          rw one
          (outside_moved dir STRAY y x out (way_above dir name y found out) (folder_realm state family tree marked agree dir (from_folder dir name y found out)) (stray_realm state family tree marked agree) is)

  removed_agree : (found : Option Ino) (x : Ino) → is_member (member (forget_found found family).members x) ≡ true → Agree marked family.marked x → Agree marked (forget_found found family).marked x
  removed_agree None x there is = is
  removed_agree (Some y) x there is = go (same_ino y x) refl
    where
      go : (b : Bool) → same_ino y x ≡ b → Agree marked (forget y family).marked x
      go true same =
          let gone : is_member (member (forget y family).members x) ≡ false = ap (λ (z : Ino). is_member (member (forget y family).members z)) (sym (same_of y x same)) ∙ ap is_member (left_self y family.members) in
          let never : true ≡ false = sym there ∙ gone in
          cc
      go false apart = is ∙ ap (λ (b : Bool). is_root x || b) (sym (without_off y family.marked x apart))

  agree_by : (w : What) → is_made_by state client (change_in w) ≡ true → (x : Ino) → links w x ≡ false → is_member (member (told state w family).members x) ≡ true → is_in_global family.members x ≡ false → Agree marked family.marked x → Agree (mark_by marked state w) (told state w family).marked x
  agree_by (what.Link ino dir name) made x apart there outside is = is ∙ ap (λ (b : Bool). is_root x || b) (sym (without_off ino family.marked x apart))
  agree_by (what.Unlink dir name) made x apart there outside is = unlinked_agree dir name (lookup state.entries dir name) refl x outside is
  agree_by (what.Rmdir dir name) made x apart there outside is = removed_agree (lookup state.entries dir name) x there is
  agree_by (what.Rename dir name to to_name) made x apart there outside is =
      let l = both_of (names_one (is_movable state to) (lookup state.entries dir name)) (is_free state to to_name) (not_false (names_one (is_movable state to) (lookup state.entries dir name) && is_free state to to_name) (not_true (is_refused state client (change.Rename dir name to to_name)) made)) in
      renamed_agree dir name to (lookup state.entries dir name) refl (free_of state client family tree to to_name l.1).0 x outside is
  agree_by (what.Mksnap id dir name) made x apart there outside is = agree_both dir marked family.marked x is
  agree_by (what.Rmsnap id) made x apart there outside is = dropped (snap_of family.snaps id)
    where
      dropped : (found : Option Made) → Agree marked (drop_found found family).marked x
      dropped None = is
      dropped (Some snap) = is
  agree_by w made x apart there outside is = is

  -- what is born now has no mark
  makes_agree : (w : What) (x : Ino) → makes x w ≡ true → Agree marked family.marked x → Agree (mark_by marked state w) (told state w family).marked x
  makes_agree (what.Mkdir dir name ino) x is agrees = agrees
  makes_agree (what.Create dir name ino mode) x is agrees = agrees
  makes_agree w x is agrees = cc

  -- no mark is one of what is not yet made
  abbrev Clean : List Ino → List Ino → Ino → Type 0
  Clean ms ts x = (list_any (same_ino x) ms ≡ false) × (is_on x ts ≡ false)

  clean_more : (y x : Ino) (ms : List Ino) → same_ino x y ≡ false → list_any (same_ino x) ms ≡ false → (s : Bool) → list_any (same_ino x) (if s then ms else y ∷ ms) ≡ false
  clean_more y x ms apart is true = is
  clean_more y x ms apart is false = rw apart is

  clean_told : (y x : Ino) (ts : List Ino) → same_ino x y ≡ false → is_on x ts ≡ false → (s : Bool) → is_on x (if s then y ∷ ts else ts) ≡ false
  clean_told y x ts apart is true = rw apart is
  clean_told y x ts apart is false = is

  member_apart : (y x : Ino) → bound_of state.inodes ≤ x.0 → is_member (member family.members y) ≡ true → same_ino x y ≡ false
  member_apart y x above there = same_sym x y ∙ less_apart y x (omega (arith, tree.low y there, above))

  clean_move : (y parent x : Ino) → same_ino x y ≡ false → is_on x family.marked ≡ false → is_on x (move_to y parent family).marked ≡ false
  clean_move y parent x apart is = go (is_in_global family.members y) refl
    where
      go : (g : Bool) → is_in_global family.members y ≡ g → is_on x (move_to y parent family).marked ≡ false
      go true inside = ap (λ (f : Family). is_on x f.marked) (move_in y parent family inside) ∙ is
      go false out = ap (λ (f : Family). is_on x f.marked) (move_out y parent family out) ∙ clean_told y x family.marked apart is (leaves_realm y parent family)

  clean_renamed : (dir : Ino) (name : List ℕ) (to : Ino) (found : Option Ino) → lookup state.entries dir name ≡ found → (x : Ino) → bound_of state.inodes ≤ x.0 → Clean marked family.marked x → Clean (moved marked state dir to found) (move_found found to family).marked x
  clean_renamed dir name to None found x above is = is
  clean_renamed dir name to (Some y) found x above is =
      let apart = member_apart y x above (found_member state client family tree dir name y found) in
      (clean_more y x marked apart is.0 (same_ino (realm_in marked state dir) (realm_in marked state to)), clean_move y to x apart is.1)

  clean_unlinked : (dir : Ino) (name : List ℕ) (found : Option Ino) → lookup state.entries dir name ≡ found → (x : Ino) → bound_of state.inodes ≤ x.0 → Clean marked family.marked x → Clean (strayed marked state dir found) (move_found found STRAY family).marked x
  clean_unlinked dir name None found x above is = is
  clean_unlinked dir name (Some y) found x above is = (by_names (has_two_names state y), (clean_renamed dir name STRAY (Some y) found x above is).1)
    where
      by_names : (b : Bool) → list_any (same_ino x) (if b then marked else moved marked state dir STRAY (Some y)) ≡ false
      by_names true = is.0
      by_names false = (clean_renamed dir name STRAY (Some y) found x above is).0

  clean_removed : (dir : Ino) (name : List ℕ) (found : Option Ino) → lookup state.entries dir name ≡ found → (x : Ino) → bound_of state.inodes ≤ x.0 → is_on x family.marked ≡ false → is_on x (forget_found found family).marked ≡ false
  clean_removed dir name None found x above is = is
  clean_removed dir name (Some y) found x above is =
      without_off y family.marked x (same_sym y x ∙ member_apart y x above (found_member state client family tree dir name y found)) ∙ is

  clean_step : (w : What) → is_made_by state client (change_in w) ≡ true → (x : Ino) → bound_of state.inodes ≤ x.0 → Clean marked family.marked x → Clean (mark_by marked state w) (told state w family).marked x
  clean_step (what.Link ino dir name) made x above is =
      let l = both_of (is_file state ino) (is_free state dir name) (not_false (is_file state ino && is_free state dir name) (not_true (is_refused state client (change.Link ino dir name)) made)) in
      (is.0, without_off ino family.marked x (same_sym ino x ∙ member_apart ino x above (linked_member state client family tree ino l.0).1) ∙ is.1)
  clean_step (what.Unlink dir name) made x above is = clean_unlinked dir name (lookup state.entries dir name) refl x above is
  clean_step (what.Rmdir dir name) made x above is = (is.0, clean_removed dir name (lookup state.entries dir name) refl x above is.1)
  clean_step (what.Rename dir name to to_name) made x above is = clean_renamed dir name to (lookup state.entries dir name) refl x above is
  clean_step (what.Mksnap id dir name) made x above is =
      let fine = not_false (is_free_snap state dir name) (not_true (is_refused state client (change.Mksnap id dir name)) made) in
      let folder = folder_of state client family tree dir (snap_folder dir name fine) in
      let apart = same_sym x dir ∙ less_apart dir x (omega (arith, folder_below state.entries state.inodes family.members tree dir folder, above)) in
      (rw apart is.0, rw apart is.1)
    where
      snap_folder : (dir : Ino) (name : List ℕ) → is_free_snap state dir name ≡ true → is_directory state dir ≡ true
      snap_folder dir name fine = first (is_directory state dir) (is_new_snap name) _ _ _ fine
        where
          first : (a b c d e : Bool) → ((((a && b) && c) && d) && e) ≡ true → a ≡ true
          first true b c d e is = refl
          first false b c d e is = cc
  clean_step (what.Rmsnap id) made x above is = (is.0, dropped (snap_of family.snaps id))
    where
      dropped : (found : Option Made) → is_on x (drop_found found family).marked ≡ false
      dropped None = is.1
      dropped (Some snap) = is.1
  clean_step w made x above is = is

-- where realms begin after a journal
pub record Marked (done : List Entry) : Type 0 where
  pub agree : (x : Ino) → is_member (member (family_of done).members x) ≡ true → is_in_global (family_of done).members x ≡ false → Agree (marks done) (family_of done).marked x
  pub clean : (x : Ino) → bound done ≤ x.0 → (list_any (same_ino x) (marks done) ≡ false) × (is_on x (family_of done).marked ≡ false)

high_apart : (done : List Entry) → is_journal done ≡ true → (x : Ino) → is_member (member (family_of done).members x) ≡ true → same_ino GLOBAL x ≡ false
high_apart done legal x there = less_apart GLOBAL x (omega (arith, (tied_after done legal).high x there))

pub marked_after : (entries : List Entry) → is_journal entries ≡ true → Marked entries
marked_after entries legal = of_each Marked (record { agree = λ x is. cc; clean = λ x above. (refl, refl) }) more entries legal
  where
    early : (n : ℕ) → FIRST_INO.0 ≤ n → (leb n 3 ≡ false)
    early n h = grind (arith, nat_tests)

    or_first_false : (a b : Bool) → a ≡ false → b ≡ false → (a || b) ≡ false
    or_first_false a b x y = rw (x, y) refl

    and_false : (a b : Bool) → b ≡ false → (a && b) ≡ false
    and_false true b is = is
    and_false false b is = refl

    more : (done : List Entry) (e : Entry) → is_journal done ≡ true → Marked done → is_legal done e ≡ true → Marked (done ++ e ∷ [])
    more done e legal old fine =
        record {
          agree = λ x there outside. agree_now x there outside;
          clean = λ x above. clean_now x above;
        }
      where
        made : is_made_by (state_after done) e.client (change_in e.what) ≡ true
        made = (both_of (is_made_by (state_after done) e.client (change_in e.what)) (fits done e.what) fine).0

        clean_now : (x : Ino) → bound (done ++ e ∷ []) ≤ x.0 → (list_any (same_ino x) (marks (done ++ e ∷ [])) ≡ false) × (is_on x (family_of (done ++ e ∷ [])).marked ≡ false)
        clean_now x above =
            let below : bound done ≤ x.0 = omega (arith, bound_more done e fine, above) in
            let step = clean_step (state_after done) e.client (family_of done) (tied_after done legal) (marks done) old.agree e.what made x below (old.clean x below) in
            (ap (list_any (same_ino x)) (marks_more done e) ∙ step.0, ap (λ (f : Family). is_on x f.marked) (family_more done e) ∙ step.1)

        new_agrees : (x : Ino) → bound done ≤ x.0 → Agree (marks done) (family_of done).marked x
        new_agrees x above =
            let c = old.clean x above in
            let late = early x.0 (omega (arith, above)) in
            or_first_false (nat_le x.0 GLOBAL.0) (list_any (same_ino x) (marks done)) late c.0
            ∙ sym (or_first_false (is_root x) (is_on x (family_of done).marked) (and_false (nat_lt 0 x.0) (nat_le x.0 GLOBAL.0) late) c.1)

        by_made : (x : Ino) (b : Bool) → makes x e.what ≡ b → same_ino GLOBAL x ≡ false → is_member (member (told (state_after done) e.what (family_of done)).members x) ≡ true → is_in_global (family_of (done ++ e ∷ [])).members x ≡ false → Agree (mark_by (marks done) (state_after done) e.what) (told (state_after done) e.what (family_of done)).marked x
        by_made x true is apart there outside =
            let next = makes_next done e x legal fine is in
            makes_agree (state_after done) e.client (family_of done) (tied_after done legal) (marks done) old.agree e.what x is (new_agrees x (omega (arith, next.0)))
        by_made x false is apart there outside =
            let was = (same_birth (state_after done) e.what (family_of done) x is there).is_same in
            let both : (links e.what x || is_in_global (family_of done).members x) ≡ false = sym (inside_more done e legal fine x apart) ∙ outside in
            let out = or_second (links e.what x) (is_in_global (family_of done).members x) both in
            agree_by (state_after done) e.client (family_of done) (tied_after done legal) (marks done) old.agree e.what made x (or_first (links e.what x) (is_in_global (family_of done).members x) both) there out (old.agree x was out)

        high_now : (x : Ino) → is_member (member (family_of (done ++ e ∷ [])).members x) ≡ true → same_ino GLOBAL x ≡ false
        high_now x there = less_apart GLOBAL x (omega (arith, (tied_after (done ++ e ∷ []) (legal_more [] done e legal fine)).high x there))

        agree_now : (x : Ino) → is_member (member (family_of (done ++ e ∷ [])).members x) ≡ true → is_in_global (family_of (done ++ e ∷ [])).members x ≡ false → Agree (marks (done ++ e ∷ [])) (family_of (done ++ e ∷ [])).marked x
        agree_now x there outside =
            subst (λ (ms : List Ino). Agree ms (family_of (done ++ e ∷ [])).marked x) (sym (marks_more done e))
            (subst (λ (f : Family). Agree (mark_by (marks done) (state_after done) e.what) f.marked x) (sym (family_more done e))
            (by_made x (makes x e.what) refl (high_now x there) (subst (λ (f : Family). is_member (member f.members x) ≡ true) (family_more done e) there) outside))

-- the realm of what is held is the same
pub same_realms : (entries : List Entry) → is_journal entries ≡ true → (x : Ino) → is_held (state_after entries) x ≡ true → realm_of (family_of entries) x ≡ realm_at entries x
same_realms entries legal x held = go (held_member entries legal x held)
  where
    tree : IsTree (state_after entries).entries (state_after entries).inodes (family_of entries).members
    tree = tied_after entries legal

    outside_at : (y : Ino) → same_ino GLOBAL y ≡ false → is_in_global (family_of entries).members y ≡ false → realm_in (marks entries) (state_after entries) y ≡ realm_of (family_of entries) y → realm_of (family_of entries) y ≡ realm_at entries y
    outside_at y apart outside same =
        let no : is_global entries y ≡ false = same_global entries legal y apart ∙ outside in
        sym (ap (λ (b : Bool). if b then GLOBAL else realm_in (marks entries) (state_after entries) y) no ∙ same)

    of_root : realm_of (family_of entries) ROOT ≡ realm_at entries ROOT
    of_root =
        let outside = root_outside (state_after entries).entries (state_after entries).inodes (family_of entries).members tree in
        let none = above_none (state_after entries).entries (state_after entries).inodes (family_of entries).members tree ROOT (not_low (state_after entries).entries (state_after entries).inodes (family_of entries).members tree ROOT (omega arith)) in
        outside_at ROOT refl outside (sym (ap (λ (w : List Ino). cond (is_on GLOBAL (ROOT ∷ w)) GLOBAL (nearest_told (is_marked (family_of entries).marked) ROOT w)) none))

    of_member : is_member (member (family_of entries).members x) ≡ true → (g : Bool) → is_in_global (family_of entries).members x ≡ g → realm_of (family_of entries) x ≡ realm_at entries x
    of_member there true inside =
        let is : is_global entries x ≡ true = same_global entries legal x (high_apart entries legal x there) ∙ inside in
        rw (is, inside) refl
    of_member there false outside =
        outside_at x (high_apart entries legal x there) outside (member_realm (state_after entries) (family_of entries) tree (marks entries) (marked_after entries legal).agree x there outside)

    go : (x ≡ ROOT) ⊎ (is_member (member (family_of entries).members x) ≡ true) → realm_of (family_of entries) x ≡ realm_at entries x
    go (inl root) = ap (realm_of (family_of entries)) root ∙ of_root ∙ ap (realm_at entries) (sym root)
    go (inr there) = of_member there (is_in_global (family_of entries).members x) refl

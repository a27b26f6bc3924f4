-- The calls of a journal's entries on the story are fine.
use Rattle.std.proofs.Common.{◌≡◌, ℕ, ◌+◌, ◌≤◌, List, [], ◌∷◌, ◌++◌, Bool, true, false, cond, not, ◌||◌, ◌&&◌, ◌==◌, Option, None, Some, ◌⊎◌, inl, inr, refl, sym, ap, ◌∙◌, subst, arith, leb, length, length-append, filter}
use Rattle.std.proofs.lemmas.Bool.Decides.{nat_tests}
use Rattle.std.specs.Prelude.{is_some, nat_le, nat_lt}
use Rattle.std.specs.List.{list_any}
use Rattle.snap_ids.specs.declared.id.Ino.{Ino}
use Rattle.snap_ids.specs.declared.id.SnapId.{SnapId}
use Rattle.snap_ids.specs.declared.id.TheConstants.{ROOT, STRAY, GLOBAL, FIRST_INO}
use Rattle.plain_types.specs.declared.change.Change.TheVariants as change
use Rattle.plain_types.specs.declared.entry.Entry.{Entry}
use Rattle.plain_types.specs.declared.entry.What.{What}
use Rattle.plain_types.specs.declared.entry.What.TheVariants as what
use Rattle.plain_tree.specs.State.{State, Snapshot, new_directory, lookup}
use Rattle.plain_tree.specs.State.{Entry as Dentry}
use Rattle.plain_tree.specs.Change.{is_directory, is_file, is_free, is_own, is_refused, is_removable, is_free_snap, own_snap, has_all_snaps, are_all_live, is_live, is_movable, names_one}
use Rattle.snap_ids.specs.Name.{is_new_snap}
use Rattle.plain_journal.specs.Entries.{change_in, state_after, applied}
use Rattle.plain_journal.specs.Legal.{is_made_by, fits, is_legal, is_given, is_journal}
use Rattle.realm_story.specs.Family.{Made, Family, same_ino, member, is_member, is_there, above_by, is_on, is_root, is_in_global, is_fresh, is_named, next_id}
use Rattle.realm_story.specs.Stands.{Each}
use Rattle.realm_story.proofs.Facts.{both_of, same_sym}
use Rattle.journal_realms.specs.Above.{parents, LeadsUp}
use Rattle.journal_realms.specs.Told.{snap_of, told, family_of}
use Rattle.journal_realms.specs.Calls.{IsBirth, IsLeaf, IsMove, IsSnap, IsFine, Found}
use Rattle.journal_realms.proofs.Family.{family_more}
use Rattle.journal_realms.proofs.Tree.{IsTree, IsFolder, AllDirs, HeadIs, head_dirs, dirs_weaker, above_of, bound_of, less_apart, not_low, above_none, of_folder, folder_outside, folder_no_file}
use Rattle.journal_realms.proofs.Grown.{fresh}
use Rattle.journal_realms.proofs.Chains.{folder_chain}
use Rattle.journal_realms.proofs.Kept.{not_true, not_false, none_in, free_of, found_member, off_target}
use Rattle.journal_realms.proofs.Trees.{tied_after, next_of}
use Rattle.journal_realms.proofs.Globals.{linked_member}
use Rattle.journal_realms.proofs.Snaps.{plain_of, rev_plain, IsOwn, has_name, found_of, above_last, basic_after}
use Rattle.journal_realms.proofs.Covered.{snap_folder, covers_after}
use Rattle.journal_realms.proofs.Shown.{filter_push}
use Rattle.journal_realms.proofs.Induct.{legal_more}
use Rattle.journal_realms.proofs.Dead.{purged_dead}
use Rattle.journal_laws.proofs.Steps.{last_legal}

module _ (state : State) (client : ℕ) (family : Family) (tree : IsTree state.entries state.inodes family.members) where
  high_no_root : (x : Ino) → FIRST_INO.0 ≤ x.0 → is_root x ≡ false
  high_no_root x high = and_false (nat_lt 0 x.0) (nat_le x.0 GLOBAL.0) (late x.0 high)
    where
      late : (n : ℕ) → FIRST_INO.0 ≤ n → leb n 3 ≡ false
      late n h = grind (arith, nat_tests)

      and_false : (a b : Bool) → b ≡ false → (a && b) ≡ false
      and_false true b is = is
      and_false false b is = refl

  member_no_root : (x : Ino) → is_member (member family.members x) ≡ true → is_root x ≡ false
  member_no_root x there = high_no_root x (tree.high x there)

  or_true : (b : Bool) → (b || true) ≡ true
  or_true true = refl
  or_true false = refl

  member_there : (x : Ino) → is_member (member family.members x) ≡ true → is_there family.members x ≡ true
  member_there x there = ap (λ (b : Bool). is_root x || b) there ∙ or_true (is_root x)

  folder_there : (d : Ino) → IsFolder state.inodes family.members d → is_there family.members d ≡ true
  folder_there d folder = go (of_folder state.entries state.inodes family.members tree d folder)
    where
      go : (d ≡ ROOT) ⊎ (is_member (member family.members d) ≡ true) → is_there family.members d ≡ true
      go (inl root) = ap (λ (z : Ino). is_there family.members z) root
      go (inr there) = member_there d there

  -- what is no directory of an entry stands above none
  off_way : (z x : Ino) (way : List Ino) → AllDirs (λ d. same_ino z d ≡ false) state.entries → LeadsUp state.entries x way → is_on z way ≡ false
  off_way z x [] all leads = refl
  off_way z x (d ∷ way) all leads =
      let off = subst (HeadIs (λ e. same_ino z e ≡ false)) leads.0 (head_dirs (λ e. same_ino z e ≡ false) state.entries x all) in
      rw off (off_way z d way all leads.1)

  off_above : (z : Ino) → is_member (member family.members z) ≡ true → AllDirs (λ d. same_ino z d ≡ false) state.entries → (y : Ino) → is_on z (above_by (member family.members y)) ≡ false
  off_above z there all y = go (is_member (member family.members y)) (is_in_global family.members y) refl refl
    where
      by_parents : (ds : List Ino) → HeadIs (IsFolder state.inodes family.members) ds → HeadIs (λ d. same_ino z d ≡ false) ds → is_on z (above_of family.members ds) ≡ false
      by_parents [] head off = rw (same_sym z STRAY, less_apart STRAY z (omega (arith, tree.high z there))) refl
      by_parents (d ∷ ds) head off = rw off (off_way z d (above_by (member family.members d)) all (folder_chain state.entries state.inodes family.members tree d head))

      go : (m g : Bool) → is_member (member family.members y) ≡ m → is_in_global family.members y ≡ g → is_on z (above_by (member family.members y)) ≡ false
      go false g none is = ap (is_on z) (above_none state.entries state.inodes family.members tree y none)
      go true true is inside = ap (is_on z) (tree.globals y is inside) ∙ rw (same_sym z GLOBAL, less_apart GLOBAL z (omega (arith, tree.high z there))) refl
      go true false is outside =
          ap (is_on z) (tree.ways y is outside)
          ∙ by_parents (parents state.entries y) (head_dirs (IsFolder state.inodes family.members) state.entries y tree.dirs) (head_dirs (λ d. same_ino z d ≡ false) state.entries y all)

  leaf_of : (z : Ino) → is_member (member family.members z) ≡ true → AllDirs (λ d. same_ino z d ≡ false) state.entries → IsLeaf family z
  leaf_of z there all = record { there = member_there z there; no_root = member_no_root z there; top = off_above z there all }

  linked_leaf : (ino : Ino) → is_file state ino ≡ true → IsLeaf family ino
  linked_leaf ino file =
      let is = linked_member state client family tree ino file in
      leaf_of ino is.1 (dirs_weaker (IsFolder state.inodes family.members) (λ d. same_ino ino d ≡ false) state.entries (λ d folder. folder_no_file state.entries state.inodes family.members tree d ino folder is.0) tree.dirs)

  removed_leaf : (dir : Ino) (name : List ℕ) (found : Option Ino) → lookup state.entries dir name ≡ found → names_one (is_removable state) found ≡ true → Found (IsLeaf family) found
  removed_leaf dir name None found is = cc
  removed_leaf dir name (Some x) found is =
      let l = both_of (is_directory state x && not (list_any (is_own x) state.snaps)) (not (list_any (λ (e : Dentry). same_ino e.dir x) state.entries)) is in
      leaf_of x (found_member state client family tree dir name x found) (none_in state.entries x (not_true (list_any (λ (e : Dentry). same_ino e.dir x) state.entries) l.1))

  stray_none : above_by (member family.members STRAY) ≡ []
  stray_none = above_none state.entries state.inodes family.members tree STRAY (not_low state.entries state.inodes family.members tree STRAY (omega arith))

  unlinked_move : (dir : Ino) (name : List ℕ) (found : Option Ino) → lookup state.entries dir name ≡ found → names_one (is_file state) found ≡ true → Found (λ ino. IsMove family ino STRAY) found
  unlinked_move dir name None found is = cc
  unlinked_move dir name (Some x) found is =
      let there = found_member state client family tree dir name x found in
      record {
        there = member_there x there;
        no_root = member_no_root x there;
        parent_there = refl;
        parent_outside = ap (λ (w : List Ino). is_on GLOBAL (STRAY ∷ w)) stray_none;
        apart = ap (λ (w : List Ino). is_on x (STRAY ∷ w)) stray_none ∙ rw (same_sym x STRAY, less_apart STRAY x (omega (arith, tree.high x there))) refl;
      }

  renamed_move : (dir : Ino) (name : List ℕ) (to : Ino) (to_name : List ℕ) (found : Option Ino) → lookup state.entries dir name ≡ found → names_one (is_movable state to) found ≡ true → is_free state to to_name ≡ true → Found (λ ino. IsMove family ino to) found
  renamed_move dir name to to_name None found is free = cc
  renamed_move dir name to to_name (Some x) found is free =
      let there = found_member state client family tree dir name x found in
      let folder = (free_of state client family tree to to_name free).0 in
      record {
        there = member_there x there;
        no_root = member_no_root x there;
        parent_there = folder_there to folder;
        parent_outside = folder_outside state.entries state.inodes family.members tree to folder;
        apart = off_target state client family tree to x folder is;
      }

  fresh_of : (x : Ino) (snaps : List Made) → Each (λ s. (is_on x s.covered ≡ false) × (same_ino x s.root ≡ false)) snaps → is_fresh x snaps ≡ true
  fresh_of x [] all = refl
  fresh_of x (s ∷ snaps) all = rw all.0.1 (fresh_of x snaps all.1)

  grown_birth : (dir : Ino) (name : List ℕ) (ino : Ino) → is_free state dir name ≡ true → ino.0 ≡ bound_of state.inodes → ((x : Ino) → bound_of state.inodes ≤ x.0 → Each (λ s. (is_on x s.covered ≡ false) × (same_ino x s.root ≡ false)) family.snaps) → IsBirth family ino dir
  grown_birth dir name ino free next off =
      let ok = free_of state client family tree dir name free in
      record {
        there = folder_there dir ok.0;
        outside = folder_outside state.entries state.inodes family.members tree dir ok.0;
        new = rw (high_no_root ino (omega (arith, next))) (fresh state.entries state.inodes family.members tree dir name (new_directory ino) (next_id family.applied) next ok.0 ok.1);
        fresh = fresh_of ino family.snaps (off ino (omega (arith, next)));
      }

-- a free name is that of no live snapshot
free_told : (dir : Ino) (name : List ℕ) (snaps : List Made) → Each (λ other. other.live ≡ true → has_name dir name other ≡ false) snaps → list_any (is_named dir name) snaps ≡ false
free_told dir name [] all = refl
free_told dir name (s ∷ snaps) all = go s.live (has_name dir name s) all.0 (free_told dir name snaps all.1)
  where
    go : (b c : Bool) → (b ≡ true → c ≡ false) → list_any (is_named dir name) snaps ≡ false → ((b && c) || list_any (is_named dir name) snaps) ≡ false
    go true true off rest = let never = off refl in cc
    go true false off rest = rest
    go false c off rest = rest

-- as many snapshots pass a test in both
pub rev_length : (r : Snapshot → Bool) (p : Made → Bool) → ((s : Made) → r (plain_of s) ≡ p s) → (snaps : List Made) → length (filter r (rev_plain snaps)) ≡ length (filter p snaps)
rev_length r p same [] = refl
rev_length r p same (s ∷ snaps) =
    ap length (filter_push r (rev_plain snaps) (plain_of s))
    ∙ length-append (filter r (rev_plain snaps)) (cond (r (plain_of s)) (plain_of s ∷ []) [])
    ∙ go (p s) (same s) (rev_length r p same snaps)
  where
    go : (b : Bool) → r (plain_of s) ≡ b → length (filter r (rev_plain snaps)) ≡ length (filter p snaps) → length (filter r (rev_plain snaps)) + length (cond (r (plain_of s)) (plain_of s ∷ []) []) ≡ length (cond b (s ∷ filter p snaps) (filter p snaps))
    go true is rest = rw is (omega (arith, rest))
    go false is rest = rw is (omega (arith, rest))

-- what a directory that can get a snapshot passes
record Frees (state : State) (dir : Ino) (name : List ℕ) : Type 0 where
  pub new_name : is_new_snap name ≡ true
  pub few_own : has_all_snaps state.snaps dir ≡ false
  pub few_live : are_all_live state.snaps ≡ false

frees : (state : State) (dir : Ino) (name : List ℕ) → is_free_snap state dir name ≡ true → Frees state dir name
frees state dir name is =
    let l = both_of (is_directory state dir && is_new_snap name && not (is_some (own_snap state.snaps dir name)) && not (has_all_snaps state.snaps dir)) (not (are_all_live state.snaps)) is in
    let m = both_of (is_directory state dir && is_new_snap name && not (is_some (own_snap state.snaps dir name))) (not (has_all_snaps state.snaps dir)) l.0 in
    let n = both_of (is_directory state dir && is_new_snap name) (not (is_some (own_snap state.snaps dir name))) m.0 in
    record { new_name = (both_of (is_directory state dir) (is_new_snap name) n.0).1; few_own = not_true (has_all_snaps state.snaps dir) m.1; few_live = not_true (are_all_live state.snaps) l.1 }

module _ (done : List Entry) (e : Entry) (legal : is_journal done ≡ true) (fine : is_legal done e ≡ true) where
  abbrev state : State
  state = state_after done

  abbrev family : Family
  family = family_of done

  tree : IsTree (state_after done).entries (state_after done).inodes (family_of done).members
  tree = tied_after done legal

  no_stray : (dir : Ino) → IsFolder state.inodes family.members dir → same_ino dir STRAY ≡ false
  no_stray dir folder = go (of_folder state.entries state.inodes family.members tree dir folder)
    where
      go : (dir ≡ ROOT) ⊎ (is_member (member family.members dir) ≡ true) → same_ino dir STRAY ≡ false
      go (inl root) = ap (λ (d : Ino). same_ino d STRAY) root
      go (inr there) = same_sym dir STRAY ∙ less_apart STRAY dir (omega (arith, tree.high dir there))

  snapped : (id : SnapId) (dir : Ino) (name : List ℕ) → e.what ≡ what.Mksnap id dir name → is_made_by state e.client (change_in (what.Mksnap id dir name)) ≡ true → fits done (what.Mksnap id dir name) ≡ true → IsSnap family id dir name
  snapped id dir name is made next =
      let free = frees state dir name (not_false (is_free_snap state dir name) (not_true (is_refused state e.client (change.Mksnap id dir name)) made)) in
      let same = (basic_after done legal).same in
      let folder = snap_folder state e.client family tree id dir name made in
      let own : IsOwn (told state (what.Mksnap id dir name) family).snaps = subst (λ (w : What). IsOwn (told state w family).snaps) is (subst (λ (f : Family). IsOwn f.snaps) (family_more done e) (basic_after (done ++ e ∷ []) (legal_more [] done e legal fine)).own) in
      record {
        there = folder_there state e.client family tree dir folder;
        outside = folder_outside state.entries state.inodes family.members tree dir folder;
        no_stray = no_stray dir folder;
        later = above_last done e legal fine id dir name is;
        free = free_told dir name family.snaps (own.0 refl);
        given = (both_of (nat_lt (applied done) id.0) (is_given id) next).1;
        new_name = free.new_name;
        few_own = ap (λ (n : ℕ). nat_lt 99 n) (sym (ap (λ (l : List Snapshot). length (filter (is_own dir) l)) same ∙ rev_length (is_own dir) (λ (s : Made). s.live && same_ino s.root dir) (λ s. refl) family.snaps)) ∙ free.few_own;
        few_live = ap (λ (n : ℕ). nat_lt 127 n) (sym (ap (λ (l : List Snapshot). length (filter is_live l)) same ∙ rev_length is_live (λ (s : Made). s.live) (λ s. refl) family.snaps)) ∙ free.few_live;
      }

  removed_found : (id : SnapId) → is_made_by state e.client (change_in (what.Rmsnap id)) ≡ true → is_some (snap_of family.snaps id) ≡ true
  removed_found id made =
      let there : list_any (λ (snap : Snapshot). snap.live && snap.id.0 == id.0) state.snaps ≡ true = not_false _ (not_true (is_refused state e.client (change.Rmsnap id)) made) in
      let found = found_of id family.snaps (ap (list_any (λ (snap : Snapshot). snap.live && snap.id.0 == id.0)) (sym (basic_after done legal).same) ∙ there) in
      ap is_some found.1

  -- the call of the entry is fine
  fine_by : (w : What) → e.what ≡ w → is_made_by state e.client (change_in w) ≡ true → fits done w ≡ true → IsFine state family w
  fine_by (what.Mkdir dir name ino) is made next = grown_birth state e.client family tree dir name ino (not_false (is_free state dir name) (not_true (is_refused state e.client (change.Mkdir dir name ino)) made)) (next_of done (what.Mkdir dir name ino) next) (covers_after done legal).off
  fine_by (what.Create dir name ino mode) is made next = grown_birth state e.client family tree dir name ino (not_false (is_free state dir name) (not_true (is_refused state e.client (change.Create dir name ino mode)) made)) (next_of done (what.Create dir name ino mode) next) (covers_after done legal).off
  fine_by (what.Link ino dir name) is made next =
      linked_leaf state e.client family tree ino (both_of (is_file state ino) (is_free state dir name) (not_false (is_file state ino && is_free state dir name) (not_true (is_refused state e.client (change.Link ino dir name)) made))).0
  fine_by (what.Unlink dir name) is made next =
      unlinked_move state e.client family tree dir name (lookup state.entries dir name) refl (not_false (names_one (is_file state) (lookup state.entries dir name)) (not_true (is_refused state e.client (change.Unlink dir name)) made))
  fine_by (what.Rmdir dir name) is made next =
      removed_leaf state e.client family tree dir name (lookup state.entries dir name) refl (not_false (names_one (is_removable state) (lookup state.entries dir name)) (not_true (is_refused state e.client (change.Rmdir dir name)) made))
  fine_by (what.Rename dir name to to_name) is made next =
      let l = both_of (names_one (is_movable state to) (lookup state.entries dir name)) (is_free state to to_name) (not_false (names_one (is_movable state to) (lookup state.entries dir name) && is_free state to to_name) (not_true (is_refused state e.client (change.Rename dir name to to_name)) made)) in
      renamed_move state e.client family tree dir name to to_name (lookup state.entries dir name) refl l.0 l.1
  fine_by (what.Mksnap id dir name) is made next = snapped id dir name is made next
  fine_by (what.Rmsnap id) is made next = removed_found id made
  fine_by (what.Purgedone id) is made next = purged_dead done legal id next
  fine_by w is made next = tt

-- each entry's call on the story is fine
pub calls_fine : (entries : List Entry) (e : Entry) → is_journal (entries ++ e ∷ []) ≡ true → IsFine (state_after entries) (family_of entries) e.what
calls_fine entries e legal =
    let l = last_legal [] entries e legal in
    let m = both_of (is_made_by (state_after entries) e.client (change_in e.what)) (fits entries e.what) l.1 in
    fine_by entries e l.0 l.1 e.what refl m.0 m.1

-- Each entry of a journal keeps the ways of the story tied to the names of the plain tree.
use Rattle.std.proofs.Common.{◌≡◌, ℕ, ◌≤◌, List, [], ◌∷◌, length, Bool, true, false, cond, not, ◌||◌, ◌&&◌, Option, None, Some, refl, sym, ap, ◌∙◌, subst, arith, map}
use Rattle.std.specs.Prelude.{is_some, if◌then◌else◌}
use Rattle.std.specs.List.{list_any}
use Rattle.std.proofs.lemmas.List.{length-map}
use Rattle.snap_ids.specs.declared.id.Ino.{Ino}
use Rattle.snap_ids.specs.declared.id.TheConstants.{ROOT, STRAY, GLOBAL}
use Rattle.snap_ids.specs.declared.values.Kind.{Kind}
use Rattle.snap_ids.specs.declared.values.Kind.TheVariants.{Dir, File}
use Rattle.snap_ids.specs.Name.{is_new}
use Rattle.plain_types.specs.declared.change.Change.{Change}
use Rattle.plain_types.specs.declared.change.Change.TheVariants as change
use Rattle.plain_types.specs.declared.entry.What.{What}
use Rattle.plain_types.specs.declared.entry.What.TheVariants as what
use Rattle.plain_tree.specs.State.{State, Entry, Inode, new_directory, next_ino, is_there, kind_in, lookup, add}
use Rattle.plain_tree.specs.Walk.{is_under}
use Rattle.plain_tree.specs.Change.{is_directory, is_file, is_free, is_own, is_refused, is_removable, is_movable, names_one, new_file, entry, without, renamed, with_mode, make, apply}
use Rattle.plain_journal.specs.Entries.{change_in, with_change}
use Rattle.plain_journal.specs.Legal.{is_made_by}
use Rattle.realm_story.specs.Family.{Made, Member, Family, same_ino, member, is_member, way_up, is_on, is_in_global, move_to, moved, leaves_realm, next_id}
use Rattle.realm_story.proofs.Facts.{both_of, same_sym, itself}
use Rattle.journal_laws.proofs.Named.{count_taken}
use Rattle.journal_laws.proofs.Steps.{apply_made}
use Rattle.journal_realms.specs.Above.{parents}
use Rattle.journal_realms.specs.Told.{move_found, forget_found, snap_of, drop_found, told}
use Rattle.journal_realms.proofs.Parents.{parents_more, parents_add_other, parents_add_first, parents_without, parents_gone, length_parents, all_at, once_add, once_without, lookup_without}
use Rattle.journal_realms.proofs.Tree.{IsTree, IsFolder, AllDirs, dirs_weaker, dirs_add, dirs_without, less_apart, not_low, above_none, folder_outside}
use Rattle.journal_realms.proofs.Grown.{tree_grown, tree_linked}
use Rattle.journal_realms.proofs.Shifted.{Renames, tree_global, tree_shifted, tree_left}
use Rattle.journal_realms.proofs.Chains.{folder_under}

pub not_false : (b : Bool) → not b ≡ false → b ≡ true
not_false true is = refl
not_false false is = cc

pub not_true : (b : Bool) → not b ≡ true → b ≡ false
not_true true is = cc
not_true false is = refl

pub directory_is : (k : Kind) (there : Bool) → (elim k [ Dir ↦ there | File ↦ false ]) ≡ true → (k ≡ Dir) × (there ≡ true)
directory_is Dir there is = (refl, is)
directory_is File there is = cc

pub file_is : (k : Kind) (there : Bool) → (elim k [ Dir ↦ false | File ↦ there ]) ≡ true → (k ≡ File) × (there ≡ true)
file_is Dir there is = cc
file_is File there is = (refl, is)

none_some : {A : Type 0} (found : Option A) → not (is_some found) ≡ true → found ≡ None
none_some None is = refl
none_some (Some a) is = cc

-- what an entry names has a parent
pub any_named : (entries : List Entry) (x : Ino) → list_any (λ (e : Entry). same_ino e.ino x) entries ≡ true → 1 ≤ length (parents entries x)
any_named [] x any = cc
any_named (e ∷ entries) x any = subst (λ (ds : List Ino). 1 ≤ length ds) (sym (parents_more e entries x)) (go (same_ino e.ino x) any (any_named entries x))
  where
    go : (b : Bool) → (b || list_any (λ (y : Entry). same_ino y.ino x) entries) ≡ true → (list_any (λ (y : Entry). same_ino y.ino x) entries ≡ true → 1 ≤ length (parents entries x)) → 1 ≤ length (cond b (e.dir ∷ parents entries x) (parents entries x))
    go true any rest = omega arith
    go false any rest = rest any

-- no entry stands in a directory
pub none_in : (entries : List Entry) (x : Ino) → list_any (λ (e : Entry). same_ino e.dir x) entries ≡ false → AllDirs (λ d. same_ino x d ≡ false) entries
none_in [] x none = tt
none_in (e ∷ entries) x none = go (same_ino e.dir x) refl none (none_in entries x)
  where
    go : (b : Bool) → same_ino e.dir x ≡ b → (b || list_any (λ (y : Entry). same_ino y.dir x) entries) ≡ false → (list_any (λ (y : Entry). same_ino y.dir x) entries ≡ false → AllDirs (λ d. same_ino x d ≡ false) entries) → (same_ino x e.dir ≡ false) × AllDirs (λ d. same_ino x d ≡ false) entries
    go true is none rest = cc
    go false is none rest = (same_sym x e.dir ∙ is, rest none)

-- a move of what is in the global realm, and of what isn't
pub move_in : (x parent : Ino) (family : Family) → is_in_global family.members x ≡ true → move_to x parent family ≡ family
move_in x parent family is = ap (λ (g : Bool). cond g family (record { members = map (moved x (way_up family.members parent)) family.members; snaps = family.snaps; marked = if leaves_realm x parent family then x ∷ family.marked else family.marked; applied = family.applied })) is

pub move_out : (x parent : Ino) (family : Family) → is_in_global family.members x ≡ false → move_to x parent family ≡ record { members = map (moved x (way_up family.members parent)) family.members; snaps = family.snaps; marked = if leaves_realm x parent family then x ∷ family.marked else family.marked; applied = family.applied }
move_out x parent family is = ap (λ (g : Bool). cond g family (record { members = map (moved x (way_up family.members parent)) family.members; snaps = family.snaps; marked = if leaves_realm x parent family then x ∷ family.marked else family.marked; applied = family.applied })) is

-- the kinds and the numbers of inodes under other modes
kind_mode : (x : Ino) (mode : ℕ) (inodes : List Inode) (y : Ino) → kind_in (with_mode x mode inodes) y ≡ kind_in inodes y
kind_mode x mode [] y = refl
kind_mode x mode (inode ∷ inodes) y = ap (λ (k : Kind). cond (same_ino inode.ino y) inode.kind k) (kind_mode x mode inodes y)

made_mode : (x : Ino) (mode : ℕ) (inodes : List Inode) (y : Ino) → list_any (λ (inode : Inode). same_ino inode.ino y) (with_mode x mode inodes) ≡ list_any (λ (inode : Inode). same_ino inode.ino y) inodes
made_mode x mode [] y = refl
made_mode x mode (inode ∷ inodes) y = ap (λ (b : Bool). same_ino inode.ino y || b) (made_mode x mode inodes y)

tree_modes : (entries : List Entry) (inodes new : List Inode) (members : List Member) → IsTree entries inodes members → length new ≡ length inodes → ((y : Ino) → kind_in new y ≡ kind_in inodes y) → ((y : Ino) → list_any (λ (inode : Inode). same_ino inode.ino y) new ≡ list_any (λ (inode : Inode). same_ino inode.ino y) inodes) → IsTree entries new members
tree_modes entries inodes new members tree long kinds made = record {
  once = tree.once;
  dirs = dirs_weaker (IsFolder inodes members) (IsFolder new members) entries (λ d is. record { kind = kinds d ∙ is.kind; there = is.there }) tree.dirs;
  some = omega (arith, tree.some, long);
  named = tree.named;
  high = tree.high;
  low = λ x is. omega (arith, tree.low x is, long);
  files = λ x is inside. kinds x ∙ tree.files x is inside;
  globals = tree.globals;
  ways = tree.ways;
  few = tree.few;
  placed = λ x is kind. tree.placed x is (sym (kinds x) ∙ kind);
  kept = λ x is kind. tree.kept x (sym (made x) ∙ is) (sym (kinds x) ∙ kind);
  made = λ x is. made x ∙ tree.made x is;
}

-- the number that a new inode has
abbrev pub IsNext : State → What → Type 0
IsNext state (what.Mkdir dir name ino) = ino.0 ≡ (next_ino state).0
IsNext state (what.Create dir name ino mode) = ino.0 ≡ (next_ino state).0
IsNext state w = Unit {0}

module _ (state : State) (client : ℕ) (family : Family) (tree : IsTree state.entries state.inodes family.members) where
  abbrev members : List Member
  members = family.members

  pub some_member : (x : Ino) → 1 ≤ length (parents state.entries x) → is_member (member members x) ≡ true
  some_member x some = go (is_member (member members x)) refl
    where
      go : (b : Bool) → is_member (member members x) ≡ b → b ≡ true
      go true is = refl
      go false is = let none : length (parents state.entries x) ≡ 0 = ap length (tree.named x is) in absurd (omega (arith, none, some))

  -- what a name has is a member
  pub found_member : (dir : Ino) (name : List ℕ) (x : Ino) → lookup state.entries dir name ≡ Some x → is_member (member members x) ≡ true
  found_member dir name x found = some_member x (omega (arith, count_taken dir name state.entries x found, length_parents state.entries x))

  -- a directory of the plain tree is one of the story
  pub folder_of : (dir : Ino) → is_directory state dir ≡ true → IsFolder state.inodes members dir
  folder_of dir is =
      let l = directory_is (kind_in state.inodes dir) (is_there state.entries dir) is in
      record { kind = l.0; there = go (same_ino dir ROOT) (list_any (λ (e : Entry). same_ino e.ino dir) state.entries) l.1 (λ any. some_member dir (any_named state.entries dir any)) }
    where
      go : (b c : Bool) → (b || c) ≡ true → (c ≡ true → is_member (member members dir) ≡ true) → (b || is_member (member members dir)) ≡ true
      go true c is rest = refl
      go false c is rest = rest is

  -- a directory that can get an entry
  pub free_of : (dir : Ino) (name : List ℕ) → is_free state dir name ≡ true → IsFolder state.inodes members dir × (lookup state.entries dir name ≡ None)
  free_of dir name is =
      let l = both_of (is_directory state dir && is_new name) (not (is_some (lookup state.entries dir name))) is in
      let m = both_of (is_directory state dir) (is_new name) l.0 in
      (folder_of dir m.0, none_some (lookup state.entries dir name) l.1)

  made_tree : (c : Change) (new : List Member) → is_refused state client c ≡ false → IsTree (make state client c).entries (make state client c).inodes new → IsTree (apply state client c).entries (apply state client c).inodes new
  made_tree c new fine is = subst (λ (s : State). IsTree s.entries s.inodes new) (sym (apply_made state client c fine)) is

  -- one name is gone
  gone_names : (dir : Ino) (name : List ℕ) (x : Ino) → lookup state.entries dir name ≡ Some x → Renames state.entries (without dir name state.entries) state.inodes members x []
  gone_names dir name x found = record {
    once = once_without dir name state.entries tree.once;
    dirs = dirs_without (IsFolder state.inodes members) dir name state.entries tree.dirs;
    others = λ y apart. parents_without dir name x state.entries y (all_at dir name x state.entries tree.once found) apart;
  }

  -- a member stands not on the way of the stray root
  off_stray : (x : Ino) → is_member (member members x) ≡ true → is_on x (STRAY ∷ []) ≡ false
  off_stray x there = rw (same_sym x STRAY, less_apart STRAY x (omega (arith, tree.high x there))) refl

  stray_way : way_up members STRAY ≡ STRAY ∷ []
  stray_way = ap (λ (w : List Ino). STRAY ∷ w) (above_none state.entries state.inodes members tree STRAY (not_low state.entries state.inodes members tree STRAY (omega arith)))

  unlinked : (dir : Ino) (name : List ℕ) (found : Option Ino) → lookup state.entries dir name ≡ found → names_one (is_file state) found ≡ true → IsTree (without dir name state.entries) state.inodes (move_found found STRAY family).members
  unlinked dir name None found is = cc
  unlinked dir name (Some x) found is = go (is_in_global members x) refl
    where
      there : is_member (member members x) ≡ true
      there = found_member dir name x found

      no_directory : kind_in state.inodes x ≡ Dir → 1 ≤ 0
      no_directory dir = let never : Dir ≡ File = sym dir ∙ (file_is (kind_in state.inodes x) (is_there state.entries x) is).0 in cc

      go : (g : Bool) → is_in_global members x ≡ g → IsTree (without dir name state.entries) state.inodes (move_to x STRAY family).members
      go true inside =
          subst (λ (f : Family). IsTree (without dir name state.entries) state.inodes f.members) (sym (move_in x STRAY family inside))
          (tree_global state.entries (without dir name state.entries) state.inodes members x [] tree there (gone_names dir name x found) inside)
      go false outside =
          subst (λ (f : Family). IsTree (without dir name state.entries) state.inodes f.members) (sym (move_out x STRAY family outside))
          (tree_shifted state.entries (without dir name state.entries) state.inodes members x [] tree there (gone_names dir name x found) outside (way_up members STRAY)
          (parents_gone dir name state.entries x found (tree.few x outside)) stray_way (omega arith) tt
          (ap (is_on x) stray_way ∙ off_stray x there) (ap (is_on GLOBAL) stray_way) no_directory)

  removed : (dir : Ino) (name : List ℕ) (found : Option Ino) → lookup state.entries dir name ≡ found → names_one (is_removable state) found ≡ true → IsTree (without dir name state.entries) state.inodes (forget_found found family).members
  removed dir name None found is = cc
  removed dir name (Some x) found is =
      let l = both_of (is_directory state x && not (list_any (is_own x) state.snaps)) (not (list_any (λ (e : Entry). same_ino e.dir x) state.entries)) is in
      let m = both_of (is_directory state x) (not (list_any (is_own x) state.snaps)) l.0 in
      let folder = folder_of x m.0 in
      let empty = none_in state.entries x (not_true (list_any (λ (e : Entry). same_ino e.dir x) state.entries) l.1) in
      tree_left state.entries (without dir name state.entries) state.inodes members x [] tree (found_member dir name x found) (gone_names dir name x found) folder.kind
      (parents_gone dir name state.entries x found (tree.few x (folder_outside state.entries state.inodes members tree x folder)))
      (dirs_without (λ d. same_ino x d ≡ false) dir name state.entries empty) empty

  -- one name is another one
  new_names : (dir : Ino) (name : List ℕ) (to : Ino) (to_name : List ℕ) (x : Ino) → lookup state.entries dir name ≡ Some x → IsFolder state.inodes members to → lookup state.entries to to_name ≡ None → Renames state.entries (add (entry to to_name x) (without dir name state.entries)) state.inodes members x (to ∷ [])
  new_names dir name to to_name x found folder free = record {
    once = once_add (entry to to_name x) (without dir name state.entries) (once_without dir name state.entries tree.once) (lookup_without dir name to to_name state.entries free);
    dirs = dirs_add (IsFolder state.inodes members) (entry to to_name x) (without dir name state.entries) folder (dirs_without (IsFolder state.inodes members) dir name state.entries tree.dirs);
    others = λ y apart. parents_add_other (entry to to_name x) (without dir name state.entries) y apart ∙ parents_without dir name x state.entries y (all_at dir name x state.entries tree.once found) apart;
  }

  -- what is moved stands not on the way of its new place
  pub off_target : (to x : Ino) → IsFolder state.inodes members to → is_movable state to x ≡ true → is_on x (way_up members to) ≡ false
  off_target to x folder free = sym (folder_under state.entries state.inodes members tree to x folder) ∙ not_true (is_under state.entries to x) free

  renamed_tree : (dir : Ino) (name : List ℕ) (to : Ino) (to_name : List ℕ) (found : Option Ino) → lookup state.entries dir name ≡ found → names_one (is_movable state to) found ≡ true → is_free state to to_name ≡ true → IsTree (renamed found dir name to to_name state.entries) state.inodes (move_found found to family).members
  renamed_tree dir name to to_name None found is free = cc
  renamed_tree dir name to to_name (Some x) found is free = go (is_in_global members x) refl
    where
      there : is_member (member members x) ≡ true
      there = found_member dir name x found

      folder : IsFolder state.inodes members to
      folder = (free_of to to_name free).0

      names : Renames state.entries (add (entry to to_name x) (without dir name state.entries)) state.inodes members x (to ∷ [])
      names = new_names dir name to to_name x found folder (free_of to to_name free).1

      go : (g : Bool) → is_in_global members x ≡ g → IsTree (add (entry to to_name x) (without dir name state.entries)) state.inodes (move_to x to family).members
      go true inside =
          subst (λ (f : Family). IsTree (add (entry to to_name x) (without dir name state.entries)) state.inodes f.members) (sym (move_in x to family inside))
          (tree_global state.entries (add (entry to to_name x) (without dir name state.entries)) state.inodes members x (to ∷ []) tree there names inside)
      go false outside =
          subst (λ (f : Family). IsTree (add (entry to to_name x) (without dir name state.entries)) state.inodes f.members) (sym (move_out x to family outside))
          (tree_shifted state.entries (add (entry to to_name x) (without dir name state.entries)) state.inodes members x (to ∷ []) tree there names outside (way_up members to)
          (parents_add_first (entry to to_name x) (without dir name state.entries) x (itself x) (parents_gone dir name state.entries x found (tree.few x outside)))
          refl (omega arith) folder (off_target to x folder is) (folder_outside state.entries state.inodes members tree to folder) (λ kind. omega arith))

  -- what stands in both after one more entry
  pub tree_step : (w : What) → is_made_by state client (change_in w) ≡ true → IsNext state w → IsTree (with_change state client (change_in w)).entries (with_change state client (change_in w)).inodes (told state w family).members
  tree_step (what.Mkdir dir name ino) made next =
      let fine = not_true (is_refused state client (change.Mkdir dir name ino)) made in
      let free = free_of dir name (not_false (is_free state dir name) fine) in
      made_tree (change.Mkdir dir name ino) _ fine (tree_grown state.entries state.inodes members tree dir name (new_directory ino) (next_id family.applied) next free.0 free.1)
  tree_step (what.Create dir name ino mode) made next =
      let fine = not_true (is_refused state client (change.Create dir name ino mode)) made in
      let free = free_of dir name (not_false (is_free state dir name) fine) in
      made_tree (change.Create dir name ino mode) _ fine (tree_grown state.entries state.inodes members tree dir name (new_file ino mode) (next_id family.applied) next free.0 free.1)
  tree_step (what.Link ino dir name) made next =
      let fine = not_true (is_refused state client (change.Link ino dir name)) made in
      let l = both_of (is_file state ino) (is_free state dir name) (not_false (is_file state ino && is_free state dir name) fine) in
      let free = free_of dir name l.1 in
      let file = file_is (kind_in state.inodes ino) (is_there state.entries ino) l.0 in
      made_tree (change.Link ino dir name) _ fine (tree_linked state.entries state.inodes members tree ino dir name (linked_there ino file.0 file.1) file.0 free.0 free.1)
    where
      linked_there : (ino : Ino) → kind_in state.inodes ino ≡ File → is_there state.entries ino ≡ true → is_member (member members ino) ≡ true
      linked_there ino kind there = tree.kept ino (tree.made ino (go (same_ino ino ROOT) (list_any (λ (e : Entry). same_ino e.ino ino) state.entries) there (λ any. some_member ino (any_named state.entries ino any)))) kind
        where
          go : (b c : Bool) → (b || c) ≡ true → (c ≡ true → is_member (member members ino) ≡ true) → (b || is_member (member members ino)) ≡ true
          go true c is rest = refl
          go false c is rest = rest is
  tree_step (what.Unlink dir name) made next =
      let fine = not_true (is_refused state client (change.Unlink dir name)) made in
      made_tree (change.Unlink dir name) _ fine (unlinked dir name (lookup state.entries dir name) refl (not_false (names_one (is_file state) (lookup state.entries dir name)) fine))
  tree_step (what.Rmdir dir name) made next =
      let fine = not_true (is_refused state client (change.Rmdir dir name)) made in
      made_tree (change.Rmdir dir name) _ fine (removed dir name (lookup state.entries dir name) refl (not_false (names_one (is_removable state) (lookup state.entries dir name)) fine))
  tree_step (what.Rename dir name to to_name) made next =
      let fine = not_true (is_refused state client (change.Rename dir name to to_name)) made in
      let l = both_of (names_one (is_movable state to) (lookup state.entries dir name)) (is_free state to to_name) (not_false (names_one (is_movable state to) (lookup state.entries dir name) && is_free state to to_name) fine) in
      made_tree (change.Rename dir name to to_name) _ fine (renamed_tree dir name to to_name (lookup state.entries dir name) refl l.0 l.1)
  tree_step (what.Chmod ino mode) made next =
      made_tree (change.Chmod ino mode) members (not_true (is_refused state client (change.Chmod ino mode)) made)
      (tree_modes state.entries state.inodes (with_mode ino mode state.inodes) members tree (length-map state.inodes _) (kind_mode ino mode state.inodes) (made_mode ino mode state.inodes))
  tree_step (what.OpenFile handle ino writable) made next = made_tree (change.OpenFile handle ino writable) members (not_true (is_refused state client (change.OpenFile handle ino writable)) made) tree
  tree_step (what.CloseFile handle) made next = made_tree (change.CloseFile handle) members (not_true (is_refused state client (change.CloseFile handle)) made) tree
  tree_step (what.Mksnap id dir name) made next = made_tree (change.Mksnap id dir name) members (not_true (is_refused state client (change.Mksnap id dir name)) made) tree
  tree_step (what.Rmsnap id) made next = made_tree (change.Rmsnap id) _ (not_true (is_refused state client (change.Rmsnap id)) made) (subst (IsTree state.entries state.inodes) (sym (dropped_members (snap_of family.snaps id))) tree)
    where
      dropped_members : (found : Option Made) → (drop_found found family).members ≡ members
      dropped_members None = refl
      dropped_members (Some snap) = refl
  tree_step (what.PrepareCreate id) made next = tree
  tree_step (what.PrepareDestroy id) made next = tree
  tree_step (what.Rollback id) made next = tree
  tree_step (what.Settle ino follows upto size) made next = tree
  tree_step (what.Release ino follows size) made next = tree
  tree_step (what.Trim id) made next = tree
  tree_step (what.Purgedone id) made next = tree
  tree_step (what.Deadfile ino) made next = tree
  tree_step (what.Barrier number) made next = tree

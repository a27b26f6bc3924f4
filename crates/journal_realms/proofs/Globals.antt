-- The files that ever had two names at once are those in the global realm.
use Rattle.std.proofs.Common.{◌≡◌, ℕ, ◌≤◌, List, [], ◌∷◌, ◌++◌, length, Bool, true, false, not, ◌||◌, ◌&&◌, Option, None, Some, refl, sym, ap, ◌∙◌, arith, ltb}
use Rattle.std.proofs.lemmas.Bool.Decides.{nat_tests}
use Rattle.std.specs.Prelude.{fold}
use Rattle.std.specs.List.{list_any}
use Rattle.snap_ids.specs.declared.id.Ino.{Ino}
use Rattle.snap_ids.specs.declared.id.TheConstants.{ROOT, STRAY, GLOBAL}
use Rattle.snap_ids.specs.declared.values.Kind.TheVariants.{File}
use Rattle.plain_types.specs.declared.change.Change.TheVariants as change
use Rattle.plain_types.specs.declared.entry.Entry.{Entry}
use Rattle.plain_types.specs.declared.entry.What.{What}
use Rattle.plain_types.specs.declared.entry.What.TheVariants as what
use Rattle.plain_tree.specs.State.{State, new_directory, next_ino, add, lookup, kind_in, is_there}
use Rattle.plain_tree.specs.State.{Entry as Dentry, start as empty}
use Rattle.plain_tree.specs.Change.{is_directory, is_file, is_free, is_own, is_refused, is_removable, is_movable, names_one, entry, make}
use Rattle.plain_journal.specs.Entries.{change_in, with_change, after_entry, state_after}
use Rattle.plain_journal.specs.Coverage.{has_two_names, gets_two_names, is_global}
use Rattle.plain_journal.specs.Legal.{is_made_by, fits, is_legal, is_journal}
use Rattle.realm_story.specs.Family.{Made, Member, Family, same_ino, member, is_member, above_by, way_up, is_on, is_in_global, move_to, next_id, born, forget}
use Rattle.realm_story.proofs.Facts.{both_of, same_of, itself}
use Rattle.journal_laws.proofs.Named.{count, one_if, count_add}
use Rattle.journal_laws.proofs.Steps.{state_more, apply_made}
use Rattle.journal_realms.specs.Above.{parents}
use Rattle.journal_realms.specs.Told.{move_found, forget_found, snap_of, drop_found, told, family_of}
use Rattle.journal_realms.proofs.Family.{family_more}
use Rattle.journal_realms.proofs.Parents.{length_parents}
use Rattle.journal_realms.proofs.Members.{left_other, left_self}
use Rattle.journal_realms.proofs.Tree.{IsTree, IsFolder, above_none, not_low, folder_outside}
use Rattle.journal_realms.proofs.Grown.{fresh, global_other_one, global_new, inside_now, inside_same}
use Rattle.journal_realms.proofs.Shifted.{shifted_global}
use Rattle.journal_realms.proofs.Kept.{IsNext, move_in, move_out, not_true, not_false, file_is, free_of, folder_of, found_member, some_member, any_named}
use Rattle.journal_realms.proofs.Trees.{tied_after, tied_step, next_of}
use Rattle.journal_realms.proofs.Induct.{of_each}

-- the entry gives a further name to a file
abbrev pub links : What → Ino → Bool
links (what.Link ino dir name) x = same_ino ino x
links w x = false

module _ (state : State) (client : ℕ) (family : Family) (tree : IsTree state.entries state.inodes family.members) where
  unmember_outside : (x : Ino) → same_ino GLOBAL x ≡ false → is_member (member family.members x) ≡ false → is_in_global family.members x ≡ false
  unmember_outside x apart none = ap (λ (w : List Ino). is_on GLOBAL (x ∷ w)) (above_none state.entries state.inodes family.members tree x none) ∙ rw apart refl

  -- a file that is linked is a member
  pub linked_member : (ino : Ino) → is_file state ino ≡ true → (kind_in state.inodes ino ≡ File) × (is_member (member family.members ino) ≡ true)
  linked_member ino is =
      let file = file_is (kind_in state.inodes ino) (is_there state.entries ino) is in
      (file.0, tree.kept ino (tree.made ino (go (same_ino ino ROOT) (list_any (λ (e : Dentry). same_ino e.ino ino) state.entries) file.1 (λ any. some_member state client family tree ino (any_named state.entries ino any)))) file.0)
    where
      go : (b c : Bool) → (b || c) ≡ true → (c ≡ true → is_member (member family.members ino) ≡ true) → (b || is_member (member family.members ino)) ≡ true
      go true c is rest = refl
      go false c is rest = rest is

  moved_inside : (y parent : Ino) → is_member (member family.members y) ≡ true → is_on GLOBAL (way_up family.members parent) ≡ false → (x : Ino) → is_in_global (move_to y parent family).members x ≡ is_in_global family.members x
  moved_inside y parent there up_outside x = go (is_in_global family.members y) refl
    where
      go : (g : Bool) → is_in_global family.members y ≡ g → is_in_global (move_to y parent family).members x ≡ is_in_global family.members x
      go true inside = ap (λ (f : Family). is_in_global f.members x) (move_in y parent family inside)
      go false outside =
          ap (λ (f : Family). is_in_global f.members x) (move_out y parent family outside)
          ∙ shifted_global state.entries state.inodes family.members y tree there outside (way_up family.members parent) up_outside x

  found_inside : (dir : Ino) (name : List ℕ) (found : Option Ino) → lookup state.entries dir name ≡ found → (parent : Ino) → is_on GLOBAL (way_up family.members parent) ≡ false → (x : Ino) → is_in_global (move_found found parent family).members x ≡ is_in_global family.members x
  found_inside dir name None found parent up_outside x = refl
  found_inside dir name (Some y) found parent up_outside x = moved_inside y parent (found_member state client family tree dir name y found) up_outside x

  stray_outside : is_on GLOBAL (way_up family.members STRAY) ≡ false
  stray_outside = ap (λ (w : List Ino). is_on GLOBAL (STRAY ∷ w)) (above_none state.entries state.inodes family.members tree STRAY (not_low state.entries state.inodes family.members tree STRAY (omega arith)))

  removed_inside : (dir : Ino) (name : List ℕ) (found : Option Ino) → lookup state.entries dir name ≡ found → names_one (is_removable state) found ≡ true → (x : Ino) → same_ino GLOBAL x ≡ false → is_in_global (forget_found found family).members x ≡ is_in_global family.members x
  removed_inside dir name None found is x apart = refl
  removed_inside dir name (Some y) found is x apart = go (same_ino y x) refl
    where
      l : (is_directory state y && not (list_any (is_own y) state.snaps)) ≡ true
      l = (both_of (is_directory state y && not (list_any (is_own y) state.snaps)) (not (list_any (λ (e : Dentry). same_ino e.dir y) state.entries)) is).0

      folder : IsFolder state.inodes family.members y
      folder = folder_of state client family tree y (both_of (is_directory state y) (not (list_any (is_own y) state.snaps)) l).0

      other : (z : Ino) → same_ino y z ≡ false → is_in_global (forget y family).members z ≡ is_in_global family.members z
      other z off = ap (λ (m : Option Member). is_on GLOBAL (z ∷ above_by m)) (left_other y z family.members off)

      go : (b : Bool) → same_ino y x ≡ b → is_in_global (forget y family).members x ≡ is_in_global family.members x
      go true same =
          ap (λ (z : Ino). is_on GLOBAL (x ∷ above_by (member (forget y family).members z))) (sym (same_of y x same))
          ∙ ap (λ (m : Option Member). is_on GLOBAL (x ∷ above_by m)) (left_self y family.members)
          ∙ rw apart (sym (folder_outside state.entries state.inodes family.members tree y folder))
          ∙ ap (is_in_global family.members) (same_of y x same)
      go false off = other x off

  linked_inside : (ino dir : Ino) (name : List ℕ) → is_file state ino ≡ true → is_free state dir name ≡ true → (x : Ino) → is_in_global (told state (what.Link ino dir name) family).members x ≡ (same_ino ino x || is_in_global family.members x)
  linked_inside ino dir name file free x = go (same_ino ino x) refl
    where
      is : (kind_in state.inodes ino ≡ File) × (is_member (member family.members ino) ≡ true)
      is = linked_member ino file

      ok : IsFolder state.inodes family.members dir × (lookup state.entries dir name ≡ None)
      ok = free_of state client family tree dir name free

      go : (b : Bool) → same_ino ino x ≡ b → is_in_global (told state (what.Link ino dir name) family).members x ≡ (b || is_in_global family.members x)
      go true same = inside_now state.entries state.inodes family.members tree ino dir name is.1 is.0 ok.0 ok.1 x same
      go false apart = inside_same state.entries state.inodes family.members tree ino dir name is.1 is.0 ok.0 ok.1 x apart

  grown_inside : (ino dir : Ino) (name : List ℕ) → is_free state dir name ≡ true → ino.0 ≡ (next_ino state).0 → (x : Ino) → same_ino GLOBAL x ≡ false → is_in_global (born ino dir family).members x ≡ is_in_global family.members x
  grown_inside ino dir name free next x apart = go (same_ino ino x) refl
    where
      ok : IsFolder state.inodes family.members dir × (lookup state.entries dir name ≡ None)
      ok = free_of state client family tree dir name free

      new : is_member (member family.members ino) ≡ false
      new = fresh state.entries state.inodes family.members tree dir name (new_directory ino) (next_id family.applied) next ok.0 ok.1

      go : (b : Bool) → same_ino ino x ≡ b → is_in_global (born ino dir family).members x ≡ is_in_global family.members x
      go true same =
          global_new state.entries state.inodes family.members tree dir name (new_directory ino) (next_id family.applied) next ok.0 ok.1 x same
          ∙ sym (unmember_outside x apart (ap (λ (z : Ino). is_member (member family.members z)) (sym (same_of ino x same)) ∙ new))
      go false off = global_other_one state.entries state.inodes family.members tree dir name (new_directory ino) (next_id family.applied) next ok.0 ok.1 x off

  -- a further name alone takes into the global realm
  pub global_step : (w : What) → is_made_by state client (change_in w) ≡ true → IsNext state w → (x : Ino) → same_ino GLOBAL x ≡ false → is_in_global (told state w family).members x ≡ (links w x || is_in_global family.members x)
  global_step (what.Mkdir dir name ino) made next x apart =
      grown_inside ino dir name (not_false (is_free state dir name) (not_true (is_refused state client (change.Mkdir dir name ino)) made)) next x apart
  global_step (what.Create dir name ino mode) made next x apart =
      grown_inside ino dir name (not_false (is_free state dir name) (not_true (is_refused state client (change.Create dir name ino mode)) made)) next x apart
  global_step (what.Link ino dir name) made next x apart =
      let l = both_of (is_file state ino) (is_free state dir name) (not_false (is_file state ino && is_free state dir name) (not_true (is_refused state client (change.Link ino dir name)) made)) in
      linked_inside ino dir name l.0 l.1 x
  global_step (what.Unlink dir name) made next x apart = found_inside dir name (lookup state.entries dir name) refl STRAY stray_outside x
  global_step (what.Rmdir dir name) made next x apart =
      removed_inside dir name (lookup state.entries dir name) refl (not_false (names_one (is_removable state) (lookup state.entries dir name)) (not_true (is_refused state client (change.Rmdir dir name)) made)) x apart
  global_step (what.Rename dir name to to_name) made next x apart =
      let l = both_of (names_one (is_movable state to) (lookup state.entries dir name)) (is_free state to to_name) (not_false (names_one (is_movable state to) (lookup state.entries dir name) && is_free state to to_name) (not_true (is_refused state client (change.Rename dir name to to_name)) made)) in
      let ok = free_of state client family tree to to_name l.1 in
      found_inside dir name (lookup state.entries dir name) refl to (folder_outside state.entries state.inodes family.members tree to ok.0) x
  global_step (what.Rmsnap id) made next x apart = drop_inside (snap_of family.snaps id)
    where
      drop_inside : (found : Option Made) → is_in_global (drop_found found family).members x ≡ is_in_global family.members x
      drop_inside None = refl
      drop_inside (Some snap) = refl
  global_step w made next x apart = refl

  -- and then the file has two names
  pub two_linked : (w : What) → is_made_by state client (change_in w) ≡ true → (x : Ino) → links w x ≡ true → has_two_names (with_change state client (change_in w)) x ≡ true
  two_linked (what.Link ino dir name) made x same =
      let fine = not_true (is_refused state client (change.Link ino dir name)) made in
      let l = both_of (is_file state ino) (is_free state dir name) (not_false (is_file state ino && is_free state dir name) fine) in
      let is = linked_member ino l.0 in
      let file = file_is (kind_in state.inodes ino) (is_there state.entries ino) l.0 in
      let named = named_once ino is.1 (is_there state.entries ino) file.1 refl in
      ap (λ (s : State). has_two_names s x) (apply_made state client (change.Link ino dir name) fine)
      ∙ ap (has_two_names (make state client (change.Link ino dir name))) (sym (same_of ino x same))
      ∙ two (count (make state client (change.Link ino dir name)).entries ino) (more ino dir name named)
    where
      two : (n : ℕ) → 2 ≤ n → ltb 1 n ≡ true
      two n h = grind (arith, nat_tests)

      named_once : (ino : Ino) → is_member (member family.members ino) ≡ true → (t : Bool) → t ≡ true → is_there state.entries ino ≡ t → 1 ≤ length (parents state.entries ino)
      named_once ino there t yes_it is = go (same_ino ino ROOT) (list_any (λ (e : Dentry). same_ino e.ino ino) state.entries) refl refl (is ∙ yes_it)
        where
          go : (b c : Bool) → same_ino ino ROOT ≡ b → list_any (λ (e : Dentry). same_ino e.ino ino) state.entries ≡ c → (b || c) ≡ true → 1 ≤ length (parents state.entries ino)
          go true c root any or =
              let low = not_low state.entries state.inodes family.members tree ROOT (omega arith) in
              let never : true ≡ false = sym there ∙ ap (λ (z : Ino). is_member (member family.members z)) (same_of ino ROOT root) ∙ low in
              cc
          go false true root any or = any_named state.entries ino any
          go false false root any or = cc

      more : (ino dir : Ino) (name : List ℕ) → 1 ≤ length (parents state.entries ino) → 2 ≤ count (add (entry dir name ino) state.entries) ino
      more ino dir name named =
          let one : one_if (same_ino ino ino) ≡ 1 = ap one_if (itself ino) in
          omega (arith, count_add (entry dir name ino) state.entries ino, one, named, length_parents state.entries ino)
  two_linked w made x same = cc

-- two names now, or earlier
gets_more : (state : State) (entries : List Entry) (e : Entry) (x : Ino) → gets_two_names state (entries ++ e ∷ []) x ≡ (gets_two_names state entries x || has_two_names (after_entry (fold after_entry state entries) e) x)
gets_more state [] e x = by_test (has_two_names state x)
  where
    by_test : (b : Bool) → (elim b [ true ↦ true | false ↦ has_two_names (after_entry state e) x ]) ≡ (b || has_two_names (after_entry state e) x)
    by_test true = refl
    by_test false = refl
gets_more state (f ∷ entries) e x = by_test (has_two_names state x) (gets_more (after_entry state f) entries e x)
  where
    by_test : (b : Bool) → gets_two_names (after_entry state f) (entries ++ e ∷ []) x ≡ (gets_two_names (after_entry state f) entries x || has_two_names (after_entry (fold after_entry (after_entry state f) entries) e) x) → (elim b [ true ↦ true | false ↦ gets_two_names (after_entry state f) (entries ++ e ∷ []) x ]) ≡ ((elim b [ true ↦ true | false ↦ gets_two_names (after_entry state f) entries x ]) || has_two_names (after_entry (fold after_entry (after_entry state f) entries) e) x)
    by_test true rest = refl
    by_test false rest = rest

-- what an entry does to the global realm
pub inside_more : (done : List Entry) (e : Entry) → is_journal done ≡ true → is_legal done e ≡ true → (x : Ino) → same_ino GLOBAL x ≡ false → is_in_global (family_of (done ++ e ∷ [])).members x ≡ (links e.what x || is_in_global (family_of done).members x)
inside_more done e legal fine x apart =
    let l = both_of (is_made_by (state_after done) e.client (change_in e.what)) (fits done e.what) fine in
    ap (λ (f : Family). is_in_global f.members x) (family_more done e)
    ∙ global_step (state_after done) e.client (family_of done) (tied_after done legal) e.what l.0 (next_of done e.what l.1) x apart

pub same_global : (entries : List Entry) → is_journal entries ≡ true → (x : Ino) → same_ino GLOBAL x ≡ false → is_global entries x ≡ is_in_global (family_of entries).members x
same_global entries legal = of_each (λ (done : List Entry). (x : Ino) → same_ino GLOBAL x ≡ false → is_global done x ≡ is_in_global (family_of done).members x) (λ x apart. rw apart refl) more entries legal
  where
    single : (n : ℕ) → n ≤ 1 → ltb 1 n ≡ false
    single n h = grind (arith, nat_tests)

    more : (done : List Entry) (e : Entry) → is_journal done ≡ true → ((x : Ino) → same_ino GLOBAL x ≡ false → is_global done x ≡ is_in_global (family_of done).members x) → is_legal done e ≡ true → (x : Ino) → same_ino GLOBAL x ≡ false → is_global (done ++ e ∷ []) x ≡ is_in_global (family_of (done ++ e ∷ [])).members x
    more done e legal old fine x apart =
        gets_more empty done e x ∙ go (links e.what x) (is_in_global (family_of done).members x) refl refl ∙ sym (inside_more done e legal fine x apart)
      where
        made : is_made_by (state_after done) e.client (change_in e.what) ≡ true
        made = (both_of (is_made_by (state_after done) e.client (change_in e.what)) (fits done e.what) fine).0

        few : is_in_global (family_of (done ++ e ∷ [])).members x ≡ false → has_two_names (after_entry (state_after done) e) x ≡ false
        few outside =
            let short = (tied_step done e (tied_after done legal) fine).few x outside in
            ap (λ (s : State). has_two_names s x) (sym (state_more done e))
            ∙ single (count (state_after (done ++ e ∷ [])).entries x) (omega (arith, short, length_parents (state_after (done ++ e ∷ [])).entries x))

        go : (l g : Bool) → links e.what x ≡ l → is_in_global (family_of done).members x ≡ g → (is_global done x || has_two_names (after_entry (state_after done) e) x) ≡ (l || g)
        go true g is inside = rw (two_linked (state_after done) e.client (family_of done) (tied_after done legal) e.what made x is) (or_true (is_global done x))
          where
            or_true : (b : Bool) → (b || true) ≡ true
            or_true true = refl
            or_true false = refl
        go false true is inside = rw (old x apart, inside) refl
        go false false is inside = rw (old x apart, inside) (few (inside_more done e legal fine x apart ∙ rw (is, inside) refl))

-- Which inodes a snapshot of the story covers.
use Rattle.std.proofs.Common.{◌≡◌, ℕ, ◌+◌, ◌<◌, ◌≤◌, List, [], ◌∷◌, ◌++◌, length, Bool, true, false, cond, ◌||◌, ◌&&◌, Option, None, Some, ◌⊎◌, inl, inr, refl, sym, ap, ◌∙◌, subst, arith, map, filter, eqb}
use Rattle.std.proofs.lemmas.Bool.Decides.{nat_tests}
use Rattle.std.proofs.lemmas.List.{map-id}
use Rattle.snap_ids.specs.declared.id.Ino.{Ino}
use Rattle.snap_ids.specs.declared.id.SnapId.{SnapId}
use Rattle.snap_ids.specs.declared.id.TheConstants.{ROOT, STRAY, GLOBAL, FIRST_INO, FIRST_SNAP}
use Rattle.snap_ids.specs.Name.{is_new_snap}
use Rattle.plain_types.specs.declared.change.Change.TheVariants as change
use Rattle.plain_types.specs.declared.entry.Entry.{Entry}
use Rattle.plain_types.specs.declared.entry.What.{What}
use Rattle.plain_types.specs.declared.entry.What.TheVariants as what
use Rattle.plain_tree.specs.State.{State, Inode}
use Rattle.plain_tree.specs.State.{Entry as Dentry}
use Rattle.plain_tree.specs.Walk.{leads_up}
use Rattle.plain_tree.specs.Change.{is_directory, is_free_snap, is_refused}
use Rattle.plain_journal.specs.Entries.{change_in, state_after, applied_by}
use Rattle.plain_journal.specs.Legal.{is_made_by, fits, is_legal, is_journal}
use Rattle.realm_story.specs.Family.{Made, Member, Family, same_ino, member, is_member, way_up, is_on, is_under, is_in_global, birth_by, birth_of, inodes}
use Rattle.realm_story.specs.Stands.{FallBelow, Each}
use Rattle.realm_story.proofs.Facts.{both_of, same_of, same_sym}
use Rattle.realm_story.proofs.Same.{each_weaker}
use Rattle.journal_realms.specs.Above.{parents, makes}
use Rattle.journal_realms.specs.Told.{snap_of, drop_found, told, family_of}
use Rattle.journal_realms.proofs.Family.{family_more, told_applied}
use Rattle.journal_realms.proofs.Tree.{IsTree, IsFolder, HeadIs, head_dirs, above_of, less_apart, not_low, not_high, above_none, of_folder, folder_below}
use Rattle.journal_realms.proofs.Chains.{top_unnamed, folder_chain, leads_on, leads_nowhere, chain_short}
use Rattle.journal_realms.proofs.Kept.{not_true, not_false, folder_of}
use Rattle.journal_realms.proofs.Trees.{tied_after}
use Rattle.journal_realms.proofs.Births.{bound, bound_more, makes_next, same_birth, now_born}
use Rattle.journal_realms.proofs.Snaps.{Remarks, told_snaps, each_map, purged_one, dropped_one, purged_remarks, dropped_remarks, above_last, basic_after}
use Rattle.journal_realms.proofs.Induct.{legal_more, of_each}

-- the entry makes a snapshot
abbrev pub is_snap : What → Bool
is_snap (what.Mksnap id dir name) = true
is_snap w = false

-- the same snapshots with other marks
pub record Marks (old new : List Made) : Type 0 where
  pub mark : Made → Made
  pub keeps : Remarks mark
  pub are : new ≡ map mark old

same_marks : (old new : List Made) → new ≡ old → Marks old new
same_marks old new same = record { mark = λ s. s; keeps = λ s. (refl, (refl, (refl, (refl, λ live. live)))); are = same ∙ sym (map-id old) }

drop_marks : (found : Option Made) (family : Family) → Marks family.snaps (drop_found found family).snaps
drop_marks None family = same_marks family.snaps family.snaps refl
drop_marks (Some s) family = record { mark = dropped_one s.root s.name; keeps = dropped_remarks s.root s.name; are = refl }

pub told_marks : (state : State) (w : What) (family : Family) → is_snap w ≡ false → Marks family.snaps (told state w family).snaps
told_marks state (what.Mksnap id dir name) family is = cc
told_marks state (what.Rmsnap id) family is = drop_marks (snap_of family.snaps id) family
told_marks state (what.Purgedone id) family is = record { mark = purged_one id; keeps = purged_remarks id; are = refl }
told_marks state w family is = same_marks family.snaps (told state w family).snaps (told_snaps state w family refl)

members_on : (x : Ino) (members : List Member) → is_on x (map (λ (m : Member). m.ino) members) ≡ is_member (member members x)
members_on x [] = refl
members_on x (m ∷ members) = go (same_ino m.ino x) (same_sym m.ino x) (members_on x members)
  where
    go : (b : Bool) → b ≡ same_ino x m.ino → is_on x (map (λ (n : Member). n.ino) members) ≡ is_member (member members x) → (same_ino x m.ino || is_on x (map (λ (n : Member). n.ino) members)) ≡ is_member (cond b (Some m) (member members x))
    go true is rest = rw (← is) refl
    go false is rest = rw (← is) rest

-- who stands on the list of all inodes
pub on_inodes : (x : Ino) (members : List Member) → is_on x (inodes members) ≡ (same_ino x ROOT || (same_ino x STRAY || (same_ino x GLOBAL || is_member (member members x))))
on_inodes x members = ap (λ (b : Bool). same_ino x ROOT || (same_ino x STRAY || (same_ino x GLOBAL || b))) (members_on x members)

pub on_filter : (q : Ino → Bool) (x : Ino) (xs : List Ino) → is_on x (filter q xs) ≡ (is_on x xs && q x)
on_filter q x [] = refl
on_filter q x (y ∷ xs) = go (q y) (same_ino x y) refl refl (on_filter q x xs)
  where
    or_same : (a b : Bool) → a ≡ true → (a || b) ≡ true
    or_same true b is = refl
    or_same false b is = cc

    go : (b c : Bool) → q y ≡ b → same_ino x y ≡ c → is_on x (filter q xs) ≡ (is_on x xs && q x) → is_on x (cond b (y ∷ filter q xs) (filter q xs)) ≡ ((c || is_on x xs) && q x)
    go true true e f rest = or_same (same_ino x y) (is_on x (filter q xs)) f ∙ sym (ap q (same_of x y f) ∙ e)
    go true false e f rest = ap (λ (d : Bool). d || is_on x (filter q xs)) f ∙ rest
    go false true e f rest =
        let out : q x ≡ false = ap q (same_of x y f) ∙ e in
        rest ∙ ap (λ (d : Bool). is_on x xs && d) out ∙ and_false (is_on x xs) ∙ sym out
      where
        and_false : (a : Bool) → (a && false) ≡ false
        and_false true = refl
        and_false false = refl
    go false false e f rest = rest

-- what isn't there has the first id
pub first_birth : (m : Option Member) → is_member m ≡ false → birth_by m ≡ FIRST_SNAP
first_birth None is = refl
first_birth (Some m) is = cc

pub each_two : (n : ℕ) (snaps : List Made) → FallBelow n snaps → Each (λ s. 2 ≤ s.id.0) snaps
each_two n [] fall = tt
each_two n (s ∷ snaps) fall = (fall.1, each_two s.id.0 snaps fall.2)

-- a directory that gets a snapshot is there
pub snap_folder : (state : State) (client : ℕ) (family : Family) → IsTree state.entries state.inodes family.members → (id : SnapId) (dir : Ino) (name : List ℕ) → is_made_by state client (change_in (what.Mksnap id dir name)) ≡ true → IsFolder state.inodes family.members dir
snap_folder state client family tree id dir name made =
    folder_of state client family tree dir (first (is_directory state dir) (is_new_snap name) _ _ _ (not_false (is_free_snap state dir name) (not_true (is_refused state client (change.Mksnap id dir name)) made)))
  where
    first : (a b c d e : Bool) → ((((a && b) && c) && d) && e) ≡ true → a ≡ true
    first true b c d e is = refl
    first false b c d e is = cc

-- An inode outside the global realm is below a directory by its names where the directory stands on its way.
module _ (entries : List Dentry) (inos : List Inode) (members : List Member) (tree : IsTree entries inos members) (dir : Ino) (folder : IsFolder inos members dir) where
  stray_apart : same_ino dir STRAY ≡ false
  stray_apart = go (of_folder entries inos members tree dir folder)
    where
      go : (dir ≡ ROOT) ⊎ (is_member (member members dir) ≡ true) → same_ino dir STRAY ≡ false
      go (inl root) = ap (λ (d : Ino). same_ino d STRAY) root
      go (inr there) = same_sym dir STRAY ∙ less_apart STRAY dir (omega (arith, tree.high dir there))

  nowhere : (x : Ino) → parents entries x ≡ [] → leads_up (length entries) entries x dir ≡ same_ino dir x
  nowhere x none = leads_nowhere (length entries) entries x dir none ∙ same_sym x dir

  or_none : (b : Bool) → (b || false) ≡ b
  or_none true = refl
  or_none false = refl

  and_true : (b c : Bool) → b ≡ true → (b && c) ≡ c
  and_true true c is = refl
  and_true false c is = cc

  member_under : (x : Ino) (ds : List Ino) → parents entries x ≡ ds → length ds ≤ 1 → HeadIs (IsFolder inos members) ds → is_on dir (x ∷ above_of members ds) ≡ leads_up (length entries) entries x dir
  member_under x [] none few head = ap (λ (b : Bool). same_ino dir x || (b || false)) stray_apart ∙ or_none (same_ino dir x) ∙ sym (nowhere x none)
  member_under x (d ∷ e ∷ ds) none few head = absurd (omega (arith, few))
  member_under x (d ∷ []) is few head =
      let leads = folder_chain entries inos members tree d head in
      let top = top_unnamed entries inos members tree in
      sym (leads_on (length entries) entries x dir (way_up members d) top (is, leads) (chain_short entries x (way_up members d) top (is, leads)))

  -- a folder is another one than what isn't there
  unlike : (x : Ino) → is_member (member members x) ≡ false → same_ino x ROOT ≡ false → same_ino dir x ≡ false
  unlike x none other = go (same_ino dir x) refl
    where
      go : (b : Bool) → same_ino dir x ≡ b → b ≡ false
      go true same = by_folder (of_folder entries inos members tree dir folder)
        where
          by_folder : (dir ≡ ROOT) ⊎ (is_member (member members dir) ≡ true) → true ≡ false
          by_folder (inl root) = sym (ap (λ (z : Ino). same_ino z ROOT) (sym (same_of dir x same) ∙ root)) ∙ other
          by_folder (inr there) = sym there ∙ ap (λ (z : Ino). is_member (member members z)) (same_of dir x same) ∙ none
      go false is = refl

  pub under_same : (x : Ino) → is_in_global members x ≡ false → (is_on x (inodes members) && is_under members x dir) ≡ leads_up (length entries) entries x dir
  under_same x outside = ap (λ (b : Bool). b && is_under members x dir) (on_inodes x members) ∙ go (same_ino x ROOT) (is_member (member members x)) refl refl
    where
      go : (r m : Bool) → same_ino x ROOT ≡ r → is_member (member members x) ≡ m → ((r || (same_ino x STRAY || (same_ino x GLOBAL || m))) && is_under members x dir) ≡ leads_up (length entries) entries x dir
      go true m root is =
          let at = same_of x ROOT root in
          let none = above_none entries inos members tree ROOT (not_low entries inos members tree ROOT (omega arith)) in
          ap (λ (z : Ino). is_under members z dir) at
          ∙ ap (λ (w : List Ino). is_on dir (ROOT ∷ w)) none
          ∙ sym (leads_on (length entries) entries ROOT dir [] (top_unnamed entries inos members tree) refl (omega arith))
          ∙ ap (λ (z : Ino). leads_up (length entries) entries z dir) (sym at)
      go false true root is =
          and_true (same_ino x STRAY || (same_ino x GLOBAL || true)) (is_under members x dir) (or_true (same_ino x STRAY) (same_ino x GLOBAL))
          ∙ ap (λ (w : List Ino). is_on dir (x ∷ w)) (tree.ways x is outside)
          ∙ member_under x (parents entries x) refl (tree.few x outside) (head_dirs (IsFolder inos members) entries x tree.dirs)
        where
          or_true : (a b : Bool) → (a || (b || true)) ≡ true
          or_true true b = refl
          or_true false true = refl
          or_true false false = refl
      go false false root is =
          let off : is_under members x dir ≡ false = ap (λ (w : List Ino). is_on dir (x ∷ w)) (above_none entries inos members tree x is) ∙ ap (λ (b : Bool). b || false) (unlike x is root) in
          ap (λ (b : Bool). (same_ino x STRAY || (same_ino x GLOBAL || false)) && b) off
          ∙ and_false (same_ino x STRAY || (same_ino x GLOBAL || false))
          ∙ sym (nowhere x (tree.named x is) ∙ unlike x is root)
        where
          and_false : (a : Bool) → (a && false) ≡ false
          and_false true = refl
          and_false false = refl

-- what the snapshots of a story cover, and when the members were born
pub record Covers (done : List Entry) : Type 0 where
  pub late : (x : Ino) → is_member (member (family_of done).members x) ≡ true → (2 ≤ (birth_of (family_of done) x).0) × ((birth_of (family_of done) x).0 ≤ (family_of done).applied.0 + 1)
  pub off : (x : Ino) → bound done ≤ x.0 → Each (λ s. (is_on x s.covered ≡ false) × (same_ino x s.root ≡ false)) (family_of done).snaps
  pub early : (x : Ino) → Each (λ s. is_on x s.covered ≡ true → (birth_of (family_of done) x).0 ≤ s.id.0) (family_of done).snaps

-- what holds of each snapshot, after one entry more
pub each_told : (P : Made → Type 0) → ((f : Made → Made) (s : Made) → ((f s).id ≡ s.id) → ((f s).root ≡ s.root) → ((f s).covered ≡ s.covered) → P s → P (f s)) → (state : State) (w : What) (family : Family) → ((id : SnapId) (dir : Ino) (name : List ℕ) → w ≡ what.Mksnap id dir name → P (record { id = id; root = dir; name = name; covered = filter (λ ino. is_under family.members ino dir) (inodes family.members); live = true; purged = false })) → Each P family.snaps → Each P (told state w family).snaps
each_told P kept state w family new all = go (is_snap w) refl
  where
    by_snap : (w : What) → is_snap w ≡ true → ((id : SnapId) (dir : Ino) (name : List ℕ) → w ≡ what.Mksnap id dir name → P (record { id = id; root = dir; name = name; covered = filter (λ ino. is_under family.members ino dir) (inodes family.members); live = true; purged = false })) → Each P (told state w family).snaps
    by_snap (what.Mksnap id dir name) is new = (new id dir name refl, all)
    by_snap w is new = cc

    go : (b : Bool) → is_snap w ≡ b → Each P (told state w family).snaps
    go true is = by_snap w is new
    go false is =
        let m = told_marks state w family is in
        subst (Each P) (sym m.are) (each_map P P m.mark family.snaps (λ s h. kept m.mark s (m.keeps s).0 (m.keeps s).1.0 (m.keeps s).1.1.1.0 h) all)

module _ (done : List Entry) (e : Entry) (legal : is_journal done ≡ true) (fine : is_legal done e ≡ true) where
  abbrev old : Family
  old = family_of done

  abbrev new : Family
  new = told (state_after done) e.what old

  made_it : is_made_by (state_after done) e.client (change_in e.what) ≡ true
  made_it = (both_of (is_made_by (state_after done) e.client (change_in e.what)) (fits done e.what) fine).0

  grows_by : (n : ℕ) (w : What) → ((id : SnapId) (dir : Ino) (name : List ℕ) → w ≡ what.Mksnap id dir name → n < id.0) → n ≤ applied_by n w
  grows_by n (what.Mksnap id dir name) above = omega (arith, above id dir name refl)
  grows_by n w above = omega arith

  pub applied_grows : old.applied.0 ≤ new.applied.0
  applied_grows = subst (λ (n : ℕ). old.applied.0 ≤ n) (sym (told_applied (state_after done) e.what old)) (grows_by old.applied.0 e.what (above_last done e legal fine))

  made_applied : (w : What) (x : Ino) → makes x w ≡ true → applied_by old.applied.0 w ≡ old.applied.0
  made_applied (what.Mkdir d n i) x is = refl
  made_applied (what.Create d n i m) x is = refl
  made_applied w x is = cc

  late_now : Covers done → (x : Ino) → is_member (member new.members x) ≡ true → (2 ≤ (birth_of new x).0) × ((birth_of new x).0 ≤ new.applied.0 + 1)
  late_now covers x there = go (makes x e.what) refl
    where
      go : (b : Bool) → makes x e.what ≡ b → (2 ≤ (birth_of new x).0) × ((birth_of new x).0 ≤ new.applied.0 + 1)
      go true is =
          let one = (basic_after done legal).one in
          let birth : (birth_of new x).0 ≡ old.applied.0 + 1 = ap (λ (s : SnapId). s.0) (now_born (state_after done) e.what old x is) in
          (omega (arith, one, birth), omega (arith, birth, applied_grows))
      go false is =
          let was = same_birth (state_after done) e.what old x is there in
          let birth : (birth_of new x).0 ≡ (birth_of old x).0 = ap (λ (s : SnapId). s.0) was.birth_same in
          let bounds = covers.late x was.is_same in
          (omega (arith, bounds.0, birth), omega (arith, bounds.1, birth, applied_grows))

  folder_now : (id : SnapId) (dir : Ino) (name : List ℕ) → e.what ≡ what.Mksnap id dir name → IsFolder (state_after done).inodes old.members dir
  folder_now id dir name is = snap_folder (state_after done) e.client old (tied_after done legal) id dir name (subst (λ (w : What). is_made_by (state_after done) e.client (change_in w) ≡ true) is made_it)

  off_now : Covers done → (x : Ino) → bound done ≤ x.0 → Each (λ s. (is_on x s.covered ≡ false) × (same_ino x s.root ≡ false)) new.snaps
  off_now covers x above =
      each_told (λ s. (is_on x s.covered ≡ false) × (same_ino x s.root ≡ false)) (λ f s id root covered is. (ap (is_on x) covered ∙ is.0, ap (same_ino x) root ∙ is.1)) (state_after done) e.what old now (covers.off x above)
    where
      above_roots : (n k : ℕ) → FIRST_INO.0 ≤ n → k ≤ 3 → eqb n k ≡ false
      above_roots n k high low = grind (arith, nat_tests)

      now : (id : SnapId) (dir : Ino) (name : List ℕ) → e.what ≡ what.Mksnap id dir name → (is_on x (filter (λ ino. is_under old.members ino dir) (inodes old.members)) ≡ false) × (same_ino x dir ≡ false)
      now id dir name is =
          let tree = tied_after done legal in
          let high : FIRST_INO.0 ≤ x.0 = omega (arith, above) in
          let none : (same_ino x ROOT || (same_ino x STRAY || (same_ino x GLOBAL || is_member (member old.members x)))) ≡ false = rw (above_roots x.0 1 high (omega arith), above_roots x.0 2 high (omega arith), above_roots x.0 3 high (omega arith), not_high (state_after done).entries (state_after done).inodes old.members tree x above) refl in (
            on_filter (λ ino. is_under old.members ino dir) x (inodes old.members)
                ∙ ap (λ (b : Bool). b && is_under old.members x dir) (on_inodes x old.members ∙ none),
            same_sym x dir ∙ less_apart dir x (omega (arith, folder_below (state_after done).entries (state_after done).inodes old.members tree dir (folder_now id dir name is), above)),
          )

  early_now : Covers done → (x : Ino) → Each (λ s. is_on x s.covered ≡ true → (birth_of new x).0 ≤ s.id.0) new.snaps
  early_now covers x = go (makes x e.what) (is_member (member new.members x)) refl refl
    where
      none_now : is_member (member new.members x) ≡ false → Each (λ s. is_on x s.covered ≡ true → (birth_of new x).0 ≤ s.id.0) new.snaps
      none_now is =
          let birth : (birth_of new x).0 ≡ 2 = ap (λ (s : SnapId). s.0) (first_birth (member new.members x) is) in
          let fall = subst (λ (f : Family). FallBelow (f.applied.0 + 1) f.snaps) (family_more done e) (basic_after (done ++ e ∷ []) (legal_more [] done e legal fine)).fall in
          each_weaker (λ s. 2 ≤ s.id.0) (λ s. is_on x s.covered ≡ true → (birth_of new x).0 ≤ s.id.0) new.snaps (λ s two on. omega (arith, two, birth)) (each_two (new.applied.0 + 1) new.snaps fall)

      go : (b m : Bool) → makes x e.what ≡ b → is_member (member new.members x) ≡ m → Each (λ s. is_on x s.covered ≡ true → (birth_of new x).0 ≤ s.id.0) new.snaps
      go b false is there = none_now there
      go true true is there =
          let next = makes_next done e x legal fine is in
          each_weaker (λ s. (is_on x s.covered ≡ false) × (same_ino x s.root ≡ false)) (λ s. is_on x s.covered ≡ true → (birth_of new x).0 ≤ s.id.0) new.snaps
          (λ s off on. let never : true ≡ false = sym on ∙ off.0 in cc) (off_now covers x (omega (arith, next.0)))
      go false true is there =
          let was = same_birth (state_after done) e.what old x is there in
          let birth : (birth_of new x).0 ≡ (birth_of old x).0 = ap (λ (s : SnapId). s.0) was.birth_same in
          each_told (λ s. is_on x s.covered ≡ true → (birth_of new x).0 ≤ s.id.0)
          (λ f s id root covered h on. subst (λ (i : SnapId). (birth_of new x).0 ≤ i.0) (sym id) (h (ap (is_on x) (sym covered) ∙ on)))
          (state_after done) e.what old (λ id dir name snap on. omega (arith, birth, (covers.late x was.is_same).1, above_last done e legal fine id dir name snap))
          (each_weaker (λ s. is_on x s.covered ≡ true → (birth_of old x).0 ≤ s.id.0) (λ s. is_on x s.covered ≡ true → (birth_of new x).0 ≤ s.id.0) old.snaps (λ s h on. omega (arith, birth, h on)) (covers.early x))

  pub covers_step : Covers done → Covers (done ++ e ∷ [])
  covers_step covers = record {
    late = subst (λ (f : Family). (x : Ino) → is_member (member f.members x) ≡ true → (2 ≤ (birth_of f x).0) × ((birth_of f x).0 ≤ f.applied.0 + 1)) (sym (family_more done e)) (late_now covers);
    off = λ x above. subst (λ (f : Family). Each (λ s. (is_on x s.covered ≡ false) × (same_ino x s.root ≡ false)) f.snaps) (sym (family_more done e)) (off_now covers x (omega (arith, bound_more done e fine, above)));
    early = λ x. subst (λ (f : Family). Each (λ s. is_on x s.covered ≡ true → (birth_of f x).0 ≤ s.id.0) f.snaps) (sym (family_more done e)) (early_now covers x);
  }

pub covers_after : (entries : List Entry) → is_journal entries ≡ true → Covers entries
covers_after entries legal = of_each Covers (record { late = λ x is. cc; off = λ x above. tt; early = λ x. tt }) (λ done e journal covers fine. covers_step done e journal fine covers) entries legal

-- The ways up after an inode was moved, or lost its last name.
use Rattle.std.proofs.Common.{◌≡◌, ◌≤◌, List, [], ◌∷◌, length, Bool, true, false, not, ◌||◌, Option, refl, sym, ap, ◌∙◌, subst, arith, map, filter}
use Rattle.snap_ids.specs.declared.id.Ino.{Ino}
use Rattle.snap_ids.specs.declared.id.TheConstants.{ROOT, STRAY, GLOBAL}
use Rattle.snap_ids.specs.declared.values.Kind.TheVariants.{Dir, File}
use Rattle.plain_tree.specs.State.{Entry, Inode, kind_in}
use Rattle.realm_story.specs.Family.{Member, same_ino, member, is_member, above_by, is_on, is_in_global, way_moved, moved}
use Rattle.realm_story.proofs.Facts.{same_of, same_sym}
use Rattle.realm_story.proofs.Same.{or_first, or_second}
use Rattle.journal_realms.specs.Above.{parents}
use Rattle.journal_realms.proofs.Parents.{IsOnce}
use Rattle.journal_realms.proofs.Members.{moved_is, moved_other, moved_self, left_other, left_self, way_off, off_moved}
use Rattle.journal_realms.proofs.Tree.{IsTree, IsFolder, AllDirs, HeadIs, head_dirs, dirs_weaker, dirs_both, above_of, above_same, less_apart, above_none}

-- what the names are after one inode got others
pub record Renames (entries new : List Entry) (inodes : List Inode) (members : List Member) (x : Ino) (ds : List Ino) : Type 0 where
  pub once : IsOnce new
  pub dirs : AllDirs (IsFolder inodes members) new
  pub others : (y : Ino) → same_ino x y ≡ false → parents new y ≡ parents entries y

-- the inodes in the global realm after an inode was moved that isn't
module _ (entries : List Entry) (inodes : List Inode) (members : List Member) (x : Ino) (tree : IsTree entries inodes members) (there : is_member (member members x) ≡ true) (outside : is_in_global members x ≡ false) (up : List Ino) (up_outside : is_on GLOBAL up ≡ false) where
  pub global_apart : same_ino GLOBAL x ≡ false
  global_apart = less_apart GLOBAL x (omega (arith, tree.high x there))

  self_global : (y : Ino) → same_ino x y ≡ true → is_in_global (map (moved x up) members) y ≡ is_in_global members y
  self_global y same =
      ap (is_in_global (map (moved x up) members)) (sym (same_of x y same))
      ∙ ap (λ (w : List Ino). is_on GLOBAL (x ∷ w)) (moved_self x up members there)
      ∙ rw global_apart up_outside
      ∙ sym outside
      ∙ ap (is_in_global members) (same_of x y same)

  other_global : (y : Ino) (m g : Bool) → is_member (member members y) ≡ m → is_in_global members y ≡ g → same_ino x y ≡ false → is_in_global (map (moved x up) members) y ≡ g
  other_global y false g none is apart =
      ap (λ (w : List Ino). is_on GLOBAL (y ∷ w)) (moved_other x up members y apart ∙ ap (way_moved x up) (above_none entries inodes members tree y none) ∙ sym (above_none entries inodes members tree y none)) ∙ is
  other_global y true true there_too is apart =
      ap (λ (w : List Ino). is_on GLOBAL (y ∷ w)) (moved_other x up members y apart ∙ ap (way_moved x up) (tree.globals y there_too is) ∙ way_off x up (GLOBAL ∷ []) (rw (same_sym x GLOBAL, global_apart) refl) ∙ sym (tree.globals y there_too is)) ∙ is
  other_global y true false there_too is apart =
      ap (λ (w : List Ino). is_on GLOBAL (y ∷ w)) (moved_other x up members y apart)
      ∙ rw (or_first (same_ino GLOBAL y) (is_on GLOBAL (above_by (member members y))) is)
      (off_moved GLOBAL x up (above_by (member members y)) global_apart up_outside (or_second (same_ino GLOBAL y) (is_on GLOBAL (above_by (member members y))) is))

  pub shifted_global : (y : Ino) → is_in_global (map (moved x up) members) y ≡ is_in_global members y
  shifted_global y = go (same_ino x y) refl
    where
      go : (b : Bool) → same_ino x y ≡ b → is_in_global (map (moved x up) members) y ≡ is_in_global members y
      go true same = self_global y same
      go false apart = other_global y (is_member (member members y)) (is_in_global members y) refl refl apart

module _ (entries new : List Entry) (inodes : List Inode) (members : List Member) (x : Ino) (ds : List Ino) (tree : IsTree entries inodes members) (there : is_member (member members x) ≡ true) (renames : Renames entries new inodes members x ds) where
  other_if : (y : Ino) → is_member (member members y) ≡ false → same_ino x y ≡ false
  other_if y none = go (same_ino x y) refl
    where
      go : (b : Bool) → same_ino x y ≡ b → b ≡ false
      go true same =
          let never : true ≡ false = sym there ∙ ap (λ (z : Ino). is_member (member members z)) (same_of x y same) ∙ none in
          cc
      go false apart = refl

  -- a file in the global realm got another name, or lost one
  pub tree_global : is_in_global members x ≡ true → IsTree new inodes members
  tree_global inside = record {
    once = renames.once;
    dirs = renames.dirs;
    some = tree.some;
    named = λ y none. renames.others y (other_if y none) ∙ tree.named y none;
    high = tree.high;
    low = tree.low;
    files = tree.files;
    globals = tree.globals;
    ways = λ y is outside. tree.ways y is outside ∙ ap (above_of members) (sym (renames.others y (apart y outside)));
    few = λ y outside. rw (renames.others y (apart y outside)) (tree.few y outside);
    placed = λ y. placed_at y (same_ino x y) refl;
    kept = tree.kept;
    made = tree.made;
  }
    where
      apart : (y : Ino) → is_in_global members y ≡ false → same_ino x y ≡ false
      apart y outside = go (same_ino x y) refl
        where
          go : (b : Bool) → same_ino x y ≡ b → b ≡ false
          go true same =
              let never : true ≡ false = sym inside ∙ ap (is_in_global members) (same_of x y same) ∙ outside in
              cc
          go false is = refl

      placed_at : (y : Ino) (b : Bool) → same_ino x y ≡ b → is_member (member members y) ≡ true → kind_in inodes y ≡ Dir → 1 ≤ length (parents new y)
      placed_at y true same is kind =
          let never : Dir ≡ File = sym kind ∙ ap (kind_in inodes) (sym (same_of x y same)) ∙ tree.files x there inside in
          cc
      placed_at y false is_other is kind = rw (renames.others y is_other) (tree.placed y is kind)

  -- any other inode was moved
  module _ (outside : is_in_global members x ≡ false) (up : List Ino) (now : parents new x ≡ ds) (up_is : up ≡ above_of members ds) (few_now : length ds ≤ 1) (heads : HeadIs (IsFolder inodes members) ds) (off : is_on x up ≡ false) (up_outside : is_on GLOBAL up ≡ false) (placed_now : kind_in inodes x ≡ Dir → 1 ≤ length ds) where
    abbrev members' : List Member
    members' = map (moved x up) members

    stray_apart : same_ino x STRAY ≡ false
    stray_apart = same_sym x STRAY ∙ less_apart STRAY x (omega (arith, tree.high x there))

    still_folder : (d : Ino) → IsFolder inodes members d → IsFolder inodes members' d
    still_folder d is = record { kind = is.kind; there = ap (λ (b : Bool). same_ino d ROOT || b) (moved_is x up members d) ∙ is.there }

    -- the way above a directory that isn't below the inode
    way_down : (d : Ino) (b : Bool) → same_ino x d ≡ b → way_moved x up (d ∷ above_by (member members d)) ≡ d ∷ above_by (member members' d)
    way_down d true same =
        let is : x ≡ d = same_of x d same in
        rw (same_sym d x, same)
        ((λ i. is i ∷ up) ∙ ap (λ (w : List Ino). d ∷ w) (sym (moved_self x up members there) ∙ ap (λ (z : Ino). above_by (member members' z)) is))
    way_down d false apart = rw (same_sym d x, apart) (ap (λ (w : List Ino). d ∷ w) (sym (moved_other x up members d apart)))

    ways_down : (ps : List Ino) → way_moved x up (above_of members ps) ≡ above_of members' ps
    ways_down [] = way_off x up (STRAY ∷ []) (rw stray_apart refl)
    ways_down (d ∷ more) = way_down d (same_ino x d) refl

    ways_at : (y : Ino) (b : Bool) → same_ino x y ≡ b → is_member (member members y) ≡ true → is_in_global members y ≡ false → above_by (member members' y) ≡ above_of members' (parents new y)
    ways_at y true same is out =
        ap (λ (z : Ino). above_by (member members' z)) (sym (same_of x y same))
        ∙ moved_self x up members there
        ∙ sym (way_off x up up off)
        ∙ ap (way_moved x up) up_is
        ∙ ways_down ds
        ∙ ap (above_of members') (sym now ∙ ap (parents new) (same_of x y same))
    ways_at y false apart is out =
        moved_other x up members y apart
        ∙ ap (way_moved x up) (tree.ways y is out)
        ∙ ways_down (parents entries y)
        ∙ ap (above_of members') (sym (renames.others y apart))

    few_at : (y : Ino) (b : Bool) → same_ino x y ≡ b → is_in_global members y ≡ false → length (parents new y) ≤ 1
    few_at y true same out = subst (λ (z : Ino). length (parents new z) ≤ 1) (same_of x y same) (rw now few_now)
    few_at y false apart out = rw (renames.others y apart) (tree.few y out)

    placed_at : (y : Ino) (b : Bool) → same_ino x y ≡ b → is_member (member members y) ≡ true → kind_in inodes y ≡ Dir → 1 ≤ length (parents new y)
    placed_at y true same is kind = subst (λ (z : Ino). 1 ≤ length (parents new z)) (same_of x y same) (rw now (placed_now (ap (kind_in inodes) (same_of x y same) ∙ kind)))
    placed_at y false apart is kind = rw (renames.others y apart) (tree.placed y is kind)

    globals_at : (y : Ino) (b : Bool) → same_ino x y ≡ b → is_member (member members y) ≡ true → is_in_global members y ≡ true → above_by (member members' y) ≡ GLOBAL ∷ []
    globals_at y true same is inside =
        let never : true ≡ false = sym inside ∙ ap (is_in_global members) (sym (same_of x y same)) ∙ outside in
        cc
    globals_at y false apart is inside = moved_other x up members y apart ∙ ap (way_moved x up) (tree.globals y is inside) ∙ way_off x up (GLOBAL ∷ []) (rw (same_sym x GLOBAL, global_apart entries inodes members x tree there outside up up_outside) refl)

    pub tree_shifted : IsTree new inodes members'
    tree_shifted = record {
      once = renames.once;
      dirs = dirs_weaker (IsFolder inodes members) (IsFolder inodes members') new still_folder renames.dirs;
      some = tree.some;
      named = λ y none. let was = sym (moved_is x up members y) ∙ none in renames.others y (other_if y was) ∙ tree.named y was;
      high = λ y is. tree.high y (sym (moved_is x up members y) ∙ is);
      low = λ y is. tree.low y (sym (moved_is x up members y) ∙ is);
      files = λ y is inside. tree.files y (sym (moved_is x up members y) ∙ is) (sym (shifted_global entries inodes members x tree there outside up up_outside y) ∙ inside);
      globals = λ y is inside. globals_at y (same_ino x y) refl (sym (moved_is x up members y) ∙ is) (sym (shifted_global entries inodes members x tree there outside up up_outside y) ∙ inside);
      ways = λ y is out. ways_at y (same_ino x y) refl (sym (moved_is x up members y) ∙ is) (sym (shifted_global entries inodes members x tree there outside up up_outside y) ∙ out);
      few = λ y out. few_at y (same_ino x y) refl (sym (shifted_global entries inodes members x tree there outside up up_outside y) ∙ out);
      placed = λ y is kind. placed_at y (same_ino x y) refl (sym (moved_is x up members y) ∙ is) kind;
      kept = λ y made kind. moved_is x up members y ∙ tree.kept y made kind;
      made = λ y is. tree.made y (sym (ap (λ (b : Bool). same_ino y ROOT || b) (moved_is x up members y)) ∙ is);
    }

  -- an empty directory is removed
  module _ (dir_kind : kind_in inodes x ≡ Dir) (now : parents new x ≡ []) (empty : AllDirs (λ d. same_ino x d ≡ false) new) (was_empty : AllDirs (λ d. same_ino x d ≡ false) entries) where
    abbrev rest : List Member
    rest = filter (λ (m : Member). not (same_ino m.ino x)) members

    rest_other : (y : Ino) → same_ino x y ≡ false → member rest y ≡ member members y
    rest_other y apart = left_other x y members apart

    -- who is left is another one
    rest_apart : (y : Ino) → is_member (member rest y) ≡ true → same_ino x y ≡ false
    rest_apart y is = go (same_ino x y) refl
      where
        go : (b : Bool) → same_ino x y ≡ b → b ≡ false
        go true same =
            let gone : is_member (member rest y) ≡ false = ap (λ (z : Ino). is_member (member rest z)) (sym (same_of x y same)) ∙ ap is_member (left_self x members) in
            let never : true ≡ false = sym is ∙ gone in
            cc
        go false apart = refl

    rest_was : (y : Ino) → is_member (member rest y) ≡ true → is_member (member members y) ≡ true
    rest_was y is = ap is_member (sym (rest_other y (rest_apart y is))) ∙ is

    pub rest_global : (y : Ino) → same_ino x y ≡ false → is_in_global rest y ≡ is_in_global members y
    rest_global y apart = ap (λ (w : List Ino). is_on GLOBAL (y ∷ w)) (ap above_by (rest_other y apart))

    rest_folder : (d : Ino) → IsFolder inodes members d → same_ino x d ≡ false → IsFolder inodes rest d
    rest_folder d is apart = record { kind = is.kind; there = ap (λ (m : Option Member). same_ino d ROOT || is_member m) (rest_other d apart) ∙ is.there }

    named_left : (y : Ino) (b : Bool) → same_ino x y ≡ b → is_member (member rest y) ≡ false → parents new y ≡ []
    named_left y true same none = ap (parents new) (sym (same_of x y same)) ∙ now
    named_left y false apart none = renames.others y apart ∙ tree.named y (ap is_member (sym (rest_other y apart)) ∙ none)

    few_left : (y : Ino) (b : Bool) → same_ino x y ≡ b → is_in_global rest y ≡ false → length (parents new y) ≤ 1
    few_left y true same out = rw (named_left y true same (ap (λ (z : Ino). is_member (member rest z)) (sym (same_of x y same)) ∙ ap is_member (left_self x members))) (omega arith)
    few_left y false apart out = rw (renames.others y apart) (tree.few y (sym (rest_global y apart) ∙ out))

    ways_left : (y : Ino) → same_ino x y ≡ false → is_member (member members y) ≡ true → is_in_global members y ≡ false → above_by (member rest y) ≡ above_of rest (parents new y)
    ways_left y apart is out =
        ap above_by (rest_other y apart)
        ∙ tree.ways y is out
        ∙ sym (above_same members rest (λ d. same_ino x d ≡ false) (parents entries y) (head_dirs (λ d. same_ino x d ≡ false) entries y was_empty) (λ d other. ap above_by (rest_other d other)))
        ∙ ap (above_of rest) (sym (renames.others y apart))

    kept_left : (y : Ino) (b : Bool) → same_ino x y ≡ b → is_member (member members y) ≡ true → kind_in inodes y ≡ File → is_member (member rest y) ≡ true
    kept_left y true same is kind =
        let never : Dir ≡ File = sym dir_kind ∙ ap (kind_in inodes) (same_of x y same) ∙ kind in
        cc
    kept_left y false apart is kind = ap is_member (rest_other y apart) ∙ is

    made_left : (y : Ino) (b : Bool) → (b || is_member (member rest y)) ≡ true → (b || is_member (member members y)) ≡ true
    made_left y true is = refl
    made_left y false is = rest_was y is

    pub tree_left : IsTree new inodes rest
    tree_left = record {
      once = renames.once;
      dirs = dirs_both (IsFolder inodes members) (λ d. same_ino x d ≡ false) (IsFolder inodes rest) new rest_folder renames.dirs empty;
      some = tree.some;
      named = λ y. named_left y (same_ino x y) refl;
      high = λ y is. tree.high y (rest_was y is);
      low = λ y is. tree.low y (rest_was y is);
      files = λ y is inside. tree.files y (rest_was y is) (sym (rest_global y (rest_apart y is)) ∙ inside);
      globals = λ y is inside. ap above_by (rest_other y (rest_apart y is)) ∙ tree.globals y (rest_was y is) (sym (rest_global y (rest_apart y is)) ∙ inside);
      ways = λ y is out. ways_left y (rest_apart y is) (rest_was y is) (sym (rest_global y (rest_apart y is)) ∙ out);
      few = λ y. few_left y (same_ino x y) refl;
      placed = λ y is kind. rw (renames.others y (rest_apart y is)) (tree.placed y (rest_was y is) kind);
      kept = λ y made kind. kept_left y (same_ino x y) refl (tree.kept y made kind) kind;
      made = λ y is. tree.made y (made_left y (same_ino y ROOT) is);
    }

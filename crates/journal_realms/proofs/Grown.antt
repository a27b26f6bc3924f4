-- The ways up after an inode was made, or got a second name.
use Rattle.std.proofs.Common.{◌≡◌, ℕ, ◌+◌, ◌<◌, ◌≤◌, List, [], ◌∷◌, ◌++◌, length, Bool, true, false, ◌||◌, None, refl, sym, ap, ◌∙◌, subst, arith, map, length-append}
use Rattle.std.specs.List.{list_any}
use Rattle.std.proofs.lemmas.List.Folds.{list_any-append}
use Rattle.snap_ids.specs.declared.id.Ino.{Ino}
use Rattle.snap_ids.specs.declared.id.SnapId.{SnapId}
use Rattle.snap_ids.specs.declared.id.TheConstants.{ROOT, GLOBAL, FIRST_INO}
use Rattle.snap_ids.specs.declared.values.Kind.TheVariants.{Dir, File}
use Rattle.plain_tree.specs.State.{Entry, Inode, kind_in, lookup, add}
use Rattle.plain_tree.specs.Change.{entry}
use Rattle.realm_story.specs.Family.{Member, same_ino, member, is_member, above_by, way_up, is_on, is_in_global, made_global}
use Rattle.realm_story.proofs.Facts.{same_of, same_sym, itself}
use Rattle.journal_realms.specs.Above.{parents}
use Rattle.journal_realms.proofs.Parents.{once_add, parents_add_other, parents_add_first}
use Rattle.journal_realms.proofs.Members.{global_is, global_other, global_self}
use Rattle.journal_realms.proofs.Tree.{IsTree, IsFolder, is_folder, HeadIs, head_dirs, dirs_weaker, dirs_add, above_of, above_same, bound_of, less_apart, kind_push, not_high, folder_outside, folder_below, folder_no_file}

-- an inode is made
module _ (entries : List Entry) (inodes : List Inode) (members : List Member) (tree : IsTree entries inodes members) (dir : Ino) (name : List ℕ) (node : Inode) (birth : SnapId) (number : node.ino.0 ≡ bound_of inodes) (folder : IsFolder inodes members dir) (free : lookup entries dir name ≡ None) where
  abbrev ino : Ino
  ino = node.ino

  abbrev entries' : List Entry
  entries' = add (entry dir name ino) entries

  abbrev inodes' : List Inode
  inodes' = inodes ++ node ∷ []

  abbrev members' : List Member
  members' = record { ino = ino; above = way_up members dir; birth = birth } ∷ members

  pub fresh : is_member (member members ino) ≡ false
  fresh = not_high entries inodes members tree ino (omega (arith, number))

  longer : bound_of inodes' ≡ bound_of inodes + 1
  longer = omega (arith, length-append inodes (node ∷ []), tree.some)

  folder_apart : (d : Ino) → IsFolder inodes members d → same_ino ino d ≡ false
  folder_apart d is = same_sym ino d ∙ less_apart d ino (omega (arith, number, folder_below entries inodes members tree d is))

  is_other : (x : Ino) → same_ino ino x ≡ false → is_member (member members' x) ≡ is_member (member members x)
  is_other x apart = rw apart refl

  above_other : (x : Ino) → same_ino ino x ≡ false → above_by (member members' x) ≡ above_by (member members x)
  above_other x apart = rw apart refl

  above_self : (x : Ino) → same_ino ino x ≡ true → above_by (member members' x) ≡ way_up members dir
  above_self x same = rw same refl

  pub global_other_one : (x : Ino) → same_ino ino x ≡ false → is_in_global members' x ≡ is_in_global members x
  global_other_one x apart = ap (λ (w : List Ino). is_on GLOBAL (x ∷ w)) (above_other x apart)

  pub global_new : (x : Ino) → same_ino ino x ≡ true → is_in_global members' x ≡ false
  global_new x same =
      let high : same_ino GLOBAL x ≡ false = ap (same_ino GLOBAL) (sym (same_of ino x same)) ∙ less_apart GLOBAL ino (omega (arith, number)) in
      ap (λ (w : List Ino). is_on GLOBAL (x ∷ w)) (above_self x same)
      ∙ rw high (folder_outside entries inodes members tree dir folder)

  folder_too : (d : Ino) → IsFolder inodes members d → IsFolder inodes' members' d
  folder_too d is = record {
    kind = kind_push inodes node d (folder_apart d is) ∙ is.kind;
    there = ap (λ (b : Bool). same_ino d ROOT || b) (is_other d (folder_apart d is)) ∙ is.there;
  }

  other_parents : (x : Ino) → same_ino ino x ≡ false → parents entries' x ≡ parents entries x
  other_parents x apart = parents_add_other (entry dir name ino) entries x apart

  new_parents : (x : Ino) → same_ino ino x ≡ true → parents entries' x ≡ dir ∷ []
  new_parents x same = parents_add_first (entry dir name ino) entries x same (tree.named x (ap (λ (y : Ino). is_member (member members y)) (sym (same_of ino x same)) ∙ fresh))

  of_heads : (ds : List Ino) → HeadIs (IsFolder inodes members) ds → above_of members' ds ≡ above_of members ds
  of_heads ds head = above_same members members' (IsFolder inodes members) ds head (λ d is. above_other d (folder_apart d is))

  named_at : (x : Ino) (b : Bool) → same_ino ino x ≡ b → is_member (member members' x) ≡ false → parents entries' x ≡ []
  named_at x true same is =
      let never : true ≡ false = sym (rw same refl) ∙ is in
      cc
  named_at x false apart is = other_parents x apart ∙ tree.named x (sym (is_other x apart) ∙ is)

  high_at : (x : Ino) (b : Bool) → same_ino ino x ≡ b → is_member (member members' x) ≡ true → FIRST_INO.0 ≤ x.0
  high_at x true same is = subst (λ (y : Ino). FIRST_INO.0 ≤ y.0) (same_of ino x same) (omega (arith, number))
  high_at x false apart is = tree.high x (sym (is_other x apart) ∙ is)

  low_at : (x : Ino) (b : Bool) → same_ino ino x ≡ b → is_member (member members' x) ≡ true → x.0 < bound_of inodes'
  low_at x true same is = subst (λ (y : Ino). y.0 < bound_of inodes') (same_of ino x same) (omega (arith, number, longer))
  low_at x false apart is = omega (arith, tree.low x (sym (is_other x apart) ∙ is), longer)

  files_at : (x : Ino) (b : Bool) → same_ino ino x ≡ b → is_member (member members' x) ≡ true → is_in_global members' x ≡ true → kind_in inodes' x ≡ File
  files_at x true same is inside =
      let never : true ≡ false = sym inside ∙ global_new x same in
      cc
  files_at x false apart is inside = kind_push inodes node x apart ∙ tree.files x (sym (is_other x apart) ∙ is) (sym (global_other_one x apart) ∙ inside)

  globals_at : (x : Ino) (b : Bool) → same_ino ino x ≡ b → is_member (member members' x) ≡ true → is_in_global members' x ≡ true → above_by (member members' x) ≡ GLOBAL ∷ []
  globals_at x true same is inside =
      let never : true ≡ false = sym inside ∙ global_new x same in
      cc
  globals_at x false apart is inside = above_other x apart ∙ tree.globals x (sym (is_other x apart) ∙ is) (sym (global_other_one x apart) ∙ inside)

  ways_at : (x : Ino) (b : Bool) → same_ino ino x ≡ b → is_member (member members' x) ≡ true → is_in_global members' x ≡ false → above_by (member members' x) ≡ above_of members' (parents entries' x)
  ways_at x true same is outside =
      above_self x same ∙ sym (of_heads (dir ∷ []) folder) ∙ ap (above_of members') (sym (new_parents x same))
  ways_at x false apart is outside =
      above_other x apart
      ∙ tree.ways x (sym (is_other x apart) ∙ is) (sym (global_other_one x apart) ∙ outside)
      ∙ sym (of_heads (parents entries x) (head_dirs (IsFolder inodes members) entries x tree.dirs))
      ∙ ap (above_of members') (sym (other_parents x apart))

  few_at : (x : Ino) (b : Bool) → same_ino ino x ≡ b → is_in_global members' x ≡ false → length (parents entries' x) ≤ 1
  few_at x true same outside = rw (new_parents x same) (omega arith)
  few_at x false apart outside = rw (other_parents x apart) (tree.few x (sym (global_other_one x apart) ∙ outside))

  placed_at : (x : Ino) (b : Bool) → same_ino ino x ≡ b → is_member (member members' x) ≡ true → kind_in inodes' x ≡ Dir → 1 ≤ length (parents entries' x)
  placed_at x true same is kind = rw (new_parents x same) (omega arith)
  placed_at x false apart is kind = rw (other_parents x apart) (tree.placed x (sym (is_other x apart) ∙ is) (sym (kind_push inodes node x apart) ∙ kind))

  kept_at : (x : Ino) (b : Bool) → same_ino ino x ≡ b → list_any (λ (inode : Inode). same_ino inode.ino x) inodes' ≡ true → kind_in inodes' x ≡ File → is_member (member members' x) ≡ true
  kept_at x true same made kind = rw same refl
  kept_at x false apart made kind =
      is_other x apart ∙ tree.kept x (only (list_any (λ (inode : Inode). same_ino inode.ino x) inodes) (sym (list_any-append (λ (inode : Inode). same_ino inode.ino x) inodes (node ∷ [])) ∙ made)) (sym (kind_push inodes node x apart) ∙ kind)
    where
      only : (b : Bool) → (b || (same_ino node.ino x || false)) ≡ true → b ≡ true
      only true is = refl
      only false is = rw apart at is

  made_at : (x : Ino) (b : Bool) → same_ino ino x ≡ b → is_folder members' x ≡ true → list_any (λ (inode : Inode). same_ino inode.ino x) inodes' ≡ true
  made_at x true same is = list_any-append (λ (inode : Inode). same_ino inode.ino x) inodes (node ∷ []) ∙ last (list_any (λ (inode : Inode). same_ino inode.ino x) inodes)
    where
      last : (b : Bool) → (b || (same_ino node.ino x || false)) ≡ true
      last true = refl
      last false = rw same refl
  made_at x false apart is = list_any-append (λ (inode : Inode). same_ino inode.ino x) inodes (node ∷ []) ∙ rw (tree.made x (sym (ap (λ (b : Bool). same_ino x ROOT || b) (is_other x apart)) ∙ is)) refl

  pub tree_grown : IsTree entries' inodes' members'
  tree_grown = record {
    once = once_add (entry dir name ino) entries tree.once free;
    dirs = dirs_add (IsFolder inodes' members') (entry dir name ino) entries (folder_too dir folder) (dirs_weaker (IsFolder inodes members) (IsFolder inodes' members') entries folder_too tree.dirs);
    some = omega (arith, length-append inodes (node ∷ []));
    named = λ x. named_at x (same_ino ino x) refl;
    high = λ x. high_at x (same_ino ino x) refl;
    low = λ x. low_at x (same_ino ino x) refl;
    files = λ x. files_at x (same_ino ino x) refl;
    globals = λ x. globals_at x (same_ino ino x) refl;
    ways = λ x. ways_at x (same_ino ino x) refl;
    few = λ x. few_at x (same_ino ino x) refl;
    placed = λ x. placed_at x (same_ino ino x) refl;
    kept = λ x. kept_at x (same_ino ino x) refl;
    made = λ x. made_at x (same_ino ino x) refl;
  }

-- a file gets a further name
module _ (entries : List Entry) (inodes : List Inode) (members : List Member) (tree : IsTree entries inodes members) (ino dir : Ino) (name : List ℕ) (there : is_member (member members ino) ≡ true) (file : kind_in inodes ino ≡ File) (folder : IsFolder inodes members dir) (free : lookup entries dir name ≡ None) where
  abbrev linked : List Entry
  linked = add (entry dir name ino) entries

  abbrev news : List Member
  news = map (made_global ino) members

  pub inside_now : (x : Ino) → same_ino ino x ≡ true → is_in_global news x ≡ true
  inside_now x same =
      ap (is_in_global news) (sym (same_of ino x same))
      ∙ ap (λ (w : List Ino). is_on GLOBAL (ino ∷ w)) (global_self ino members there)
      ∙ or_true (same_ino GLOBAL ino)
    where
      or_true : (b : Bool) → (b || true) ≡ true
      or_true true = refl
      or_true false = refl

  pub inside_same : (x : Ino) → same_ino ino x ≡ false → is_in_global news x ≡ is_in_global members x
  inside_same x apart = ap (λ (w : List Ino). is_on GLOBAL (x ∷ w)) (global_other ino members x apart)

  still_folder : (d : Ino) → IsFolder inodes members d → IsFolder inodes news d
  still_folder d is = record { kind = is.kind; there = ap (λ (b : Bool). same_ino d ROOT || b) (global_is ino members d) ∙ is.there }

  same_parents : (x : Ino) → same_ino ino x ≡ false → parents linked x ≡ parents entries x
  same_parents x apart = parents_add_other (entry dir name ino) entries x apart

  linked_named : (x : Ino) (b : Bool) → same_ino ino x ≡ b → is_member (member news x) ≡ false → parents linked x ≡ []
  linked_named x true same is =
      let was : is_member (member members x) ≡ true = ap (λ (y : Ino). is_member (member members y)) (sym (same_of ino x same)) ∙ there in
      let never : true ≡ false = sym was ∙ sym (global_is ino members x) ∙ is in
      cc
  linked_named x false apart is = same_parents x apart ∙ tree.named x (sym (global_is ino members x) ∙ is)

  linked_files : (x : Ino) (b : Bool) → same_ino ino x ≡ b → is_member (member news x) ≡ true → is_in_global news x ≡ true → kind_in inodes x ≡ File
  linked_files x true same is inside = ap (kind_in inodes) (sym (same_of ino x same)) ∙ file
  linked_files x false apart is inside = tree.files x (sym (global_is ino members x) ∙ is) (sym (inside_same x apart) ∙ inside)

  linked_globals : (x : Ino) (b : Bool) → same_ino ino x ≡ b → is_member (member news x) ≡ true → is_in_global news x ≡ true → above_by (member news x) ≡ GLOBAL ∷ []
  linked_globals x true same is inside = ap (λ (y : Ino). above_by (member news y)) (sym (same_of ino x same)) ∙ global_self ino members there
  linked_globals x false apart is inside = global_other ino members x apart ∙ tree.globals x (sym (global_is ino members x) ∙ is) (sym (inside_same x apart) ∙ inside)

  linked_ways : (x : Ino) (b : Bool) → same_ino ino x ≡ b → is_member (member news x) ≡ true → is_in_global news x ≡ false → above_by (member news x) ≡ above_of news (parents linked x)
  linked_ways x true same is outside =
      let never : true ≡ false = sym (inside_now x same) ∙ outside in
      cc
  linked_ways x false apart is outside =
      global_other ino members x apart
      ∙ tree.ways x (sym (global_is ino members x) ∙ is) (sym (inside_same x apart) ∙ outside)
      ∙ sym (above_same members news (IsFolder inodes members) (parents entries x) (head_dirs (IsFolder inodes members) entries x tree.dirs) (λ d is. global_other ino members d (folder_no_file entries inodes members tree d ino is file)))
      ∙ ap (above_of news) (sym (same_parents x apart))

  linked_few : (x : Ino) (b : Bool) → same_ino ino x ≡ b → is_in_global news x ≡ false → length (parents linked x) ≤ 1
  linked_few x true same outside =
      let never : true ≡ false = sym (inside_now x same) ∙ outside in
      cc
  linked_few x false apart outside = rw (same_parents x apart) (tree.few x (sym (inside_same x apart) ∙ outside))

  linked_placed : (x : Ino) (b : Bool) → same_ino ino x ≡ b → is_member (member news x) ≡ true → kind_in inodes x ≡ Dir → 1 ≤ length (parents linked x)
  linked_placed x true same is kind =
      let never : Dir ≡ File = sym kind ∙ ap (kind_in inodes) (sym (same_of ino x same)) ∙ file in
      cc
  linked_placed x false apart is kind = rw (same_parents x apart) (tree.placed x (sym (global_is ino members x) ∙ is) kind)

  pub tree_linked : IsTree linked inodes news
  tree_linked = record {
    once = once_add (entry dir name ino) entries tree.once free;
    dirs = dirs_add (IsFolder inodes news) (entry dir name ino) entries (still_folder dir folder) (dirs_weaker (IsFolder inodes members) (IsFolder inodes news) entries still_folder tree.dirs);
    some = tree.some;
    named = λ x. linked_named x (same_ino ino x) refl;
    high = λ x is. tree.high x (sym (global_is ino members x) ∙ is);
    low = λ x is. tree.low x (sym (global_is ino members x) ∙ is);
    files = λ x. linked_files x (same_ino ino x) refl;
    globals = λ x. linked_globals x (same_ino ino x) refl;
    ways = λ x. linked_ways x (same_ino ino x) refl;
    few = λ x. linked_few x (same_ino ino x) refl;
    placed = λ x. linked_placed x (same_ino ino x) refl;
    kept = λ x made kind. global_is ino members x ∙ tree.kept x made kind;
    made = λ x is. tree.made x (sym (ap (λ (b : Bool). same_ino x ROOT || b) (global_is ino members x)) ∙ is);
  }

  pub inside_linked : is_in_global news ino ≡ true
  inside_linked = inside_now ino (itself ino)

-- What ties the ways up of a story to the names of a plain tree.
use Rattle.std.proofs.Common.{◌≡◌, ℕ, ◌+◌, ◌-◌, ◌<◌, ◌≤◌, List, [], ◌∷◌, ◌++◌, length, Bool, true, false, cond, not, ◌||◌, Option, None, Some, ◌⊎◌, inl, inr, refl, sym, ap, ◌∙◌, subst, arith, eqb}
use Rattle.std.proofs.lemmas.Bool.Decides.{nat_tests}
use Rattle.std.specs.List.{list_any}
use Rattle.snap_ids.specs.declared.id.Ino.{Ino}
use Rattle.snap_ids.specs.declared.id.TheConstants.{ROOT, STRAY, GLOBAL, FIRST_INO}
use Rattle.snap_ids.specs.declared.values.Kind.{Kind}
use Rattle.snap_ids.specs.declared.values.Kind.TheVariants.{Dir, File}
use Rattle.plain_tree.specs.State.{Entry, Inode, kind_in, add, precedes, is_at}
use Rattle.plain_tree.specs.Change.{without}
use Rattle.realm_story.specs.Family.{Member, same_ino, member, is_member, above_by, way_up, is_on, is_in_global}
use Rattle.realm_story.proofs.Facts.{same_of}
use Rattle.journal_realms.specs.Above.{parents}
use Rattle.journal_realms.proofs.Parents.{IsOnce, parents_more}

-- a directory that is there, by the story
abbrev pub is_folder : List Member → Ino → Bool
is_folder members dir = same_ino dir ROOT || is_member (member members dir)

pub record IsFolder (inodes : List Inode) (members : List Member) (dir : Ino) : Type 0 where
  pub kind : kind_in inodes dir ≡ Dir
  pub there : is_folder members dir ≡ true

abbrev pub AllDirs : (Ino → Type 0) → List Entry → Type 0
AllDirs P [] = Unit {0}
AllDirs P (e ∷ entries) = P e.dir × AllDirs P entries

-- the way above an inode, by the directories that have a name for it
abbrev pub above_of : List Member → List Ino → List Ino
above_of members [] = STRAY ∷ []
above_of members (dir ∷ more) = way_up members dir

abbrev pub bound_of : List Inode → ℕ
bound_of inodes = FIRST_INO.0 + (length inodes - 1)

pub record IsTree (entries : List Entry) (inodes : List Inode) (members : List Member) : Type 0 where
  pub once : IsOnce entries
  pub dirs : AllDirs (IsFolder inodes members) entries
  pub some : 0 < length inodes
  pub named : (x : Ino) → is_member (member members x) ≡ false → parents entries x ≡ []
  pub high : (x : Ino) → is_member (member members x) ≡ true → FIRST_INO.0 ≤ x.0
  pub low : (x : Ino) → is_member (member members x) ≡ true → x.0 < bound_of inodes
  pub files : (x : Ino) → is_member (member members x) ≡ true → is_in_global members x ≡ true → kind_in inodes x ≡ File
  pub globals : (x : Ino) → is_member (member members x) ≡ true → is_in_global members x ≡ true → above_by (member members x) ≡ GLOBAL ∷ []
  pub ways : (x : Ino) → is_member (member members x) ≡ true → is_in_global members x ≡ false → above_by (member members x) ≡ above_of members (parents entries x)
  pub few : (x : Ino) → is_in_global members x ≡ false → length (parents entries x) ≤ 1
  pub placed : (x : Ino) → is_member (member members x) ≡ true → kind_in inodes x ≡ Dir → 1 ≤ length (parents entries x)
  pub kept : (x : Ino) → list_any (λ (inode : Inode). same_ino inode.ino x) inodes ≡ true → kind_in inodes x ≡ File → is_member (member members x) ≡ true
  pub made : (x : Ino) → is_folder members x ≡ true → list_any (λ (inode : Inode). same_ino inode.ino x) inodes ≡ true

-- the first of some directories
abbrev pub HeadIs : (Ino → Type 0) → List Ino → Type 0
HeadIs P [] = Unit {0}
HeadIs P (dir ∷ more) = P dir

pub head_dirs : (P : Ino → Type 0) (entries : List Entry) (x : Ino) → AllDirs P entries → HeadIs P (parents entries x)
head_dirs P [] x all = tt
head_dirs P (e ∷ entries) x all = subst (HeadIs P) (sym (parents_more e entries x)) (go (same_ino e.ino x) (head_dirs P entries x all.1))
  where
    go : (b : Bool) → HeadIs P (parents entries x) → HeadIs P (cond b (e.dir ∷ parents entries x) (parents entries x))
    go true rest = all.0
    go false rest = rest

pub dirs_weaker : (P Q : Ino → Type 0) (entries : List Entry) → ((d : Ino) → P d → Q d) → AllDirs P entries → AllDirs Q entries
dirs_weaker P Q [] weaker all = tt
dirs_weaker P Q (e ∷ entries) weaker all = (weaker e.dir all.0, dirs_weaker P Q entries weaker all.1)

pub dirs_both : (P Q R : Ino → Type 0) (entries : List Entry) → ((d : Ino) → P d → Q d → R d) → AllDirs P entries → AllDirs Q entries → AllDirs R entries
dirs_both P Q R [] both ps qs = tt
dirs_both P Q R (e ∷ entries) both ps qs = (both e.dir ps.0 qs.0, dirs_both P Q R entries both ps.1 qs.1)

pub dirs_add : (P : Ino → Type 0) (new : Entry) (entries : List Entry) → P new.dir → AllDirs P entries → AllDirs P (add new entries)
dirs_add P new [] is all = (is, tt)
dirs_add P new (e ∷ entries) is all = go (precedes new e) (dirs_add P new entries is all.1)
  where
    go : (b : Bool) → AllDirs P (add new entries) → AllDirs P (cond b (new ∷ e ∷ entries) (e ∷ add new entries))
    go true rest = (is, all)
    go false rest = (all.0, rest)

pub dirs_without : (P : Ino → Type 0) (dir : Ino) (name : List ℕ) (entries : List Entry) → AllDirs P entries → AllDirs P (without dir name entries)
dirs_without P dir name [] all = tt
dirs_without P dir name (e ∷ entries) all = go (is_at dir name e) (dirs_without P dir name entries all.1)
  where
    go : (b : Bool) → AllDirs P (without dir name entries) → AllDirs P (cond (not b) (e ∷ without dir name entries) (without dir name entries))
    go true rest = rest
    go false rest = (all.0, rest)

-- another number than one above it
pub less_apart : (x y : Ino) → x.0 < y.0 → same_ino x y ≡ false
less_apart x y less = apart x.0 y.0 less
  where
    apart : (m n : ℕ) → m < n → eqb m n ≡ false
    apart m n h = grind (arith, nat_tests)

-- the kinds once there is one inode more
pub kind_push : (inodes : List Inode) (new : Inode) (x : Ino) → same_ino new.ino x ≡ false → kind_in (inodes ++ new ∷ []) x ≡ kind_in inodes x
kind_push [] new x apart = rw apart refl
kind_push (inode ∷ inodes) new x apart = ap (λ (k : Kind). cond (same_ino inode.ino x) inode.kind k) (kind_push inodes new x apart)

module _ (entries : List Entry) (inodes : List Inode) (members : List Member) (tree : IsTree entries inodes members) where
  -- what is no member by its number
  pub not_low : (x : Ino) → x.0 < FIRST_INO.0 → is_member (member members x) ≡ false
  not_low x below = go (is_member (member members x)) refl
    where
      go : (b : Bool) → is_member (member members x) ≡ b → b ≡ false
      go true is = absurd (omega (arith, tree.high x is, below))
      go false is = refl

  pub not_high : (x : Ino) → bound_of inodes ≤ x.0 → is_member (member members x) ≡ false
  not_high x above = go (is_member (member members x)) refl
    where
      go : (b : Bool) → is_member (member members x) ≡ b → b ≡ false
      go true is = absurd (omega (arith, tree.low x is, above))
      go false is = refl

  none_above : (m : Option Member) → is_member m ≡ false → above_by m ≡ []
  none_above None is = refl
  none_above (Some m) is = cc

  pub above_none : (x : Ino) → is_member (member members x) ≡ false → above_by (member members x) ≡ []
  above_none x is = none_above (member members x) is

  pub root_outside : is_in_global members ROOT ≡ false
  root_outside = ap (λ (w : List Ino). is_on GLOBAL (ROOT ∷ w)) (above_none ROOT (not_low ROOT (omega arith)))

  -- by the two kinds of folders
  pub of_folder : (d : Ino) → IsFolder inodes members d → (d ≡ ROOT) ⊎ (is_member (member members d) ≡ true)
  of_folder d folder = go (same_ino d ROOT) refl folder.there
    where
      go : (b : Bool) → same_ino d ROOT ≡ b → (b || is_member (member members d)) ≡ true → (d ≡ ROOT) ⊎ (is_member (member members d) ≡ true)
      go true same there = inl (same_of d ROOT same)
      go false same there = inr there

  pub folder_outside : (d : Ino) → IsFolder inodes members d → is_in_global members d ≡ false
  folder_outside d folder = go (of_folder d folder)
    where
      go : (d ≡ ROOT) ⊎ (is_member (member members d) ≡ true) → is_in_global members d ≡ false
      go (inl root) = ap (is_in_global members) root ∙ root_outside
      go (inr there) = by_test (is_in_global members d) refl
        where
          by_test : (b : Bool) → is_in_global members d ≡ b → b ≡ false
          by_test true inside =
              let never : File ≡ Dir = sym (tree.files d there inside) ∙ folder.kind in
              cc
          by_test false outside = refl

  pub folder_below : (d : Ino) → IsFolder inodes members d → d.0 < bound_of inodes
  folder_below d folder = go (of_folder d folder)
    where
      go : (d ≡ ROOT) ⊎ (is_member (member members d) ≡ true) → d.0 < bound_of inodes
      go (inl root) = subst (λ (y : Ino). y.0 < bound_of inodes) (sym root) (omega arith)
      go (inr there) = tree.low d there

  -- a folder is no file
  pub folder_no_file : (d x : Ino) → IsFolder inodes members d → kind_in inodes x ≡ File → same_ino x d ≡ false
  folder_no_file d x folder file = go (same_ino x d) refl
    where
      go : (b : Bool) → same_ino x d ≡ b → b ≡ false
      go true same =
          let never : Dir ≡ File = sym folder.kind ∙ sym (ap (kind_in inodes) (same_of x d same)) ∙ file in
          cc
      go false same = refl

-- the way above is the same where it is above the first directory
pub above_same : (members new : List Member) (P : Ino → Type 0) (ds : List Ino) → HeadIs P ds → ((d : Ino) → P d → above_by (member new d) ≡ above_by (member members d)) → above_of new ds ≡ above_of members ds
above_same members new P [] head same = refl
above_same members new P (d ∷ ds) head same = ap (λ (w : List Ino). d ∷ w) (same d head)

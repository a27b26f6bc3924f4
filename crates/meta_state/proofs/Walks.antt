-- Where walks end, and that what is there was made and has its place among the realms.
use Rattle.std.proofs.Common.{◌≡◌, ℕ, ◌≤◌, List, [], ◌∷◌, ◌++◌, Bool, true, false, cond, ◌||◌, Option, None, Some, Result, Ok, Err, ◌⊎◌, inl, inr, refl, sym, ap, subst, ◌∙◌, arith, eqb}
use Rattle.std.proofs.lemmas.Bool.Decides.{nat_tests}
use Rattle.std.specs.Prelude.{if◌then◌else◌}
use Rattle.std.specs.List.{list_any}
use Rattle.snap_ids.specs.declared.id.Ino.{Ino}
use Rattle.snap_ids.specs.declared.id.SnapId.{SnapId}
use Rattle.snap_ids.specs.declared.id.TheConstants.{ROOT, GLOBAL, FIRST_INO}
use Rattle.snap_ids.specs.declared.values.Kind.{Kind}
use Rattle.snap_ids.specs.declared.values.Kind.TheVariants.{Dir, File}
use Rattle.plain_types.specs.declared.answer.Refusal.{Refusal}
use Rattle.plain_types.specs.declared.answer.Refusal.TheVariants.{NoEntry, NotDir}
use Rattle.plain_types.specs.declared.entry.Entry.{Entry}
use Rattle.plain_tree.specs.State.{Entry as Dentry}
use Rattle.plain_tree.specs.State.{is_there, is_at, kind_in, lookup, same_ino}
use Rattle.plain_tree.specs.Change.{is_directory}
use Rattle.plain_tree.specs.Walk.{walk}
use Rattle.plain_journal.specs.Coverage.{is_made}
use Rattle.plain_journal.specs.Entries.{before_snap, makes_snap, state_after, tree_at}
use Rattle.plain_journal.specs.Legal.{is_journal, is_legal, legal_after}
use Rattle.realm_story.specs.Family.{is_in_global, is_member, is_root, member}
use Rattle.realm_story.specs.Family.{is_there as is_there_told}
use Rattle.realm_story.proofs.Facts.{both_of, itself}
use Rattle.journal_realms.specs.Above.{is_held}
use Rattle.journal_realms.specs.Told.{family_of}
use Rattle.journal_realms.proofs.Held.{held_member}
use Rattle.journal_realms.proofs.Kept.{directory_is, folder_of}
use Rattle.journal_realms.proofs.Tree.{folder_outside}
use Rattle.journal_realms.proofs.Trees.{tied_after}
use Rattle.journal_shapes.proofs.Numbers.{made_after, there_made}
use Rattle.snap_realm.specs.Tree as realms
use Rattle.snap_realm.proofs.Values.{global_is}

-- one step of a walk
abbrev next_step : Option Ino → (Ino → Result Ino Refusal) → Result Ino Refusal
next_step found go_on = elim found [ None ↦ Err NoEntry | Some next ↦ go_on next ]

abbrev in_kind : Kind → Result Ino Refusal → Result Ino Refusal
in_kind kind rest = elim kind [ File ↦ Err NotDir | Dir ↦ rest ]

or_right : (a b : Bool) → b ≡ true → (a || b) ≡ true
or_right true b is = refl
or_right false b is = is

-- what a name has is there
found_named : (entries : List Dentry) (dir : Ino) (name : List ℕ) (ino : Ino) → lookup entries dir name ≡ Some ino → list_any (λ (e : Dentry). same_ino e.ino ino) entries ≡ true
found_named [] dir name ino found = cc
found_named (e ∷ entries) dir name ino found = go (is_at dir name e) found (found_named entries dir name ino)
  where
    go : (b : Bool) → (if b then Some e.ino else lookup entries dir name) ≡ Some ino → (lookup entries dir name ≡ Some ino → list_any (λ (f : Dentry). same_ino f.ino ino) entries ≡ true) → (same_ino e.ino ino || list_any (λ (f : Dentry). same_ino f.ino ino) entries) ≡ true
    go true is rest =
        let same : e.ino ≡ ino = cc in
        ap (λ (b : Bool). b || list_any (λ (f : Dentry). same_ino f.ino ino) entries) (ap (λ (x : Ino). same_ino x ino) same ∙ itself ino)
    go false is rest = or_right (same_ino e.ino ino) (list_any (λ (f : Dentry). same_ino f.ino ino) entries) (rest is)

found_there : (entries : List Dentry) (dir : Ino) (name : List ℕ) (ino : Ino) → lookup entries dir name ≡ Some ino → is_there entries ino ≡ true
found_there entries dir name ino found = or_right (same_ino ino ROOT) (list_any (λ (e : Dentry). same_ino e.ino ino) entries) (found_named entries dir name ino found)

-- a walk from what is there ends at what is there
pub walk_there : (kind : Ino → Kind) (entries : List Dentry) (start ino : Ino) (names : List (List ℕ)) → is_there entries start ≡ true → walk kind entries start names ≡ Ok ino → is_there entries ino ≡ true
walk_there kind entries start ino [] there ends = let same : start ≡ ino = cc in subst (λ (x : Ino). is_there entries x ≡ true) same there
walk_there kind entries start ino (name ∷ names) there ends =
    step (kind start) (lookup entries start name) refl (λ next. walk kind entries next names) (λ next named rest. walk_there kind entries next ino names named rest) ends
  where
    step : (k : Kind) (found : Option Ino) → lookup entries start name ≡ found → (go_on : Ino → Result Ino Refusal) → ((next : Ino) → is_there entries next ≡ true → go_on next ≡ Ok ino → is_there entries ino ≡ true) → in_kind k (next_step found go_on) ≡ Ok ino → is_there entries ino ≡ true
    step File found is go_on rest ends = cc
    step Dir None is go_on rest ends = cc
    step Dir (Some next) is go_on rest ends = rest next (found_there entries start name next is) ends

-- a snapshot's tree is that after a front of the journal, which is one too
from_snap : (s : SnapId) (entries : List Entry) → (rest : List Entry) × (entries ≡ before_snap s entries ++ rest)
from_snap s [] = ([], refl)
from_snap s (e ∷ entries) = go (makes_snap s e.what) (from_snap s entries)
  where
    go : (b : Bool) → (rest : List Entry) × (entries ≡ before_snap s entries ++ rest) → (rest : List Entry) × (e ∷ entries ≡ (if b then [] else e ∷ before_snap s entries) ++ rest)
    go true is = (e ∷ entries, refl)
    go false is = (is.0, ap (λ (l : List Entry). e ∷ l) is.1)

front_legal : (done entries more : List Entry) → legal_after done (entries ++ more) ≡ true → legal_after done entries ≡ true
front_legal done [] more legal = refl
front_legal done (e ∷ entries) more legal =
    let l = both_of (is_legal done e) (legal_after (done ++ e ∷ []) (entries ++ more)) legal in
    rw (l.0, front_legal (done ++ e ∷ []) entries more l.1) refl

module _ (entries : List Entry) (legal : is_journal entries ≡ true) where
  -- what is there was made, now and in a snapshot
  pub live_made : (x : Ino) → is_there (state_after entries).entries x ≡ true → is_made (state_after entries) x ≡ true
  live_made x there = there_made (state_after entries) (made_after entries legal) x there

  pub made_at : (s : SnapId) (x : Ino) → is_there (tree_at entries s).entries x ≡ true → is_made (tree_at entries s) x ≡ true
  made_at s x there =
      let split = from_snap s entries in
      there_made (tree_at entries s) (made_after (before_snap s entries) (front_legal [] (before_snap s entries) split.0 (subst (λ (l : List Entry). is_journal l ≡ true) split.1 legal))) x there

  pub held_live : (x : Ino) → is_there (state_after entries).entries x ≡ true → is_held (state_after entries) x ≡ true
  held_live x there = go (kind_in (state_after entries).inodes x) (is_made (state_after entries) x) (is_there (state_after entries).entries x) (live_made x there) there
    where
      go : (k : Kind) (made named : Bool) → made ≡ true → named ≡ true → cond (elim k as (λ _. Bool) [ Dir ↦ false | File ↦ made ]) true (elim k as (λ _. Bool) [ Dir ↦ named | File ↦ false ]) ≡ true
      go Dir made named was is = is
      go File true named was is = refl
      go File false named was is = cc

  -- the root is a directory
  pub root_dir : kind_in (state_after entries).inodes ROOT ≡ Dir
  root_dir = go (kind_in (state_after entries).inodes ROOT) refl
    where
      go : (k : Kind) → kind_in (state_after entries).inodes ROOT ≡ k → k ≡ Dir
      go Dir is = refl
      go File is =
          let tied = tied_after entries legal in
          absurd (omega (arith, tied.high ROOT (tied.kept ROOT (made_after entries legal).root is)))

  live_member : (x : Ino) → is_there (state_after entries).entries x ≡ true → (x ≡ ROOT) ⊎ (is_member (member (family_of entries).members x) ≡ true)
  live_member x there = held_member entries legal x (held_live x there)

  -- what is there is no root of the global realm
  pub live_apart : (x : Ino) → is_there (state_after entries).entries x ≡ true → same_ino GLOBAL x ≡ false
  live_apart x there = go (live_member x there)
    where
      above : (n k : ℕ) → FIRST_INO.0 ≤ n → k ≤ 3 → eqb k n ≡ false
      above n k high low = grind (arith, nat_tests)

      go : (x ≡ ROOT) ⊎ (is_member (member (family_of entries).members x) ≡ true) → same_ino GLOBAL x ≡ false
      go (inl root) = ap (same_ino GLOBAL) root
      go (inr is) = above x.0 GLOBAL.0 ((tied_after entries legal).high x is) (omega arith)

  -- and is there in the story
  told_there : (x : Ino) → is_there (state_after entries).entries x ≡ true → is_there_told (family_of entries).members x ≡ true
  told_there x there = go (live_member x there)
    where
      go : (x ≡ ROOT) ⊎ (is_member (member (family_of entries).members x) ≡ true) → is_there_told (family_of entries).members x ≡ true
      go (inl root) = subst (λ (y : Ino). is_there_told (family_of entries).members y ≡ true) (sym root) refl
      go (inr is) = or_right (is_root x) (is_member (member (family_of entries).members x)) is

  -- a directory is there, and isn't in the global realm
  pub directory_there : (dir : Ino) → is_directory (state_after entries) dir ≡ true → is_there (state_after entries).entries dir ≡ true
  directory_there dir is = (directory_is (kind_in (state_after entries).inodes dir) (is_there (state_after entries).entries dir) is).1

  pub directory_kind : (dir : Ino) → is_directory (state_after entries) dir ≡ true → kind_in (state_after entries).inodes dir ≡ Dir
  directory_kind dir is = (directory_is (kind_in (state_after entries).inodes dir) (is_there (state_after entries).entries dir) is).0

  pub told_outside : (dir : Ino) → is_directory (state_after entries) dir ≡ true → is_in_global (family_of entries).members dir ≡ false
  told_outside dir is =
      folder_outside (state_after entries).entries (state_after entries).inodes (family_of entries).members (tied_after entries legal) dir
      (folder_of (state_after entries) 0 (family_of entries) (tied_after entries legal) dir is)

  -- the same of a tree of realms that stands for the story
  module _ (tree : realms.Tree) (stands : realms.StandsFor tree (family_of entries)) where
    pub realms_there : (x : Ino) → is_there (state_after entries).entries x ≡ true → realms.is_there tree x ≡ true
    realms_there x there = stands.there x ∙ told_there x there

    pub realms_outside : (dir : Ino) → is_directory (state_after entries) dir ≡ true → realms.is_in_global tree dir ≡ false
    realms_outside dir is =
        global_is tree (family_of entries) stands dir (realms_there dir (directory_there dir is)) ∙ told_outside dir is

-- Who has which snapshots, in the plain tree and in the story.
use Rattle.std.proofs.Common.{◌≡◌, ℕ, ◌+◌, List, [], ◌∷◌, ◌++◌, length, Bool, true, false, cond, ◌||◌, ◌&&◌, Option, None, Some, refl, sym, ap, ◌∙◌, arith, subst, length-append, filter}
use Rattle.std.specs.Prelude.{find, option_map, bytes_eq, if◌then◌else◌}
use Rattle.std.specs.List.{list_any}
use Rattle.std.specs.Cmp.Lexicographic.{bytes_decides}
use Rattle.std.proofs.lemmas.List.Folds.{list_any-append}
use Rattle.snap_ids.specs.declared.id.Ino.{Ino}
use Rattle.snap_ids.specs.declared.id.SnapId.{SnapId}
use Rattle.plain_types.specs.declared.entry.Entry.{Entry}
use Rattle.plain_tree.specs.State.{Snapshot}
use Rattle.plain_tree.specs.State.{is_named as is_named_in}
use Rattle.plain_tree.specs.Change.{own_snap, is_own, is_live}
use Rattle.plain_journal.specs.Entries.{state_after}
use Rattle.plain_journal.specs.Legal.{is_journal}
use Rattle.realm_story.specs.Family.{Made, same_ino, is_named}
use Rattle.realm_story.specs.Stands.{Each}
use Rattle.realm_story.proofs.Facts.{both_of, same_of}
use Rattle.journal_realms.specs.Told.{family_of}
use Rattle.journal_realms.proofs.Snaps.{plain_of, rev_plain, has_name, IsOwn, Basic, basic_after}
use Rattle.journal_realms.proofs.Calls.{rev_length}

abbrev id_of_plain : Snapshot → SnapId
id_of_plain snap = snap.id

abbrev id_of_made : Made → SnapId
id_of_made snap = snap.id

-- the last one is found where none before it is
find_last : (p : Snapshot → Bool) (xs : List Snapshot) (y : Snapshot) → find p xs ≡ None → p y ≡ true → find p (xs ++ y ∷ []) ≡ Some y
find_last p [] y none is = rw is refl
find_last p (x ∷ xs) y none is = go (p x) none (λ rest. find_last p xs y rest is)
  where
    go : (b : Bool) → (if b then Some x else find p xs) ≡ None → (find p xs ≡ None → find p (xs ++ y ∷ []) ≡ Some y) → (if b then Some x else find p (xs ++ y ∷ [])) ≡ Some y
    go true none rest = cc
    go false none rest = rest none

-- and not where it doesn't pass
find_front : (p : Snapshot → Bool) (xs : List Snapshot) (y : Snapshot) → p y ≡ false → find p (xs ++ y ∷ []) ≡ find p xs
find_front p [] y off = rw off refl
find_front p (x ∷ xs) y off = ap (λ (found : Option Snapshot). if p x then Some x else found) (find_front p xs y off)

named_live_by : (a b : Bool) → (a && b) ≡ true → a ≡ true
named_live_by true b is = refl
named_live_by false b is = cc

-- a snapshot that has a directory's name has it for each that has another one's
others_off : (s : Made) (dir : Ino) (name : List ℕ) → is_named dir name s ≡ true → (snaps : List Made) → Each (λ other. other.live ≡ true → has_name s.root s.name other ≡ false) snaps → Each (λ other. other.live ≡ true → has_name dir name other ≡ false) snaps
others_off s dir name is snaps off =
    let l = both_of s.live (has_name dir name s) is in
    let m = both_of (same_ino s.root dir) (bytes_eq s.name name) l.1 in
    subst (λ (d : Ino). Each (λ other. other.live ≡ true → has_name d name other ≡ false) snaps) (same_of s.root dir m.0)
    (subst (λ (n : List ℕ). Each (λ other. other.live ≡ true → has_name s.root n other ≡ false) snaps) ((bytes_decides s.name name).0 m.1) off)

module _ (dir : Ino) (name : List ℕ) where
  same_test : (s : Made) → is_named_in dir name (plain_of s) ≡ is_named dir name s
  same_test s = go s.live (same_ino s.root dir) (bytes_eq s.name name)
    where
      go : (a b c : Bool) → ((a && b) && c) ≡ (a && (b && c))
      go true b c = refl
      go false b c = refl

  -- none is found where none has the name
  none_found : (snaps : List Made) → Each (λ other. other.live ≡ true → has_name dir name other ≡ false) snaps → find (is_named_in dir name) (rev_plain snaps) ≡ None
  none_found [] off = refl
  none_found (s ∷ snaps) off = find_front (is_named_in dir name) (rev_plain snaps) (plain_of s) (same_test s ∙ go s.live (has_name dir name s) off.0) ∙ none_found snaps off.1
    where
      go : (a b : Bool) → (a ≡ true → b ≡ false) → (a && b) ≡ false
      go true b is = is refl
      go false b is = refl

  -- the others don't have a live one's name
  off_name : (s : Made) (snaps : List Made) → is_named dir name s ≡ true → IsOwn (s ∷ snaps) → Each (λ other. other.live ≡ true → has_name dir name other ≡ false) snaps
  off_name s snaps is own = others_off s dir name is snaps (own.0 (named_live_by s.live (has_name dir name s) is))

  found_same : (snaps : List Made) → IsOwn snaps → option_map id_of_plain (find (is_named_in dir name) (rev_plain snaps)) ≡ option_map id_of_made (find (is_named dir name) snaps)
  found_same [] own = refl
  found_same (s ∷ snaps) own = go (is_named dir name s) refl (found_same snaps own.1)
    where
      go : (b : Bool) → is_named dir name s ≡ b → option_map id_of_plain (find (is_named_in dir name) (rev_plain snaps)) ≡ option_map id_of_made (find (is_named dir name) snaps) → option_map id_of_plain (find (is_named_in dir name) (rev_plain snaps ++ plain_of s ∷ [])) ≡ option_map id_of_made (if b then Some s else find (is_named dir name) snaps)
      go true is rest = ap (option_map id_of_plain) (find_last (is_named_in dir name) (rev_plain snaps) (plain_of s) (none_found snaps (off_name s snaps is own)) (same_test s ∙ is))
      go false is rest = ap (option_map id_of_plain) (find_front (is_named_in dir name) (rev_plain snaps) (plain_of s) (same_test s ∙ is)) ∙ rest

any_rev : (r : Snapshot → Bool) (p : Made → Bool) → ((s : Made) → r (plain_of s) ≡ p s) → (snaps : List Made) → list_any r (rev_plain snaps) ≡ list_any p snaps
any_rev r p same [] = refl
any_rev r p same (s ∷ snaps) = list_any-append r (rev_plain snaps) (plain_of s ∷ []) ∙ turn (list_any r (rev_plain snaps)) (r (plain_of s)) (p s) (list_any p snaps) (any_rev r p same snaps) (same s)
  where
    other_way : (d c : Bool) → (d || (c || false)) ≡ (c || d)
    other_way true true = refl
    other_way true false = refl
    other_way false true = refl
    other_way false false = refl

    turn : (a b c d : Bool) → a ≡ d → b ≡ c → (a || (b || false)) ≡ (c || d)
    turn a b c d ad bc = ap (λ (x : Bool). x || (b || false)) ad ∙ ap (λ (y : Bool). d || (y || false)) bc ∙ other_way d c

module _ (entries : List Entry) (legal : is_journal entries ≡ true) where
  basic : Basic (state_after entries) (family_of entries)
  basic = basic_after entries legal

  pub same_own : (dir : Ino) (name : List ℕ) → option_map (λ (snap : Snapshot). snap.id) (own_snap (state_after entries).snaps dir name) ≡ option_map (λ (snap : Made). snap.id) (find (is_named dir name) (family_of entries).snaps)
  same_own dir name = ap (λ (snaps : List Snapshot). option_map id_of_plain (own_snap snaps dir name)) basic.same ∙ found_same dir name (family_of entries).snaps basic.own

  pub same_count : (dir : Ino) → length (filter (is_own dir) (state_after entries).snaps) ≡ length (filter (λ (snap : Made). snap.live && same_ino snap.root dir) (family_of entries).snaps)
  same_count dir = ap (λ (snaps : List Snapshot). length (filter (is_own dir) snaps)) basic.same ∙ rev_length (is_own dir) (λ (s : Made). s.live && same_ino s.root dir) (λ s. refl) (family_of entries).snaps

  pub same_total : length (filter is_live (state_after entries).snaps) ≡ length (filter (λ (snap : Made). snap.live) (family_of entries).snaps)
  same_total = ap (λ (snaps : List Snapshot). length (filter is_live snaps)) basic.same ∙ rev_length is_live (λ (s : Made). s.live) (λ s. refl) (family_of entries).snaps

  pub same_rooted : (dir : Ino) → list_any (is_own dir) (state_after entries).snaps ≡ list_any (λ (snap : Made). snap.live && same_ino snap.root dir) (family_of entries).snaps
  same_rooted dir = ap (list_any (is_own dir)) basic.same ∙ any_rev (is_own dir) (λ (s : Made). s.live && same_ino s.root dir) (λ s. refl) (family_of entries).snaps

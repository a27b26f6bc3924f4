-- What has a name is a member of the story, below the name's directory or in the global realm.
use Rattle.std.proofs.Common.{◌≡◌, ℕ, ◌<◌, ◌≤◌, List, [], ◌∷◌, length, Bool, true, false, cond, ◌||◌, ap, sym, ◌∙◌, refl, subst, arith}
use Rattle.std.specs.List.{AllByRecursion}
use Rattle.snap_ids.specs.declared.id.Ino.{Ino}
use Rattle.plain_types.specs.declared.entry.Entry.{Entry as Written}
use Rattle.plain_tree.specs.State.{Entry, Inode}
use Rattle.plain_journal.specs.Entries.{state_after}
use Rattle.plain_journal.specs.Legal.{is_journal}
use Rattle.realm_story.specs.Family.{Family, Member, same_ino, member, is_member, is_there, is_root, is_in_global, above_by, way_up}
use Rattle.realm_story.proofs.Facts.{itself}
use Rattle.journal_realms.specs.Above.{parents, IsPlaced}
use Rattle.journal_realms.specs.Told.{family_of}
use Rattle.journal_realms.proofs.Parents.{parents_more}
use Rattle.journal_realms.proofs.Tree.{IsTree, above_of}
use Rattle.journal_realms.proofs.Trees.{tied_after}

-- some entries are among all: an inode has no more directories by them, and where one is all that it has, it is that one
record IsPart (entries more : List Entry) : Type 0 where
  fewer : (x : Ino) → length (parents more x) ≤ length (parents entries x)
  one : (x dir : Ino) → parents more x ≡ dir ∷ [] → length (parents entries x) ≤ 1 → parents entries x ≡ dir ∷ []

-- what an entry says of the directories of its inode
record IsNamed (entries : List Entry) (e : Entry) : Type 0 where
  some : 0 < length (parents entries e.ino)
  one : length (parents entries e.ino) ≤ 1 → parents entries e.ino ≡ e.dir ∷ []

none_of : (dirs : List Ino) → length dirs ≤ 0 → dirs ≡ []
none_of [] none = refl
none_of (dir ∷ dirs) none = absurd (omega (arith, none))

module _ (entries : List Entry) (e : Entry) (more : List Entry) (part : IsPart entries (e ∷ more)) where
  more_same : (x : Ino) → same_ino e.ino x ≡ true → parents (e ∷ more) x ≡ e.dir ∷ parents more x
  more_same x same = parents_more e more x ∙ ap (λ (b : Bool). cond b (e.dir ∷ parents more x) (parents more x)) same

  more_apart : (x : Ino) → same_ino e.ino x ≡ false → parents (e ∷ more) x ≡ parents more x
  more_apart x apart = parents_more e more x ∙ ap (λ (b : Bool). cond b (e.dir ∷ parents more x) (parents more x)) apart

  fewer_left : (x : Ino) (b : Bool) → same_ino e.ino x ≡ b → length (parents more x) ≤ length (parents entries x)
  fewer_left x true same = omega (arith, part.fewer x, ap (λ (dirs : List Ino). length dirs) (more_same x same))
  fewer_left x false apart = omega (arith, part.fewer x, ap (λ (dirs : List Ino). length dirs) (more_apart x apart))

  one_left : (x dir : Ino) (b : Bool) → same_ino e.ino x ≡ b → parents more x ≡ dir ∷ [] → length (parents entries x) ≤ 1 → parents entries x ≡ dir ∷ []
  one_left x dir true same is few =
      let two : length (parents (e ∷ more) x) ≡ 2 = ap (λ (dirs : List Ino). length dirs) (more_same x same ∙ ap (λ (dirs : List Ino). e.dir ∷ dirs) is) in
      absurd (omega (arith, part.fewer x, few, two))
  one_left x dir false apart is few = part.one x dir (more_apart x apart ∙ is) few

  part_left : IsPart entries more
  part_left = record { fewer = λ x. fewer_left x (same_ino e.ino x) refl; one = λ x dir. one_left x dir (same_ino e.ino x) refl }

  first_is : parents (e ∷ more) e.ino ≡ e.dir ∷ parents more e.ino
  first_is = more_same e.ino (itself e.ino)

  alone : length (parents entries e.ino) ≤ 1 → parents entries e.ino ≡ e.dir ∷ []
  alone few =
      let longer = ap (λ (dirs : List Ino). length dirs) first_is in
      part.one e.ino e.dir (first_is ∙ ap (λ (dirs : List Ino). e.dir ∷ dirs) (none_of (parents more e.ino) (omega (arith, part.fewer e.ino, few, longer)))) few

  named : IsNamed entries e
  named = record { some = omega (arith, part.fewer e.ino, ap (λ (dirs : List Ino). length dirs) first_is); one = alone }

all_named : (entries more : List Entry) → IsPart entries more → AllByRecursion (IsNamed entries) more
all_named entries [] part = tt
all_named entries (e ∷ more) part = (named entries e more part, all_named entries more (part_left entries e more part))

module _ (entries : List Entry) (inodes : List Inode) (family : Family) (tree : IsTree entries inodes family.members) (e : Entry) (named : IsNamed entries e) where
  is_one : is_member (member family.members e.ino) ≡ true
  is_one = go (is_member (member family.members e.ino)) refl
    where
      go : (b : Bool) → is_member (member family.members e.ino) ≡ b → b ≡ true
      go true is = refl
      go false is = absurd (omega (arith, named.some, ap (λ (dirs : List Ino). length dirs) (tree.named e.ino is)))

  or_true : (b : Bool) → (b || true) ≡ true
  or_true true = refl
  or_true false = refl

  placed : IsPlaced inodes family e
  placed = record {
    there = ap (λ (b : Bool). is_root e.ino || b) is_one ∙ or_true (is_root e.ino);
    below = λ outside. tree.ways e.ino is_one outside ∙ ap (above_of family.members) (named.one (tree.few e.ino outside));
    file = λ inside. tree.files e.ino is_one inside;
  }

all_placed : (entries : List Entry) (inodes : List Inode) (family : Family) → IsTree entries inodes family.members → (more : List Entry) → AllByRecursion (IsNamed entries) more → AllByRecursion (IsPlaced inodes family) more
all_placed entries inodes family tree [] named = tt
all_placed entries inodes family tree (e ∷ more) named = (placed entries inodes family tree e named.0, all_placed entries inodes family tree more named.1)

-- what has a name in the plain tree has its place in the story
pub placed_after : (entries : List Written) → is_journal entries ≡ true → AllByRecursion (IsPlaced (state_after entries).inodes (family_of entries)) (state_after entries).entries
placed_after entries legal =
    let names = (state_after entries).entries in
    all_placed names (state_after entries).inodes (family_of entries) (tied_after entries legal) names
    (all_named names names (record { fewer = λ x. omega arith; one = λ x dir is few. is }))

-- What is known of what a path leads to.
use Rattle.std.proofs.Common.{◌≡◌, ℕ, List, true, Option, None, Some, Result, Ok, Err, refl, ap, subst, ◌∙◌}
use Rattle.snap_ids.specs.declared.id.Ino.{Ino}
use Rattle.snap_ids.specs.declared.id.SnapId.{SnapId}
use Rattle.snap_ids.specs.declared.values.Kind.TheVariants.{Dir}
use Rattle.snap_ids.specs.Path.{Place, Live, Snaps, InSnap, place_of}
use Rattle.plain_types.specs.declared.answer.Refusal.{Refusal}
use Rattle.plain_types.specs.declared.entry.Entry.{Entry}
use Rattle.plain_tree.specs.State.{is_there, kind_in}
use Rattle.plain_tree.specs.Change.{is_directory}
use Rattle.plain_tree.specs.Request.{in_directory, tree_of, walk_live}
use Rattle.plain_tree.specs.Query.{Found, InLive, SnapsOf, InTree, found_at, id_named, in_tree}
use Rattle.plain_tree.specs.Walk.{walk}
use Rattle.plain_journal.specs.Answers.{found}
use Rattle.plain_journal.specs.Coverage.{is_made}
use Rattle.plain_journal.specs.Entries.{state_after, tree_at}
use Rattle.plain_journal.specs.Realms.{shown}
use Rattle.journal_moments.specs.Moments.{is_asked}
use Rattle.journal_names.proofs.Seen.{end_is, walk_is}
use Rattle.journal_shapes.specs.Past.{flushes_are_past}
use Rattle.journal_shapes.specs.Stands.{attr_after}
use Rattle.dentry_tree.specs.Dentries.{kind_of}
use Rattle.meta_state.specs.declared.find.Found.{Found as FoundThere}
use Rattle.meta_state.specs.declared.find.Reached.TheVariants as reached
use Rattle.meta_state.specs.Queries.{IsReached}
use Rattle.meta_state.specs.Stands.{Tables, StandsFor}
use Rattle.meta_state.proofs.Walks.{directory_kind, made_at, walk_there}
use Rattle.meta_state.proofs.Shown.{IsShown, shown_is}
use Rattle.meta_state.proofs.Finds.{in_ok, is_directory_at, then_ok, walked_there}

-- an inode that was found in a snapshot: the snapshot is asked for, the inode was made then, and is now what it was
pub record IsSeen (tables : Tables) (entries : List Entry) (s : SnapId) (ino : Ino) : Type 0 where
  pub asked : is_asked entries s ≡ true
  pub made : is_made (tree_at entries s) ino ≡ true
  pub kind : kind_of tables.names ino ≡ kind_in (tree_at entries s).inodes ino

abbrev led_to : Found → Result Found Refusal
led_to led = Ok led

-- what is known of what was found
abbrev pub IsKnown : Tables → List Entry → Found → Type 0
IsKnown tables entries (InLive ino) = is_there (state_after entries).entries ino ≡ true
IsKnown tables entries (SnapsOf dir) = is_directory (state_after entries) dir ≡ true
IsKnown tables entries (InTree s ino) = IsSeen tables entries s ino

module _ (tables : Tables) (entries : List Entry) (stands : StandsFor tables entries) where
  -- below a snapshot of a directory
  seen : (dir : Ino) → is_directory (state_after entries) dir ≡ true → (name : List ℕ) (below : List (List ℕ)) (named : Option SnapId) → id_named (shown entries dir) name ≡ named → (led : Found) → in_tree (tree_at entries) dir below named ≡ Ok led → IsKnown tables entries led
  seen dir is name below None named led found = cc
  seen dir is name below (Some s) named led found = go (then_ok (walk (kind_in (tree_at entries s).inodes) (tree_at entries s).entries dir below) _ led found)
    where
      there : IsShown entries dir s
      there = shown_is entries stands.journal dir is name s named

      dir_kind : kind_of tables.names dir ≡ Dir
      dir_kind = stands.names.kinds dir ∙ directory_kind entries stands.journal dir is

      go : (ino : Ino) × (walk (kind_in (tree_at entries s).inodes) (tree_at entries s).entries dir below ≡ Ok ino) × (led_to (InTree s ino) ≡ Ok led) → IsKnown tables entries led
      go (ino, walked, last) =
          let same : InTree s ino ≡ led = cc in
          subst (IsKnown tables entries) same (record {
            asked = there.asked;
            made = made_at entries stands.journal s ino (walk_there (kind_in (tree_at entries s).inodes) (tree_at entries s).entries dir ino below there.there walked);
            kind = end_is tables.names entries stands.journal stands.names s there.asked dir ino below dir_kind (walk_is tables.names entries stands.journal stands.names s there.asked dir below dir_kind ∙ walked);
          })

  known_at : (place : Place) (led : Found) → found_at (shown entries) (tree_at entries) (state_after entries) place ≡ Ok led → IsKnown tables entries led
  known_at (Live path) led is = go (then_ok (walk_live (tree_of (state_after entries)) path) _ led is)
    where
      go : (ino : Ino) × (walk_live (tree_of (state_after entries)) path ≡ Ok ino) × (led_to (InLive ino) ≡ Ok led) → IsKnown tables entries led
      go (ino, walked, last) =
          let same : InLive ino ≡ led = cc in
          subst (IsKnown tables entries) same (walked_there tables entries stands path ino walked)
  known_at (Snaps path) led is = go (then_ok (walk_live (tree_of (state_after entries)) path) _ led is)
    where
      go : (dir : Ino) × (walk_live (tree_of (state_after entries)) path ≡ Ok dir) × (in_directory (kind_in (state_after entries).inodes dir) (led_to (SnapsOf dir)) ≡ Ok led) → IsKnown tables entries led
      go (dir, walked, at) =
          let l = in_ok (kind_in (state_after entries).inodes dir) (led_to (SnapsOf dir)) led at in
          let last = l.1 in
          let same : SnapsOf dir ≡ led = cc in
          subst (IsKnown tables entries) same (is_directory_at tables entries stands path dir walked l.0)
  known_at (InSnap path name below) led is = go (then_ok (walk_live (tree_of (state_after entries)) path) _ led is)
    where
      go : (dir : Ino) × (walk_live (tree_of (state_after entries)) path ≡ Ok dir) × (in_directory (kind_in (state_after entries).inodes dir) (in_tree (tree_at entries) dir below (id_named (shown entries dir) name)) ≡ Ok led) → IsKnown tables entries led
      go (dir, walked, at) =
          let l = in_ok (kind_in (state_after entries).inodes dir) (in_tree (tree_at entries) dir below (id_named (shown entries dir) name)) led at in
          seen dir (is_directory_at tables entries stands path dir walked l.0) name below (id_named (shown entries dir) name) refl led l.1

  pub known : (path : List (List ℕ)) (led : Found) → found entries path ≡ Ok led → IsKnown tables entries led
  known path led is = known_at (place_of path) led is

-- what was reached, said the other way round
pub reached_live : (entries : List Entry) (led : Result Found Refusal) (ino : Ino) → IsReached entries led (Ok (reached.Live ino)) → led ≡ Ok (InLive ino)
reached_live entries (Ok (InLive there)) ino is = ap (λ (x : Ino). Ok (InLive x)) is
reached_live entries (Ok (SnapsOf dir)) ino is = absurd is
reached_live entries (Ok (InTree s there)) ino is = absurd is
reached_live entries (Err refusal) ino is = absurd is

pub reached_snaps : (entries : List Entry) (led : Result Found Refusal) (dir : Ino) → IsReached entries led (Ok (reached.Snaps dir)) → led ≡ Ok (SnapsOf dir)
reached_snaps entries (Ok (InLive there)) dir is = absurd is
reached_snaps entries (Ok (SnapsOf there)) dir is = ap (λ (x : Ino). Ok (SnapsOf x)) is
reached_snaps entries (Ok (InTree s there)) dir is = absurd is
reached_snaps entries (Err refusal) dir is = absurd is

-- an inode in a snapshot, and what it was there where its flushes are past
pub record IsThere (entries : List Entry) (led : Result Found Refusal) (there : FoundThere) : Type 0 where
  pub led_to : led ≡ Ok (InTree there.snap there.ino)
  pub was : flushes_are_past entries there.ino ≡ true → attr_after entries there.ino there.snap ≡ Some there.attr

pub reached_there : (entries : List Entry) (led : Result Found Refusal) (there : FoundThere) → IsReached entries led (Ok (reached.InSnap there)) → IsThere entries led there
reached_there entries (Ok (InLive ino)) there is = absurd is
reached_there entries (Ok (SnapsOf dir)) there is = absurd is
reached_there entries (Ok (InTree s ino)) there is = record {
  led_to = λ i. Ok (InTree (is.1.0 i) (is.0 i));
  was = subst (λ (x : Ino). flushes_are_past entries x ≡ true → attr_after entries x there.snap ≡ Some there.attr) is.0 (subst (λ (t : SnapId). flushes_are_past entries ino ≡ true → attr_after entries ino t ≡ Some there.attr) is.1.0 is.1.1);
}
reached_there entries (Err refusal) there is = absurd is

-- What the tables of a state say of a path is what the entries say.
use Rattle.std.proofs.Common.{◌≡◌, ◌<◌, ◌^◌, ℕ, List, Bool, true, false, None, Some, Result, Ok, Err, refl, sym, ap, subst, ◌∙◌, length}
use Rattle.std.specs.Prelude.{if◌then◌else◌}
use Rattle.std.specs.Option.{option_map}
use Rattle.snap_ids.specs.declared.id.Ino.{Ino}
use Rattle.snap_ids.specs.declared.id.SnapId.{SnapId}
use Rattle.snap_ids.specs.declared.id.TheConstants.{NOSNAP, ROOT}
use Rattle.snap_ids.specs.declared.values.Kind.{Kind}
use Rattle.snap_ids.specs.declared.values.Kind.TheVariants.{Dir, File}
use Rattle.plain_types.specs.declared.answer.Refusal.{Refusal}
use Rattle.plain_types.specs.declared.entry.Entry.{Entry}
use Rattle.plain_tree.specs.State.{Entry as Dentry}
use Rattle.plain_tree.specs.State.{is_there, kind_in, inode_in}
use Rattle.plain_tree.specs.Change.{is_directory}
use Rattle.plain_tree.specs.Request.{and_then, in_directory, tree_of, walk_live}
use Rattle.plain_tree.specs.Query.{Found, InTree, id_named, in_tree}
use Rattle.plain_tree.specs.Walk.{walk}
use Rattle.plain_journal.specs.Coverage.{is_made}
use Rattle.plain_journal.specs.Entries.{state_after, tree_at}
use Rattle.plain_journal.specs.Realms.{shown}
use Rattle.plain_journal.specs.Settled.{Shape, settled_size}
use Rattle.journal_moments.proofs.Moments.{applied_below_nosnap, above_now, nosnap_asked}
use Rattle.journal_names.proofs.Entries.{live_names}
use Rattle.journal_names.proofs.Seen.{walk_is}
use Rattle.journal_realms.specs.Told.{family_of}
use Rattle.journal_shapes.specs.Past.{flushes_are_past}
use Rattle.journal_shapes.specs.Stands.{attr_after, of_shape}
use Rattle.dentry_tree.specs.Dentries.{entries_at, kind_of}
use Rattle.realm_story.specs.Family.{shown as shown_told}
use Rattle.inode_versions.specs.declared.attr.Attr.{Attr}
use Rattle.inode_versions.specs.Table.{attr_at}
use Rattle.snap_realm.specs.Names.{id_in}
use Rattle.meta_state.specs.Queries.{HasDirectory, IsFoundBelow, directory_at, found_below}
use Rattle.meta_state.specs.Stands.{Tables, StandsFor}
use Rattle.meta_state.proofs.Walks.{directory_kind, directory_there, live_apart, made_at, root_dir, walk_there}
use Rattle.meta_state.proofs.Shown.{shown_is}
use Rattle.meta_state.proofs.Names.{same_named}

abbrev is_dir : Kind → Bool → Bool
is_dir kind there = elim kind as (λ _. Bool) [ Dir ↦ there | File ↦ false ]

-- what an inode that was made is at an id, in the words of the table
pub attr_of_made : (entries : List Entry) (ino : Ino) (s : SnapId) → is_made (tree_at entries s) ino ≡ true
    → attr_after entries ino s ≡ Some (record { kind = kind_in (tree_at entries s).inodes ino; mode = (inode_in (tree_at entries s).inodes ino).mode; size = settled_size entries ino s })
attr_of_made entries ino s made = go (is_made (tree_at entries s) ino) made
  where
    shape : Shape
    shape = record { kind = kind_in (tree_at entries s).inodes ino; mode = (inode_in (tree_at entries s).inodes ino).mode; size = settled_size entries ino s }

    go : (b : Bool) → b ≡ true → option_map of_shape (if b then Some shape else None) ≡ Some (of_shape shape)
    go true is = refl
    go false is = cc

module _ (tables : Tables) (entries : List Entry) (stands : StandsFor tables entries) where
  pub few_inodes : length (state_after entries).inodes < 2 ^ 62
  few_inodes = subst (λ (n : ℕ). n < 2 ^ 62) stands.made stands.few_made

  -- the tree of what is live
  pub tree_now : tree_at entries NOSNAP ≡ state_after entries
  tree_now = above_now entries stands.journal NOSNAP (applied_below_nosnap entries stands.journal)

  -- a live walk from the root
  pub live_walk : (names : List (List ℕ)) → walk_live (tree_of (state_after entries)) names ≡ walk (kind_of tables.names) (entries_at NOSNAP tables.names) ROOT names
  live_walk names =
      sym (walk_is tables.names entries stands.journal stands.names NOSNAP (nosnap_asked entries stands.journal) ROOT names (stands.names.kinds ROOT ∙ root_dir entries stands.journal)
      ∙ ap (λ t. walk (kind_in t.inodes) t.entries ROOT names) tree_now)

  module _ (dir : Ino) (is : HasDirectory tables dir) where
    -- a directory is one after each journal that the tables stand for
    pub directory_told : is_directory (state_after entries) dir ≡ true
    directory_told =
        ap (λ (k : Kind). is_dir k (is_there (state_after entries).entries dir)) (sym (stands.names.kinds dir) ∙ is.stands.names.kinds dir)
        ∙ ap (λ (es : List Dentry). is_dir (kind_in (state_after is.entries).inodes dir) (is_there es dir)) (sym (live_names tables.names entries stands.journal stands.names) ∙ live_names tables.names is.entries is.stands.journal is.stands.names)
        ∙ is.there

    pub snap_named_is : (name : List ℕ) → id_named (shown entries dir) name ≡ id_in (shown_told (family_of entries) dir) name
    snap_named_is name = same_named entries stands.journal few_inodes dir (live_apart entries stands.journal dir (directory_there entries stands.journal dir directory_told)) name

    -- a walk below a snapshot
    pub below_is : (name : List ℕ) (below : List (List ℕ)) (s : SnapId) → id_named (shown entries dir) name ≡ Some s
        → found_below entries dir name below ≡ and_then (walk (kind_of tables.names) (entries_at s tables.names) dir below) (λ ino. Ok (InTree s ino))
    below_is name below s named =
        let there = shown_is entries stands.journal dir directory_told name s named in
        ap (in_tree (tree_at entries) dir below) named
        ∙ ap (λ (w : Result Ino Refusal). and_then w (λ ino. Ok (InTree s ino))) (sym (walk_is tables.names entries stands.journal stands.names s there.asked dir below (stands.names.kinds dir ∙ directory_kind entries stands.journal dir directory_told)))

    below_ok : (name : List ℕ) (below : List (List ℕ)) (s : SnapId) (ino : Ino) (attr : Attr) → id_named (shown entries dir) name ≡ Some s
        → walk (kind_of tables.names) (entries_at s tables.names) dir below ≡ Ok ino → ((known : Attr) → attr_at tables.inodes ino s ≡ Some known → attr ≡ known)
        → flushes_are_past entries ino ≡ true → attr_after entries ino s ≡ Some attr
    below_ok name below s ino attr named walked known past =
        let there = shown_is entries stands.journal dir directory_told name s named in
        let ends = sym (walk_is tables.names entries stands.journal stands.names s there.asked dir below (stands.names.kinds dir ∙ directory_kind entries stands.journal dir directory_told)) ∙ walked in
        let made = made_at entries stands.journal s ino (walk_there (kind_in (tree_at entries s).inodes) (tree_at entries s).entries dir ino below there.there ends) in
        let is_so = attr_of_made entries ino s made in
        is_so ∙ ap Some (sym (known _ (stands.inodes.asked ino past s there.asked ∙ is_so)))

    -- what was found below a snapshot
    pub found_ok : (name : List ℕ) (below : List (List ℕ)) (s : SnapId) (ino : Ino) (attr : Attr) → id_named (shown entries dir) name ≡ Some s
        → walk (kind_of tables.names) (entries_at s tables.names) dir below ≡ Ok ino → ((known : Attr) → attr_at tables.inodes ino s ≡ Some known → attr ≡ known)
        → IsFoundBelow entries (found_below entries dir name below) (Ok (record { ino = ino; snap = s; attr = attr }))
    found_ok name below s ino attr named walked known =
        subst (λ (led : Result Found Refusal). IsFoundBelow entries led (Ok (record { ino = ino; snap = s; attr = attr })))
        (sym (below_is name below s named ∙ ap (λ (w : Result Ino Refusal). and_then w (λ ino. Ok (InTree s ino))) walked))
        (refl, (refl, below_ok name below s ino attr named walked known))

    -- and what was refused
    pub found_err : (name : List ℕ) (below : List (List ℕ)) (s : SnapId) (refusal : Refusal) → id_named (shown entries dir) name ≡ Some s
        → walk (kind_of tables.names) (entries_at s tables.names) dir below ≡ Err refusal
        → IsFoundBelow entries (found_below entries dir name below) (Err refusal)
    found_err name below s refusal named walked =
        subst (λ (led : Result Found Refusal). IsFoundBelow entries led (Err refusal))
        (sym (below_is name below s named ∙ ap (λ (w : Result Ino Refusal). and_then w (λ ino. Ok (InTree s ino))) walked)) refl

-- what is done with a value
pub then_ok : {A B : Type 0} (w : Result A Refusal) (go_on : A → Result B Refusal) (b : B) → and_then w go_on ≡ Ok b → (a : A) × (w ≡ Ok a) × (go_on a ≡ Ok b)
then_ok (Ok a) go_on b is = (a, refl, is)
then_ok (Err refusal) go_on b is = cc

pub in_ok : {A : Type 0} (k : Kind) (r : Result A Refusal) (a : A) → in_directory k r ≡ Ok a → (k ≡ Dir) × (r ≡ Ok a)
in_ok Dir r a is = (refl, is)
in_ok File r a is = cc

-- a directory at the end of a path is there
module _ (tables : Tables) (entries : List Entry) (stands : StandsFor tables entries) where
  pub walked_there : (path : List (List ℕ)) (ino : Ino) → walk_live (tree_of (state_after entries)) path ≡ Ok ino → is_there (state_after entries).entries ino ≡ true
  walked_there path ino walked = walk_there (kind_in (state_after entries).inodes) (state_after entries).entries ROOT ino path refl walked

  pub is_directory_at : (path : List (List ℕ)) (dir : Ino) → walk_live (tree_of (state_after entries)) path ≡ Ok dir → kind_in (state_after entries).inodes dir ≡ Dir → is_directory (state_after entries) dir ≡ true
  is_directory_at path dir walked kind = ap (λ (k : Kind). is_dir k (is_there (state_after entries).entries dir)) kind ∙ walked_there path dir walked

  pub has_directory : (path : List (List ℕ)) (dir : Ino) → directory_at (state_after entries) path ≡ Ok dir → HasDirectory tables dir
  has_directory path dir at = record { entries = entries; stands = stands; there = is_so (then_ok (walk_live (tree_of (state_after entries)) path) _ dir at) }
    where
      is_so : (d : Ino) × (walk_live (tree_of (state_after entries)) path ≡ Ok d) × (in_directory (kind_in (state_after entries).inodes d) (Ok d) ≡ Ok dir) → is_directory (state_after entries) dir ≡ true
      is_so (d, walked, is) =
          let l = in_ok (kind_in (state_after entries).inodes d) (Ok d) dir is in
          let last = l.1 in
          let same : d ≡ dir = cc in
          subst (λ (x : Ino). is_directory (state_after entries) x ≡ true) same (is_directory_at path d walked l.0)

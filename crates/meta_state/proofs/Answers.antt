-- What is answered of what a path leads to is what the entries say.
use Rattle.std.proofs.Common.{◌≡◌, ℕ, List, true, false, Some, Result, Ok, refl, sym, ap, subst, ◌∙◌}
use Rattle.snap_ids.specs.declared.id.Ino.{Ino}
use Rattle.snap_ids.specs.declared.id.SnapId.{SnapId}
use Rattle.snap_ids.specs.declared.id.TheConstants.{NOSNAP}
use Rattle.snap_ids.specs.declared.values.Kind.{Kind}
use Rattle.snap_ids.specs.declared.values.Kind.TheVariants.{Dir, File}
use Rattle.plain_types.specs.declared.answer.Answer.{Answer}
use Rattle.plain_types.specs.declared.answer.Answer.TheVariants.{FoundLive, Listed, Refused, StatDir, StatFile}
use Rattle.plain_types.specs.declared.answer.Refusal.{Refusal}
use Rattle.plain_types.specs.declared.answer.Refusal.TheVariants.{IsDir, NotDir}
use Rattle.plain_types.specs.declared.entry.Entry.{Entry}
use Rattle.plain_tree.specs.State.{State, inode_in, is_there, kind_in, listing}
use Rattle.plain_tree.specs.Query.{Found, InLive, InTree, SnapsOf, answered, list_answer, list_in}
use Rattle.plain_journal.specs.Answers.{cat_found, found, stat_found}
use Rattle.plain_journal.specs.Coverage.{is_made}
use Rattle.plain_journal.specs.Entries.{state_after, tree_at}
use Rattle.plain_journal.specs.Realms.{shown}
use Rattle.plain_journal.specs.Settled.{settled_size}
use Rattle.journal_moments.proofs.Moments.{nosnap_asked}
use Rattle.journal_names.proofs.Seen.{listing_is}
use Rattle.dentry_tree.specs.Dentries.{entries_at, kind_of}
use Rattle.inode_versions.specs.declared.attr.Attr.{Attr}
use Rattle.inode_versions.specs.Table.{head_of}
use Rattle.meta_state.specs.declared.find.Found.{Found as FoundThere}
use Rattle.meta_state.specs.declared.find.Reached.TheVariants as reached
use Rattle.meta_state.specs.Queries.{HasDirectory, IsReached}
use Rattle.meta_state.specs.Stands.{Tables, StandsFor}
use Rattle.meta_state.proofs.Walks.{directory_kind, directory_there, live_made}
use Rattle.meta_state.proofs.Finds.{attr_of_made, tree_now}
use Rattle.meta_state.proofs.Reaches.{known, reached_live, reached_snaps, reached_there}

-- what an attribute is answered as
abbrev pub stat_said : Attr → Answer
stat_said attr = elim attr.kind [ Dir ↦ StatDir attr.mode | File ↦ StatFile attr.mode attr.size ]

abbrev pub live_said : Ino → Attr → Answer
live_said ino attr = elim attr.kind [ Dir ↦ StatDir attr.mode | File ↦ FoundLive ino attr.mode attr.size false ]

abbrev pub cat_said : Ino → Attr → Answer
cat_said ino attr = elim attr.kind [ Dir ↦ Refused IsDir | File ↦ FoundLive ino attr.mode attr.size false ]

-- what an inode is in a state, where a file has this size
abbrev attr_in : State → Ino → ℕ → Attr
attr_in state ino size = record { kind = kind_in state.inodes ino; mode = (inode_in state.inodes ino).mode; size = size }

-- a directory's `stat` says no size
no_size : (attr : Attr) (size : ℕ) → attr.kind ≡ Dir → stat_said attr ≡ stat_said (record { kind = attr.kind; mode = attr.mode; size = size })
no_size attr size is = go attr.kind is
  where
    go : (k : Kind) → k ≡ Dir → (elim k as (λ _. Answer) [ Dir ↦ StatDir attr.mode | File ↦ StatFile attr.mode attr.size ]) ≡ (elim k as (λ _. Answer) [ Dir ↦ StatDir attr.mode | File ↦ StatFile attr.mode size ])
    go Dir is = refl
    go File is = cc

module _ (tables : Tables) (entries : List Entry) (stands : StandsFor tables entries) where
  -- what a live inode is
  now_is : (ino : Ino) → is_there (state_after entries).entries ino ≡ true → head_of tables.inodes ino ≡ Some (attr_in (state_after entries) ino (settled_size entries ino NOSNAP))
  now_is ino there =
      let now = tree_now tables entries stands in
      stands.inodes.live ino
      ∙ attr_of_made entries ino NOSNAP (subst (λ (state : State). is_made state ino ≡ true) (sym now) (live_made entries stands.journal ino there))
      ∙ ap (λ (state : State). Some (attr_in state ino (settled_size entries ino NOSNAP))) now

  module _ (path : List (List ℕ)) where
    pub stat_live : (ino : Ino) (attr : Attr) → IsReached entries (found entries path) (Ok (reached.Live ino)) → ((known : Attr) → head_of tables.inodes ino ≡ Some known → attr ≡ known) → live_said ino attr ≡ answered (found entries path) (stat_found entries)
    stat_live ino attr is head =
        let led = reached_live entries (found entries path) ino is in
        ap (live_said ino) (head _ (now_is ino (known tables entries stands path (InLive ino) led)))
        ∙ sym (ap (λ (r : Result Found Refusal). answered r (stat_found entries)) led)

    pub stat_snaps : (dir : Ino) (attr : Attr) → IsReached entries (found entries path) (Ok (reached.Snaps dir)) → ((known : Attr) → head_of tables.inodes dir ≡ Some known → attr ≡ known) → stat_said attr ≡ answered (found entries path) (stat_found entries)
    stat_snaps dir attr is head =
        let led = reached_snaps entries (found entries path) dir is in
        let folder = known tables entries stands path (SnapsOf dir) led in
        ap stat_said (head _ (now_is dir (directory_there entries stands.journal dir folder)))
        ∙ no_size (attr_in (state_after entries) dir (settled_size entries dir NOSNAP)) 0 (directory_kind entries stands.journal dir folder)
        ∙ sym (ap (λ (r : Result Found Refusal). answered r (stat_found entries)) led)

    pub cat_live : (ino : Ino) (attr : Attr) → IsReached entries (found entries path) (Ok (reached.Live ino)) → ((known : Attr) → head_of tables.inodes ino ≡ Some known → attr ≡ known) → cat_said ino attr ≡ answered (found entries path) (cat_found entries)
    cat_live ino attr is head =
        let led = reached_live entries (found entries path) ino is in
        ap (cat_said ino) (head _ (now_is ino (known tables entries stands path (InLive ino) led)))
        ∙ sym (ap (λ (r : Result Found Refusal). answered r (cat_found entries)) led)

    -- the listings
    abbrev list_said : Ino → SnapId → Answer
    list_said ino s = elim (kind_of tables.names ino) [ Dir ↦ Listed (listing (kind_of tables.names) (entries_at s tables.names) ino) | File ↦ Refused NotDir ]

    abbrev list_told : Found → Answer
    list_told led = list_answer (shown entries) (tree_at entries) (state_after entries) led

    list_same : (state : State) (ino : Ino) (s : SnapId) → kind_of tables.names ino ≡ kind_in state.inodes ino → listing (kind_of tables.names) (entries_at s tables.names) ino ≡ listing (kind_in state.inodes) state.entries ino → list_said ino s ≡ list_in state ino
    list_same state ino s kind names = λ i. by_kind (kind i) (names i)
      where
        by_kind : Kind → List (List ℕ × Kind) → Answer
        by_kind k names = elim k [ Dir ↦ Listed names | File ↦ Refused NotDir ]

    pub list_live : (ino : Ino) → IsReached entries (found entries path) (Ok (reached.Live ino)) → list_said ino NOSNAP ≡ answered (found entries path) list_told
    list_live ino is =
        let now = tree_now tables entries stands in
        list_same (state_after entries) ino NOSNAP (stands.names.kinds ino)
        (listing_is tables.names entries stands.journal stands.names NOSNAP (nosnap_asked entries stands.journal) ino ∙ ap (λ (state : State). listing (kind_in state.inodes) state.entries ino) now)
        ∙ sym (ap (λ (r : Result Found Refusal). answered r list_told) (reached_live entries (found entries path) ino is))

    pub list_there : (there : FoundThere) → IsReached entries (found entries path) (Ok (reached.InSnap there)) → list_said there.ino there.snap ≡ answered (found entries path) list_told
    list_there there is =
        let l = reached_there entries (found entries path) there is in
        let seen = known tables entries stands path (InTree there.snap there.ino) l.led_to in
        list_same (tree_at entries there.snap) there.ino there.snap seen.kind (listing_is tables.names entries stands.journal stands.names there.snap seen.asked there.ino)
        ∙ sym (ap (λ (r : Result Found Refusal). answered r list_told) l.led_to)

    pub snaps_directory : (dir : Ino) → IsReached entries (found entries path) (Ok (reached.Snaps dir)) → HasDirectory tables dir
    snaps_directory dir is = record { entries = entries; stands = stands; there = known tables entries stands path (SnapsOf dir) (reached_snaps entries (found entries path) dir is) }

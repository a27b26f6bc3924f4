-- What is answered of live inodes and of the snapshots that a directory shows is what the entries say.
use Rattle.std.proofs.Common.{◌≡◌, ℕ, List, true, Result, Ok, sym, ap, subst, ◌∙◌}
use Rattle.snap_ids.specs.Context.{Context}
use Rattle.snap_ids.specs.declared.id.Ino.{Ino}
use Rattle.snap_ids.specs.declared.values.Kind.{Kind}
use Rattle.snap_ids.specs.declared.values.Kind.TheVariants.{Dir, File}
use Rattle.snap_ids.specs.Path.{Place, Live, Snaps, InSnap}
use Rattle.plain_types.specs.declared.answer.Answer.{Answer}
use Rattle.plain_types.specs.declared.answer.Answer.TheVariants.{Listed, RealmIs, Refused}
use Rattle.plain_types.specs.declared.answer.Refusal.{Refusal}
use Rattle.plain_types.specs.declared.answer.Refusal.TheVariants.{IsDir}
use Rattle.plain_types.specs.declared.entry.Entry.{Entry}
use Rattle.plain_tree.specs.State.{Entry as Dentry}
use Rattle.plain_tree.specs.State.{is_there}
use Rattle.plain_tree.specs.Query.{file_in, listed_snaps, live_only}
use Rattle.plain_journal.specs.Answers.{live_answer}
use Rattle.plain_journal.specs.Coverage.{context}
use Rattle.plain_journal.specs.Entries.{state_after}
use Rattle.plain_journal.specs.Realms.{realm_at, shown}
use Rattle.journal_names.proofs.Entries.{live_names}
use Rattle.journal_realms.specs.Told.{family_of}
use Rattle.journal_realms.proofs.Marks.{same_realms}
use Rattle.journal_realms.proofs.Shown.{same_contexts}
use Rattle.realm_story.specs.Family.{realm_of}
use Rattle.realm_story.specs.Family.{context as context_told, shown as shown_told}
use Rattle.dentry_tree.specs.Dentries.{kind_of}
use Rattle.snap_realm.specs.Names.{listed}
use Rattle.snap_realm.specs.Tree as realms
use Rattle.meta_state.specs.Queries.{HasDirectory, HasInode}
use Rattle.meta_state.specs.Stands.{Tables, StandsFor}
use Rattle.meta_state.proofs.Walks.{directory_there, held_live, live_apart, realms_there}
use Rattle.meta_state.proofs.Names.{same_names_listed}
use Rattle.meta_state.proofs.Finds.{directory_told, walked_there}

-- the tree of realms inside of a state, whose value these tables are
pub inside_stands : (inside tables : Tables) (entries : List Entry) → inside ≡ tables → StandsFor tables entries → realms.StandsFor inside.realms (family_of entries)
inside_stands inside tables entries is stands = subst (λ (t : Tables). realms.StandsFor t.realms (family_of entries)) (sym is) stands.realms

-- what is there is there in the tree of realms
pub inode_inside : (inside tables : Tables) (ino : Ino) → inside ≡ tables → (is : HasInode tables ino) → realms.is_there inside.realms ino ≡ true
inode_inside inside tables ino same is = realms_there is.entries is.stands.journal inside.realms (inside_stands inside tables is.entries same is.stands) ino is.there

module _ (tables : Tables) (entries : List Entry) (stands : StandsFor tables entries) where
  -- an inode is there after each journal that the tables stand for
  inode_told : (ino : Ino) → HasInode tables ino → is_there (state_after entries).entries ino ≡ true
  inode_told ino is =
      ap (λ (es : List Dentry). is_there es ino) (sym (live_names tables.names entries stands.journal stands.names) ∙ live_names tables.names is.entries is.stands.journal is.stands.names)
      ∙ is.there

  -- its realm and its context
  pub realm_said : (ino at : Ino) (seen : Context) → HasInode tables ino → at ≡ realm_of (family_of entries) ino → seen ≡ context_told (family_of entries) ino → RealmIs at seen ≡ RealmIs (realm_at entries ino) (context entries ino)
  realm_said ino at seen is realm ids =
      let there = inode_told ino is in
      λ i. RealmIs ((realm ∙ same_realms entries stands.journal ino (held_live entries stands.journal ino there)) i) ((ids ∙ same_contexts entries stands.journal ino (live_apart entries stands.journal ino there)) i)

  -- the snapshots that a directory shows
  pub snaps_said : (dir : Ino) (names : List (List ℕ × Kind)) → HasDirectory tables dir → names ≡ listed (shown_told (family_of entries) dir) → Listed names ≡ Listed (listed_snaps (shown entries dir))
  snaps_said dir names is listing =
      let there = directory_there entries stands.journal dir (directory_told tables entries stands dir is) in
      ap Listed (listing ∙ sym (same_names_listed entries stands.journal dir (live_apart entries stands.journal dir there)))

  -- a live inode by its path is there
  pub live_inode : (place : Place) (ino : Ino) → live_only (state_after entries) place ≡ Ok ino → HasInode tables ino
  live_inode (Live path) ino is = record { entries = entries; stands = stands; there = walked_there tables entries stands path ino is }
  live_inode (Snaps dir) ino is = cc
  live_inode (InSnap dir name below) ino is = cc

  -- what is answered of a file alone
  pub file_said : (ino : Ino) (answer : Answer) (led : Result Ino Refusal) (go_on : Ino → Answer) → led ≡ Ok ino → go_on ino ≡ file_in (state_after entries) ino answer → (kind : Kind) → kind_of tables.names ino ≡ kind → (elim kind as (λ _. Answer) [ Dir ↦ Refused IsDir | File ↦ answer ]) ≡ live_answer led go_on
  file_said ino answer led go_on is told kind same =
      ap (λ (k : Kind). elim k as (λ _. Answer) [ Dir ↦ Refused IsDir | File ↦ answer ]) (sym same ∙ stands.names.kinds ino)
      ∙ sym told
      ∙ sym (ap (λ (r : Result Ino Refusal). live_answer r go_on) is)

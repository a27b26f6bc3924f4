-- The state of a metadata server's tree, and the journal that it stands for.
use Rattle.std.specs.Prelude.{◌≡◌, ◌<◌, ◌^◌, ℕ, true, List, length}
use Rattle.plain_types.specs.declared.entry.Entry.{Entry}
use Rattle.plain_journal.specs.Entries.{state_after}
use Rattle.plain_journal.specs.Legal.{is_legal, is_journal}
use Rattle.plain_journal.specs.Table.{barrier}
use Rattle.journal_realms.specs.Told.{family_of}
use Rattle.journal_names.specs.Names.{NamesStand}
use Rattle.journal_shapes.specs.Stands.{ShapesStand}
use Rattle.file_uses.specs.Uses.{Uses}
use Rattle.journal_uses.specs.Stands.{uses_after}
use Rattle.inode_versions.specs.Histories.{History}
use Rattle.dentry_tree.specs.Dentries as dentries
use Rattle.snap_realm.specs.Tree as realms

-- the tables: names, inodes, realms and uses of files; how many inodes were made, the root counted; the last barrier; and
-- how many entries were applied
pub record Tables : Type 0 where
  pub names : dentries.Tree
  pub inodes : List (ℕ × History)
  pub realms : realms.Tree
  pub uses : Uses
  pub made : ℕ
  pub barrier : ℕ
  pub entries : ℕ

-- the tables stand for the entries of a journal: each says what these entries say, and what is counted stays below 2^62
pub record StandsFor (tables : Tables) (entries : List Entry) : Type 0 where
  pub journal : is_journal entries ≡ true
  pub names : NamesStand tables.names entries
  pub inodes : ShapesStand tables.inodes entries
  pub realms : realms.StandsFor tables.realms (family_of entries)
  pub uses : tables.uses ≡ uses_after entries
  pub made : tables.made ≡ length (state_after entries).inodes
  pub barrier : tables.barrier ≡ barrier entries
  pub count : tables.entries ≡ length entries
  pub few_made : tables.made < 2 ^ 62
  pub few_entries : tables.entries < 2 ^ 62

-- they stand for some journal
pub record IsState (tables : Tables) : Type 0 where
  pub entries : List Entry
  pub stands : StandsFor tables entries

-- they stand for a journal that an entry may follow
pub record MayFollow (tables : Tables) (entry : Entry) : Type 0 where
  pub entries : List Entry
  pub stands : StandsFor tables entries
  pub legal : is_legal entries entry ≡ true

-- What contracts see of a journal, and what is true of it.
use Rattle.std.specs.Prelude.{◌≡◌, ◌+◌, ℕ, Bool, true, List, length}
use Rattle.plain_types.specs.declared.entry.Entry.{Entry}
use Rattle.io_edge.specs.Disk.{Only}
use Rattle.journal_format.specs.Image.{IsJournal, IsImage}

-- the disk, the entries that the last `create`, `open` or `reopen` found, and that no call was refused since
pub record Log (D : Type 0) : Type 0 where
  pub disk : D
  pub found : List Entry
  pub ready : Bool

-- the file is the image of some entries, on the disk, with its closed gate at this place
pub record Rests (file : List ℕ) (may_leave : List ℕ → Type 0) (gate : ℕ) : Type 0 where
  pub entries : List Entry
  pub image : IsImage file entries
  pub place : gate + 1 ≡ length file
  pub durable : Only file may_leave

-- the file is a journal, and rests where the journal is ready
pub record IsSound (file : List ℕ) (may_leave : List ℕ → Type 0) (gate : ℕ) (ready : Bool) : Type 0 where
  pub entries : List Entry
  pub journal : IsJournal file entries
  pub rests : ready ≡ true → Rests file may_leave gate

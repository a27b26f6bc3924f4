-- What is true of a table's fields.
use Rattle.std.specs.Prelude.{◌≡◌, ℕ, List, length}
use Rattle.std.specs.List.{sum_by, AllByRecursion}
use Rattle.inode_versions.specs.Histories.{History, IsHistory}
use Rattle.inode_versions.specs.declared.table.InodeTable.TheInside.{Inside}

-- each inode's history is in order
abbrev pub AreHistories : List (ℕ × History) → Type 0
AreHistories table = AllByRecursion (λ inode. IsHistory inode.1) table

-- how many earlier versions inodes have together
abbrev pub total : List (ℕ × History) → ℕ
total table = sum_by (λ inode. length inode.1.earlier) table

-- the table knows how many earlier versions it has, and its histories are in order
pub record IsTable (fields : Inside) : Type 0 where
  pub earlier : fields.earlier ≡ total fields.inodes.entries
  pub histories : AreHistories fields.inodes.entries

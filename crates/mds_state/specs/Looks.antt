-- What is read off an inode's attributes.
use Rattle.std.specs.Prelude.{◌≡◌, ℕ, Bool, true, false, List, Option, None, Some}
use Rattle.snap_ids.specs.declared.id.Ino.{Ino}
use Rattle.snap_ids.specs.declared.values.Kind.TheVariants.{Dir, File}
use Rattle.plain_types.specs.declared.entry.Entry.{Entry}
use Rattle.plain_journal.specs.Entries.{state_after}
use Rattle.plain_journal.specs.Legal.{is_made_file}
use Rattle.inode_versions.specs.declared.attr.Attr.{Attr}
use Rattle.mds_state.specs.Parts.{WrittenParts}
use Rattle.mds_state.specs.Stands.{WrittenStands}

-- its size, 0 where there is no inode
abbrev pub size_in : Option Attr → ℕ
size_in None = 0
size_in (Some attr) = attr.size

-- it is a file
abbrev pub is_file_in : Option Attr → Bool
is_file_in None = false
is_file_in (Some attr) = elim attr.kind [ Dir ↦ false | File ↦ true ]

-- what is written down stands for some entries after which a file was made
pub record HasFile (w : WrittenParts) (ino : Ino) : Type 0 where
  pub clients : ℕ
  pub entries : List Entry
  pub done : ℕ
  pub stands : WrittenStands w clients entries done
  pub made : is_made_file (state_after entries) ino ≡ true

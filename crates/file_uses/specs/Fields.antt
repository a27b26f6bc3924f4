-- What the fields stand for, and what is true of them.
use Rattle.std.specs.Prelude.{◌≡◌, ◌≤◌, length, vec_capacity}
use Rattle.file_uses.specs.Uses.{Uses, dead_of}
use Rattle.file_uses.specs.Rising.{KeysRise}
use Rattle.file_uses.specs.declared.uses.FileUses.TheInside.{Inside}

abbrev pub uses_of : Inside → Uses
uses_of fields = record { files = fields.files.entries; handles = fields.handles }

-- the files rise, and the index has the dead ones and room for all
pub record IsIndexed (fields : Inside) : Type 0 where
  pub files : KeysRise fields.files.entries
  pub dead : fields.dead.items ≡ dead_of (uses_of fields)
  pub room : length fields.files.entries ≤ vec_capacity fields.dead

-- What the table's fields stand for, and what is true of them.
use Rattle.std.specs.Prelude.{◌<◌, Option, None, Some, vec_len, vec_capacity}
use Rattle.std.specs.Global.{Vec}
use Rattle.snap_ids.specs.declared.id.SnapId.{SnapId}
use Rattle.snap_table.specs.declared.op.TableOp.{TableOp}
use Rattle.snap_table.specs.declared.op.TableOp.TheVariants.{Create, Destroy}
use Rattle.snap_table.specs.Table.{Table, WellFormed}
use Rattle.snap_table.specs.declared.table.SnapTable.TheInside.{Inside}

abbrev pub table_of : Inside → Table
table_of fields = record { last = fields.last; live = fields.live.items; unpurged = fields.unpurged.items; outstanding = fields.outstanding }

-- what is outstanding has the room that it needs to take effect
abbrev pub HasRoom : Option TableOp → Vec SnapId → Vec SnapId → Type 0
HasRoom None live unpurged = Unit {0}
HasRoom (Some (Create id)) live unpurged = vec_len live < vec_capacity live
HasRoom (Some (Destroy id)) live unpurged = vec_len unpurged < vec_capacity unpurged

-- the table is well formed, and there is room for what is outstanding
pub record IsTable (fields : Inside) : Type 0 where
  pub table : WellFormed (table_of fields)
  pub room : HasRoom fields.outstanding fields.live fields.unpurged

-- Operations on the table.
use Rattle.snap_ids.specs.declared.id.SnapId.{SnapId}
use Rattle.snap_table.specs.declared.op.TableOp.{TableOp}
use Rattle.snap_table.specs.declared.op.TableOp.TheVariants.{Create, Destroy}

-- the id of an operation's snapshot
abbrev pub id_of : TableOp → SnapId
id_of (Create id) = id
id_of (Destroy id) = id

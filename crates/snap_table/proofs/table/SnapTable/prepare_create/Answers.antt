use Rattle.std.proofs.Common.{◌+◌, List, Some, arith, sym, subst}
use Rattle.snap_ids.specs.declared.id.SnapId.{SnapId}
use Rattle.snap_table.specs.declared.op.TableOp.TheVariants.{Create}
use Rattle.snap_table.specs.Table.{WellFormed}
use Rattle.snap_table.specs.Fields.{table_of}
use Rattle.snap_table.proofs.Steps.{well_formed-create}
use Rattle.snap_table.proofs.table.SnapTable.prepare_create.Goals as goal

pub invariant_of-self-2 : goal.invariant_of-self-2
invariant_of-self-2 c =
    let with : List SnapId → Type 0 = λ live. WellFormed (record { last = c.self.inside.last + 1; live = live; unpurged = c.self.inside.unpurged.items; outstanding = Some (Create (record { 0 = c.self.inside.last + 1 })) }) in
    record {
      table = subst with (sym c.reserve.ensures.items) (well_formed-create (table_of c.self.inside) c.self.invariant.table);
      room = omega (arith, c.in_ok-reserve.ensures.ok);
    }

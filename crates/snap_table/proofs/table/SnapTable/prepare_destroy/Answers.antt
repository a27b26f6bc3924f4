use Rattle.std.proofs.Common.{◌≡◌, true, List, Some, arith, sym, subst}
use Rattle.snap_ids.specs.declared.id.SnapId.{SnapId}
use Rattle.snap_ids.specs.Context.{is_listed}
use Rattle.snap_table.specs.declared.op.TableOp.TheVariants.{Destroy}
use Rattle.snap_table.specs.Table.{Table, WellFormed}
use Rattle.snap_table.specs.Fields.{table_of}
use Rattle.snap_table.proofs.Steps.{well_formed-destroy}
use Rattle.snap_table.proofs.table.SnapTable.prepare_destroy.Goals as goal

pub invariant_of-self-2 : goal.invariant_of-self-2
invariant_of-self-2 c =
    let with : List SnapId → Type 0 = λ unpurged. WellFormed (record { last = c.self.inside.last; live = c.self.inside.live.items; unpurged = unpurged; outstanding = Some (Destroy c.args.id) }) in
    let live : is_listed c.args.id c.self.inside.live.items ≡ true = subst (λ (t : Table). is_listed c.args.id t.live ≡ true) (sym c.self.view_is) c.requires in
    record {
      table = subst with (sym c.reserve.ensures.items) (well_formed-destroy (table_of c.self.inside) c.args.id live c.self.invariant.table);
      room = omega (arith, c.in_ok-reserve.ensures.ok);
    }

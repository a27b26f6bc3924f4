use Rattle.std.proofs.Common.{List, sym, subst}
use Rattle.snap_ids.specs.declared.id.SnapId.{SnapId}
use Rattle.snap_table.specs.Table.{WellFormed}
use Rattle.snap_table.specs.Fields.{table_of}
use Rattle.snap_table.proofs.Given.{room-taken_out}
use Rattle.snap_table.proofs.Steps.{well_formed-purged}
use Rattle.snap_table.proofs.table.SnapTable.purged.Goals as goal

pub invariant_of-self : goal.invariant_of-self
invariant_of-self c =
    let with : List SnapId → Type 0 = λ ids. WellFormed (record { last = c.self.inside.last; live = c.self.inside.live.items; unpurged = ids; outstanding = c.self.inside.outstanding }) in
    record {
      table = subst with (sym c.take_out.ensures.items) (well_formed-purged (table_of c.self.inside) c.args.id c.self.invariant.table);
      room = room-taken_out _ _ _ _ c.take_out.ensures.len c.take_out.ensures.capacity c.self.invariant.room;
    }

-- A well formed table stays one.
use Rattle.std.proofs.Common.{◌≡◌, ℕ, ◌+◌, true, nat_le, refl, None, Some, arith, subst}
use Rattle.snap_ids.specs.declared.id.SnapId.{SnapId}
use Rattle.snap_ids.specs.Context.{is_listed}
use Rattle.snap_table.specs.declared.op.TableOp.{TableOp}
use Rattle.snap_table.specs.declared.op.TableOp.TheVariants.{Create, Destroy}
use Rattle.snap_table.specs.Op.{id_of}
use Rattle.snap_table.specs.Rising.{without}
use Rattle.snap_table.specs.Table.{Table, WellFormed, after, is_given}
use Rattle.snap_table.proofs.Rises.{rises-with_id, rises-without}
use Rattle.snap_table.proofs.Given.{are_given-further, are_given-with_id, are_given-without, is_given-listed}

itself : (n : ℕ) → nat_le n n ≡ true
itself n = grind arith

-- as an id is given
pub well_formed-create : (table : Table) → WellFormed table → WellFormed (record { last = table.last + 1; live = table.live; unpurged = table.unpurged; outstanding = Some (Create (record { 0 = table.last + 1 })) })
well_formed-create table well = record {
  live = well.live;
  unpurged = well.unpurged;
  live_given = are_given-further table.last (table.last + 1) table.live (omega arith) well.live_given;
  unpurged_given = are_given-further table.last (table.last + 1) table.unpurged (omega arith) well.unpurged_given;
  outstanding_given = itself (table.last + 1);
}

-- as the destruction of a live one is prepared
pub well_formed-destroy : (table : Table) (id : SnapId) → is_listed id table.live ≡ true → WellFormed table → WellFormed (record { last = table.last; live = table.live; unpurged = table.unpurged; outstanding = Some (Destroy id) })
well_formed-destroy table id listed well = record {
  live = well.live;
  unpurged = well.unpurged;
  live_given = well.live_given;
  unpurged_given = well.unpurged_given;
  outstanding_given = is_given-listed table.last id table.live listed well.live_given;
}

-- as an operation takes effect
given-after : (table : Table) (op : TableOp) → nat_le (id_of op).0 table.last ≡ true → WellFormed table → WellFormed (after op table)
given-after table (Create id) given well = record {
  live = rises-with_id id table.live well.live;
  unpurged = well.unpurged;
  live_given = are_given-with_id table.last id table.live given well.live_given;
  unpurged_given = well.unpurged_given;
  outstanding_given = refl;
}
given-after table (Destroy id) given well = record {
  live = rises-without id table.live well.live;
  unpurged = rises-with_id id table.unpurged well.unpurged;
  live_given = are_given-without table.last id table.live well.live_given;
  unpurged_given = are_given-with_id table.last id table.unpurged given well.unpurged_given;
  outstanding_given = refl;
}

pub well_formed-after : (table : Table) (op : TableOp) → table.outstanding ≡ Some op → WellFormed table → WellFormed (after op table)
well_formed-after table op is well = given-after table op (subst (λ t. is_given table.last t ≡ true) is well.outstanding_given) well

-- as what is outstanding is given up
pub well_formed-none : (table : Table) → WellFormed table → WellFormed (record { last = table.last; live = table.live; unpurged = table.unpurged; outstanding = None })
well_formed-none table well = record {
  live = well.live;
  unpurged = well.unpurged;
  live_given = well.live_given;
  unpurged_given = well.unpurged_given;
  outstanding_given = refl;
}

-- as an id is purged
pub well_formed-purged : (table : Table) (id : SnapId) → WellFormed table → WellFormed (record { last = table.last; live = table.live; unpurged = without id table.unpurged; outstanding = table.outstanding })
well_formed-purged table id well = record {
  live = well.live;
  unpurged = rises-without id table.unpurged well.unpurged;
  live_given = well.live_given;
  unpurged_given = are_given-without table.last id table.unpurged well.unpurged_given;
  outstanding_given = well.outstanding_given;
}

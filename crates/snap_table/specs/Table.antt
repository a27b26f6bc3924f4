-- The table of snapshots, and what its operations do.
use Rattle.std.specs.Prelude.{ℕ, Bool, true, false, not, ◌&&◌, ◌==◌, nat_le, List, Option, None, Some, IsTrue}
use Rattle.std.specs.List.{list_all}
use Rattle.snap_ids.specs.declared.id.SnapId.{SnapId}
use Rattle.snap_ids.specs.Context.{is_listed}
use Rattle.snap_table.specs.declared.op.TableOp.{TableOp}
use Rattle.snap_table.specs.declared.op.TableOp.TheVariants.{Create, Destroy}
use Rattle.snap_table.specs.Op.{id_of}
use Rattle.snap_table.specs.Rising.{rises, with_id, without}

-- the greatest id that was given, the live ids, those that are destroyed and not purged, and what is outstanding
pub record Table : Type 0 where
  pub last : ℕ
  pub live : List SnapId
  pub unpurged : List SnapId
  pub outstanding : Option TableOp

-- the table after an operation took effect
abbrev pub after : TableOp → Table → Table
after (Create id) table = record { last = table.last; live = with_id id table.live; unpurged = table.unpurged; outstanding = None }
after (Destroy id) table = record { last = table.last; live = without id table.live; unpurged = with_id id table.unpurged; outstanding = None }

-- the table after what is outstanding, if anything, took effect
abbrev pub after_some : Option TableOp → Table → Table
after_some None table = table
after_some (Some op) table = after op table

abbrev pub committed : Table → Table
committed table = after_some table.outstanding table

-- the id is that of a creation that is outstanding
abbrev pub is_awaited : SnapId → Option TableOp → Bool
is_awaited id None = false
is_awaited id (Some (Create new)) = new.0 == id.0
is_awaited id (Some (Destroy old)) = false

-- the id was given, and neither lives nor may come to life: it was destroyed, or its creation was rolled back
abbrev pub is_gone : SnapId → Table → Bool
is_gone id table = nat_le 2 id.0 && nat_le id.0 table.last && not (is_listed id table.live) && not (is_awaited id table.outstanding)

-- no id is above the last one that was given
abbrev pub are_given : ℕ → List SnapId → Bool
are_given last ids = list_all (λ id. nat_le id.0 last) ids

abbrev pub is_given : ℕ → Option TableOp → Bool
is_given last None = true
is_given last (Some op) = nat_le (id_of op).0 last

-- both lists rise, and all ids were given
pub record WellFormed (table : Table) : Type 0 where
  pub live : IsTrue (rises table.live)
  pub unpurged : IsTrue (rises table.unpurged)
  pub live_given : IsTrue (are_given table.last table.live)
  pub unpurged_given : IsTrue (are_given table.last table.unpurged)
  pub outstanding_given : IsTrue (is_given table.last table.outstanding)

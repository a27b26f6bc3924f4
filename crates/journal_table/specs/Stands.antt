-- What a table of snapshots says of a journal.
use Rattle.std.specs.Prelude.{◌≡◌, ◌+◌, ◌<◌, ◌≤◌, true, List, [], map, filter, fold, Option, None, Some}
use Rattle.snap_ids.specs.declared.id.SnapId.{SnapId}
use Rattle.snap_ids.specs.Context.{is_listed}
use Rattle.plain_types.specs.declared.entry.Entry.{Entry}
use Rattle.plain_types.specs.declared.entry.What.{What}
use Rattle.plain_types.specs.declared.entry.What.TheVariants.{PrepareCreate, PrepareDestroy, Mksnap, Rmsnap, Rollback}
use Rattle.plain_tree.specs.State.{State, Snapshot}
use Rattle.plain_tree.specs.Change.{is_live}
use Rattle.plain_journal.specs.Entries.{state_after, applied}
use Rattle.plain_journal.specs.Table.{next_snap, to_purge}
use Rattle.snap_table.specs.declared.op.TableOp.{TableOp}
use Rattle.snap_table.specs.declared.op.TableOp.TheVariants.{Create, Destroy}
use Rattle.snap_table.specs.Rising.{rises}
use Rattle.snap_table.specs.Table.{Table}

-- the operation of the snapshot table that is outstanding after one more entry
abbrev pub operation_by : What → Option TableOp → Option TableOp
operation_by (PrepareCreate id) before = Some (Create id)
operation_by (PrepareDestroy id) before = Some (Destroy id)
operation_by (Mksnap id dir name) before = None
operation_by (Rmsnap id) before = None
operation_by (Rollback id) before = None
operation_by what before = before

-- the operation that was prepared, and neither made nor rolled back
abbrev pub operation : List Entry → Option TableOp
operation entries = fold (λ (before : Option TableOp) (entry : Entry). operation_by entry.what before) None entries

-- the ids of the live snapshots, in the order in which they were made
abbrev pub live_ids : State → List SnapId
live_ids state = map (λ (snap : Snapshot). snap.id) (filter is_live state.snaps)

-- one of the ids, and none of them is below it; None where there are none
abbrev pub IsLeast : Option SnapId → List SnapId → Type 0
IsLeast None ids = ids ≡ []
IsLeast (Some id) ids = (is_listed id ids ≡ true) × ((s : SnapId) → is_listed s ids ≡ true → id.0 ≤ s.0)

-- A table of snapshots stands for the entries of a journal. It gives the next id next, and no snapshot was made above the
-- last one that was given. The same snapshots live, in the same order. The same are to be purged: the journal has them by
-- their removal, and the table rising. The same operation is outstanding; where it is a creation, its id is the last one
-- that was given, and wasn't made yet.
pub record TableStands (table : Table) (entries : List Entry) : Type 0 where
  pub next : table.last + 1 ≡ next_snap entries
  pub made : applied entries ≤ table.last
  pub live : table.live ≡ live_ids (state_after entries)
  pub unpurged : (s : SnapId) → is_listed s table.unpurged ≡ is_listed s (to_purge entries)
  pub rising : rises table.unpurged ≡ true
  pub outstanding : table.outstanding ≡ operation entries
  pub awaited : (id : SnapId) → table.outstanding ≡ Some (Create id) → (id.0 ≡ table.last) × (applied entries < id.0)

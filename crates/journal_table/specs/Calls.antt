-- The call of an entry on a table of snapshots.
use Rattle.std.specs.Prelude.{◌≡◌, ◌+◌, ◌<◌, true, List, None, Some}
use Rattle.snap_ids.specs.Context.{is_listed}
use Rattle.plain_types.specs.declared.entry.Entry.{Entry}
use Rattle.plain_types.specs.declared.entry.What.{What}
use Rattle.plain_types.specs.declared.entry.What.TheVariants.{PrepareCreate, PrepareDestroy, Mksnap, Rmsnap, Rollback, Purgedone}
use Rattle.plain_journal.specs.Entries.{state_after}
use Rattle.plain_journal.specs.Legal.{is_given}
use Rattle.plain_journal.specs.Table.{next_snap, outstanding}
use Rattle.journal_moments.specs.Moments.{is_live_snap}
use Rattle.snap_table.specs.declared.op.TableOp.TheVariants.{Create, Destroy}
use Rattle.snap_table.specs.Rising.{without}
use Rattle.snap_table.specs.Table.{Table, committed, is_gone}
use Rattle.journal_table.specs.Stands.{operation}

-- The table after the call of an entry: `prepare_create`, `prepare_destroy`, `commit` at what is made and what is removed,
-- `roll_back`, `purged`. An entry without a call leaves the table.
abbrev pub called : What → Table → Table
called (PrepareCreate id) table = record table { last = id.0; outstanding = Some (Create id) }
called (PrepareDestroy id) table = record table { outstanding = Some (Destroy id) }
called (Mksnap id dir name) table = committed table
called (Rmsnap id) table = committed table
called (Rollback id) table = record table { outstanding = None }
called (Purgedone id) table = record table { unpurged = without id table.unpurged }
called what table = table

-- What an entry of a server on its table says, beyond what each journal keeps: an operation is prepared where none is
-- outstanding, a new snapshot's under the next id, below 2^62, and the removal of a live one; what is made or removed is
-- what was prepared.
abbrev pub IsRuled : List Entry → What → Type 0
IsRuled entries (PrepareCreate id) = (outstanding entries ≡ None) × (id.0 ≡ next_snap entries) × (is_given id ≡ true)
IsRuled entries (PrepareDestroy id) = (outstanding entries ≡ None) × (is_live_snap id (state_after entries).snaps ≡ true)
IsRuled entries (Mksnap id dir name) = operation entries ≡ Some (Create id)
IsRuled entries (Rmsnap id) = operation entries ≡ Some (Destroy id)
IsRuled entries what = Unit {0}

-- The call of an entry has its conditions, isn't refused, and does what the entry says: the id that is given, or the
-- operation that takes effect, is the entry's.
abbrev pub CanCall : What → Table → Type 0
CanCall (PrepareCreate id) table =
    (table.last < 4611686018427387903) × (table.outstanding ≡ None) × (id ≡ record { 0 = table.last + 1 })
CanCall (PrepareDestroy id) table = (is_listed id table.live ≡ true) × (table.outstanding ≡ None)
CanCall (Mksnap id dir name) table = table.outstanding ≡ Some (Create id)
CanCall (Rmsnap id) table = table.outstanding ≡ Some (Destroy id)
CanCall (Purgedone id) table = is_gone id table ≡ true
CanCall what table = Unit {0}

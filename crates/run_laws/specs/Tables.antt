-- What the server's tables and its entries keep.
use Rattle.std.specs.Prelude.{◌≡◌, ℕ, Bool, true, false, List, None, Some}
use Rattle.snap_ids.specs.declared.id.SnapId.{SnapId}
use Rattle.plain_types.specs.declared.entry.Entry.{Entry}
use Rattle.plain_types.specs.declared.entry.What.{What}
use Rattle.plain_types.specs.declared.entry.What.TheVariants.{PrepareCreate, PrepareDestroy, Mksnap, Rmsnap}
use Rattle.plain_journal.specs.Table.{outstanding, next_snap}

-- the entry prepares an operation on the snapshot table
abbrev pub is_prepare : What → Bool
is_prepare (PrepareCreate id) = true
is_prepare (PrepareDestroy id) = true
is_prepare what = false

-- after these entries the operation on this id is outstanding: prepared at some place, and neither made nor rolled back
abbrev pub IsOut : List Entry → SnapId → Type 0
IsOut entries id = (place : ℕ) × (outstanding entries ≡ Some (id, place))

-- What an entry on the snapshot table says fits the entries before it: an operation is prepared where none is outstanding,
-- a new snapshot's under the next id, and is made where it is outstanding.
abbrev pub EntryFits : List Entry → What → Type 0
EntryFits before (PrepareCreate id) = (outstanding before ≡ None) × (id.0 ≡ next_snap before)
EntryFits before (PrepareDestroy id) = outstanding before ≡ None
EntryFits before (Mksnap id dir name) = IsOut before id
EntryFits before (Rmsnap id) = IsOut before id
EntryFits before what = Unit {0}

-- What the entries prepare on the snapshot table, and what the clients asked for it.
use Rattle.std.specs.Prelude.{◌≡◌, ℕ, Bool, true, false, List, fold, ◌&&◌, ◌==◌, Option, None, Some}
use Rattle.std.specs.List.{list_any}
use Rattle.snap_ids.specs.declared.id.SnapId.{SnapId}
use Rattle.plain_types.specs.declared.entry.Entry.{Entry}
use Rattle.plain_types.specs.declared.entry.What.{What}
use Rattle.plain_types.specs.declared.entry.What.TheVariants.{PrepareCreate, PrepareDestroy, Mksnap, Rmsnap, Rollback}
use Rattle.plain_types.specs.declared.message.ToClient.{ToClient}
use Rattle.plain_types.specs.declared.request.Request.{Request}
use Rattle.plain_types.specs.declared.request.Request.TheVariants.{Mkdir, Rmdir}
use Rattle.plain_tree.specs.History.{stamp_of}
use Rattle.plain_tree.specs.State.{Snapshot}
use Rattle.step_table.specs.ServerState.{Asked}
use Rattle.run_laws.specs.Links.{View}

-- what these entries prepared last, and neither made nor rolled back
abbrev pub prepared_by : What → Option What → Option What
prepared_by (PrepareCreate id) before = Some (PrepareCreate id)
prepared_by (PrepareDestroy id) before = Some (PrepareDestroy id)
prepared_by (Mksnap id dir name) before = None
prepared_by (Rmsnap id) before = None
prepared_by (Rollback id) before = None
prepared_by what before = before

abbrev pub prepared : List Entry → Option What
prepared entries = fold (λ (before : Option What) (entry : Entry). prepared_by entry.what before) None entries

-- the entry that prepared it
abbrev pub prepare_by : Entry → What → Option Entry → Option Entry
prepare_by entry (PrepareCreate id) before = Some entry
prepare_by entry (PrepareDestroy id) before = Some entry
prepare_by entry (Mksnap id dir name) before = None
prepare_by entry (Rmsnap id) before = None
prepare_by entry (Rollback id) before = None
prepare_by entry what before = before

abbrev pub last_prepare : List Entry → Option Entry
last_prepare entries = fold (λ (before : Option Entry) (entry : Entry). prepare_by entry entry.what before) None entries

-- the request can come to what is prepared: a `mkdir` to a new snapshot, an `rmdir` to the removal of one
abbrev pub is_mkdir : Request → Bool
is_mkdir (Mkdir path) = true
is_mkdir asked = false

abbrev pub is_rmdir : Request → Bool
is_rmdir (Rmdir path) = true
is_rmdir asked = false

abbrev pub asks_for : What → Request → Bool
asks_for (PrepareCreate id) asked = is_mkdir asked
asks_for (PrepareDestroy id) asked = is_rmdir asked
asks_for what asked = false

-- the outstanding operation, where it is this client's, asks for what is prepared
abbrev pub AsPrepared : View
AsPrepared n c up down s =
    (a : Asked) (said : What) → s.operation ≡ Some a → a.client ≡ n → prepared s.entries ≡ Some said → asks_for said a.request ≡ true

-- the id of the last snapshot that was made when the message was
abbrev pub snap_of : ToClient → ℕ
snap_of told = (stamp_of told).snap.0

-- the snapshot is live
abbrev pub is_live : SnapId → List Snapshot → Bool
is_live id snaps = list_any (λ (snap : Snapshot). snap.live && snap.id.0 == id.0) snaps

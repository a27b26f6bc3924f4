-- A metadata server's state as its parts.
use Rattle.std.specs.Prelude.{ℕ, Bool, ◌&&◌, ◌==◌, List, Option}
use Rattle.std.specs.List.{list_any}
use Rattle.snap_ids.specs.declared.id.Ino.{Ino}
use Rattle.snap_ids.specs.declared.id.SnapId.{SnapId}
use Rattle.plain_types.specs.declared.entry.Entry.{Entry}
use Rattle.plain_types.specs.declared.history.Sent.{Sent}
use Rattle.plain_tree.specs.State.{same_ino}
use Rattle.cap_state.specs.Table.{Holding}
use Rattle.meta_state.specs.Stands.{Tables}
use Rattle.session_link.specs.Sessions.{Link}
use Rattle.snap_table.specs.Table.{Table}
use Rattle.server_holders.specs.Stands.{Marks}
use Rattle.step_table.specs.ServerState.{Asked}

-- What is written down: the tree after all entries, and the table of snapshots; the next id of a snapshot, and the
-- operation that is outstanding, with the number of its entry; how many entries are durable, those that aren't, and the ids
-- that these remove.
pub record WrittenParts : Type 0 where
  pub tree : Tables
  pub table : Table
  pub next : ℕ
  pub outstanding : Option (SnapId × ℕ)
  pub durable : ℕ
  pub buffered : List Entry
  pub removing : List SnapId

-- who holds what, and who was asked to give which file back
pub record TenureParts : Type 0 where
  pub holdings : List Holding
  pub marks : List (ℕ × Ino)

-- How many clients there are; what is written down; the clients' sessions and what they hold; what is made and not sent,
-- each with the number of entries at that time; the requests that are held, and the operations that are deferred; the
-- request of the outstanding operation; the ids whose purge and the files whose deletion was sent.
pub record Parts : Type 0 where
  pub clients : ℕ
  pub written : WrittenParts
  pub sessions : List Link
  pub tenures : TenureParts
  pub mail : List (ℕ × Sent)
  pub held : List Asked
  pub deferred : List Asked
  pub operation : Option Asked
  pub purging : List SnapId
  pub deleting : List Ino

-- a client was asked to give a file back
abbrev pub is_mark : ℕ → Ino → ℕ × Ino → Bool
is_mark client ino mark = client == mark.0 && same_ino ino mark.1

abbrev pub marks_in : List (ℕ × Ino) → Marks
marks_in marks = λ client ino. list_any (is_mark client ino) marks

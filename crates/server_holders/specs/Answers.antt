-- What is read off a table of holdings where the protocol's table is asked.
use Rattle.std.specs.Prelude.{ℕ, Bool, true, false, not, ◌&&◌, nat_lt, nat_le, List, if◌then◌else◌, Option, None, Some}
use Rattle.std.specs.List.{list_all}
use Rattle.snap_ids.specs.declared.id.Ino.{Ino}
use Rattle.snap_ids.specs.declared.id.SnapId.{SnapId}
use Rattle.snap_ids.specs.declared.values.Mode.{Mode}
use Rattle.snap_ids.specs.declared.values.Mode.TheVariants.{Read, Write}
use Rattle.cap_state.specs.Table.{Holding, writes}
use Rattle.step_table.specs.ServerState.{Holder}

-- a file is held for Read
abbrev pub reads : Option Mode → Bool
reads None = false
reads (Some Read) = true
reads (Some Write) = false

-- a file is held for Write
abbrev pub may_write : Option Mode → Bool
may_write None = false
may_write (Some Read) = false
may_write (Some Write) = true

-- the client that owes a file's flush for a snapshot: the file's writer, where the snapshot covers the file and is above
-- what the writer settled
abbrev pub owing_by : Bool → SnapId → Option (ℕ × SnapId) → Option ℕ
owing_by covers id None = None
owing_by covers id (Some w) = if nat_lt w.1.0 id.0 && covers then Some w.0 else None

-- a holding owes no flush of its file, where this is the sequence id of the file's context
abbrev pub is_settled_at : (Ino → SnapId) → Holding → Bool
is_settled_at seq h = not (writes h.1.mode && nat_lt h.1.settled.0 (seq h.1.ino).0)

-- each holder is one of the clients
abbrev pub are_clients : ℕ → List Holder → Bool
are_clients clients holders = list_all (λ (h : Holder). nat_lt 0 h.client && nat_le h.client clients) holders

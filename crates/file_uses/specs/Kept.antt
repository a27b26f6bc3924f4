-- The handles as they are kept.
use Rattle.std.specs.Prelude.{ℕ, Bool, ◌==◌}
use Rattle.snap_ids.specs.declared.id.Ino.{Ino}
use Rattle.plain_tree.specs.State.{Handle}
use Rattle.plain_tree.specs.Change.{is_handle}
use Rattle.file_uses.specs.declared.handles.OpenFile.{OpenFile}

-- the handle that contracts see
abbrev pub handle_of : OpenFile → Handle
handle_of file = record { client = file.client; handle = file.handle; ino = file.opened.ino; writable = file.opened.writable }

-- it is this handle of the client
abbrev pub is_of : ℕ → ℕ → OpenFile → Bool
is_of client handle file = is_handle client handle (handle_of file)

-- it holds the file open
abbrev pub keeps_open : Ino → OpenFile → Bool
keeps_open ino file = file.opened.ino.0 == ino.0

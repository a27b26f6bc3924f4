-- What the server keeps of the orders that it sent to the store.
use Rattle.std.specs.Prelude.{[], ◌∷◌, ◌++◌}
use Rattle.snap_ids.specs.declared.id.Ino.{Ino}
use Rattle.snap_ids.specs.declared.id.SnapId.{SnapId}
use Rattle.step_table.specs.ServerState.{Server}

-- the purge of an id was sent
abbrev pub purge_noted : Server → SnapId → Server
purge_noted s id = record s { purging = s.purging ++ id ∷ [] }

-- the deletion of a file was sent
abbrev pub delete_noted : Server → Ino → Server
delete_noted s ino = record s { deleting = s.deleting ++ ino ∷ [] }

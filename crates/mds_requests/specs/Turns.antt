-- A held request whose turn it is.
use Rattle.std.specs.Prelude.{false, List, ◌∷◌}
use Rattle.step_table.specs.Acts.{Act, TakeHeld, act}
use Rattle.step_table.specs.Requests.{treat}
use Rattle.step_table.specs.ServerState.{Asked, Server}

-- it comes into the hand and is treated
abbrev pub redo : Server → Asked → List Act
redo t a = TakeHeld a.client ∷ treat false (act t (TakeHeld a.client)) a

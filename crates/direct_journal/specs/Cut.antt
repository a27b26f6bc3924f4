-- The one cut of a snapshot in a direct history, and its tree. A direct history is a special case with a definition of its
-- own: no message tells its client of a snapshot, so the client hears of it at the event that makes it.
use Rattle.std.specs.Prelude.{ℕ, ◌+◌, max, Bool, List, [], ◌∷◌, length, filter, if◌then◌else◌}
use Rattle.std.specs.List.{list_any}
use Rattle.snap_ids.specs.declared.id.SnapId.{SnapId}
use Rattle.plain_types.specs.declared.change.Effect.{Effect}
use Rattle.plain_types.specs.declared.history.Event.{Event}
use Rattle.plain_tree.specs.State.{State}
use Rattle.plain_tree.specs.Change.{state_after}
use Rattle.plain_tree.specs.History.{effects, is_of, makes, before_snap, told}
use Rattle.plain_tree.specs.Cut.{keep}

-- the effect makes the snapshot
abbrev pub is_making : SnapId → Effect → Bool
is_making s effect = makes s effect.change

-- the event that makes a snapshot, at which its client hears of it; the end where none does
abbrev pub mark : List Event → SnapId → ℕ
mark [] s = 0
mark (event ∷ history) s = if list_any (is_making s) event.effects then 0 else mark history s + 1

-- how many of a client's changes a snapshot holds: those that took effect before it was made, and those that the client
-- had been answered when it heard of it
abbrev pub cut : List Event → SnapId → ℕ → ℕ
cut history s client =
    max (length (filter (is_of client) (before_snap s (effects history)))) (told history client (mark history s))

-- the tree of a snapshot: what the changes that its cut keeps make
abbrev pub tree : List Event → SnapId → State
tree history s = state_after (keep (cut history s) (effects history))

-- What the table runs is legal.
use Rattle.std.proofs.Common.{◌≡◌, refl, ◌∷◌, [], List, Option, None, Some}
use Rattle.plain_types.specs.declared.history.Step.{Step}
use Rattle.step_table.specs.Legal.{LegalFrom}
use Rattle.step_table.specs.World.{World, Made, row, event_of, run}

-- the events of a step and of those behind it
pub runs-at : (w : World) → (step : Step) → (steps : List Step) → (made : Option Made) → row w step ≡ made
    → ((next : World) → LegalFrom next (run next steps))
    → LegalFrom w (elim made [ None ↦ [] | Some m ↦ event_of step m ∷ run m.world steps ])
runs-at w step steps None is later = record {}
runs-at w step steps (Some m) is later =
    rw is (record { 0 = record { node = refl; taken = refl; sent = refl; effects = refl; replies = refl }; 1 = later m.world })

pub runs : (steps : List Step) → (w : World) → LegalFrom w (run w steps)
runs [] w = record {}
runs (step ∷ steps) w = runs-at w step steps (row w step) refl (runs steps)

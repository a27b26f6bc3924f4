-- What stands at a moment of a history.
use Rattle.std.specs.Prelude.{List, map}
use Rattle.plain_types.specs.declared.history.Event.{Event}
use Rattle.plain_types.specs.declared.history.Step.{Step}
use Rattle.plain_types.specs.declared.script.Script.{Script}
use Rattle.step_table.specs.World.{World, start, after}

-- the steps of a history's events
abbrev pub steps_of : List Event → List Step
steps_of history = map (λ (event : Event). event.step) history

-- the world after a history's events
abbrev pub world_after : Script → List Event → World
world_after script history = after (start script) (steps_of history)

-- The table's own run of a history's steps, and one step more.
use Rattle.std.proofs.Common.{◌≡◌, List, [], ◌∷◌, ◌++◌, Option, None, Some, refl, ap, ◌∙◌}
use Rattle.plain_types.specs.declared.history.Event.{Event}
use Rattle.plain_types.specs.declared.history.Step.{Step}
use Rattle.plain_types.specs.declared.script.Script.{Script}
use Rattle.step_table.specs.Legal.{IsEventOf, LegalFrom}
use Rattle.step_table.specs.World.{World, Made, row, after_row, after, event_of, run, start}
use Rattle.run_laws.specs.Moments.{steps_of, world_after}

-- the table runs the steps of a history whose events are its rows', and goes on with others
run_steps : (w : World) (history : List Event) (more : List Step) → LegalFrom w history → steps_of (run w (steps_of history ++ more)) ≡ steps_of history ++ steps_of (run (after w (steps_of history)) more)
run_steps w [] more legal = refl
run_steps w (event ∷ history) more legal = by_row (row w event.step) legal (λ v. run_steps v history more)
  where
    by_row : (o : Option Made) → elim o as (λ _. Type 0) [ None ↦ ⊥ | Some made ↦ IsEventOf event made × LegalFrom made.world history ]
        → ((v : World) → LegalFrom v history → steps_of (run v (steps_of history ++ more)) ≡ steps_of history ++ steps_of (run (after v (steps_of history)) more))
        → steps_of (elim o [ None ↦ [] | Some made ↦ event_of event.step made ∷ run made.world (steps_of history ++ more) ]) ≡ event.step ∷ (steps_of history ++ steps_of (run (after (after_row w o) (steps_of history)) more))
    by_row None wrong go = absurd wrong
    by_row (Some made) is go = ap (λ (steps : List Step). event.step ∷ steps) (go made.world is.1)

after_append : (w : World) (some more : List Step) → after w (some ++ more) ≡ after (after w some) more
after_append w [] more = refl
after_append w (step ∷ some) more = after_append (after_row w (row w step)) some more

-- one step
after_one : (w : World) (step : Step) → after w (steps_of (run w (step ∷ []))) ≡ after_row w (row w step)
after_one w step = by_row (row w step) refl
  where
    by_row : (o : Option Made) → row w step ≡ o → after w (steps_of (elim o [ None ↦ [] | Some made ↦ event_of step made ∷ [] ])) ≡ after_row w o
    by_row None is = refl
    by_row (Some made) is = ap (after_row w) is

-- the history that the table runs
abbrev pub one_more : Script → List Event → Step → List Event
one_more script history step = run (start script) (steps_of history ++ step ∷ [])

pub world_one_more : (script : Script) (history : List Event) (step : Step) → LegalFrom (start script) history → world_after script (one_more script history step) ≡ after_row (world_after script history) (row (world_after script history) step)
world_one_more script history step legal =
    ap (after (start script)) (run_steps (start script) history (step ∷ []) legal)
    ∙ after_append (start script) (steps_of history) (steps_of (run (world_after script history) (step ∷ [])))
    ∙ after_one (world_after script history) step

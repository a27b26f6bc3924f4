-- A history's events are those that the table makes of its steps.
use Rattle.std.proofs.Common.{◌≡◌, List, [], ◌∷◌, map, Option, None, Some, refl, ap, sym, ◌∙◌}
use Rattle.plain_types.specs.declared.history.Event.{Event}
use Rattle.plain_types.specs.declared.script.Script.{Script}
use Rattle.step_table.specs.Legal.{IsEventOf, Legal, LegalFrom}
use Rattle.step_table.specs.World.{World, Made, row, event_of, run, start}
use Rattle.run_laws.specs.Moments.{steps_of}
use Rattle.run_laws.specs.Plain.{plain_event}

one_is : (event : Event) (made : Made) → IsEventOf event made → plain_event event ≡ plain_event (event_of event.step made)
one_is event made is = rw (is.node, is.taken, is.sent, is.effects, is.replies) refl

pub made_from : (w : World) (history : List Event) → LegalFrom w history → map plain_event history ≡ map plain_event (run w (steps_of history))
made_from w [] legal = refl
made_from w (event ∷ history) legal = go (row w event.step) (λ next rest. made_from next history rest) legal
  where
    go : (made : Option Made) → ((next : World) → LegalFrom next history → map plain_event history ≡ map plain_event (run next (steps_of history))) → elim made as (λ _. Type 0) [ None ↦ ⊥ | Some made ↦ IsEventOf event made × LegalFrom made.world history ] → plain_event event ∷ map plain_event history ≡ map plain_event (elim made as (λ _. List Event) [ None ↦ [] | Some made ↦ event_of event.step made ∷ run made.world (steps_of history) ])
    go None later legal = absurd legal
    go (Some made) later legal = rw (one_is event made legal.0, later made.world legal.1) refl

pub same_from : (script : Script) (history other : List Event) → Legal history script → Legal other script → steps_of history ≡ steps_of other → map plain_event history ≡ map plain_event other
same_from script history other legal others same =
    made_from (start script) history legal.rows
    ∙ ap (λ steps. map plain_event (run (start script) steps)) same
    ∙ sym (made_from (start script) other others.rows)
